-- The first fault of a list is that of the first item that has one, told by the items before it.
use Rattle.std.proofs.Common.{◌≡◌, ℕ, ◌+◌, Bool, true, false, cond, List, [], ◌∷◌, ◌++◌, length, map, Option, Some, None, refl, sym, ap, ◌∙◌, arith, append_assoc, append-nil}
use Rattle.std.specs.Prelude.{fold, ◌↔◌}
use Rattle.st_base.specs.declared.fault.Fault.{Fault}
use Rattle.st_base.specs.Faults.{fault_at, first_fault}
use Rattle.st_base.specs.declared.fault.TheConstants.{TWICE, UNDEFINED}
use Rattle.nlist_codec.specs.declared.named.Named.{Named}
use Rattle.reloc.specs.declared.reloc.Reloc.{Reloc}
use Rattle.reloc.specs.Sums.{applied}
use Rattle.aout_object.specs.Decoding.{fault_or}
use Rattle.aout_link.specs.Sources.{Source}
use Rattle.aout_link.specs.declared.moves.Starts.{Starts}
use Rattle.aout_link.specs.declared.definitions.Known.{Known}
use Rattle.aout_link.specs.Moves.{moves_of, moves_after, all_moves, starts_of}
use Rattle.aout_link.specs.NameTables.{entries_of, names_table}
use Rattle.aout_link.specs.Placing.{Frame, placed_entry, amount, relocated}
use Rattle.aout_link.specs.Refusals.{fault_in, empty_fault, order_fault, machine_fault, first_that, defines_again, twice_fault, twice_in, is_lacking, undefined_fault, undefined_in, address_fault, reloc_checks, relocs_fault, object_fault, relocs_in, list_fault}
use Rattle.aout_link.specs.FirstOfList.{HasFirst, stages, stage_fault, difference, object_twice, object_undefined, object_relocs, entry_twice, entry_undefined, reloc_fault}

-- ---- a walk that keeps a state, on which each item steps

module _ {S A : Type 0} (step : S → A → S) (test : S → A → Option Fault) where
  -- the first fault that the test gives
  abbrev first_from : S → List A → Option Fault
  first_from s [] = None
  first_from s (x ∷ xs) = fault_or (test s x) (first_from (step s x) xs)

  -- no item has a fault
  abbrev NoneFrom : S → List A → Type 0
  NoneFrom s xs = (front : List A) (x : A) (back : List A) → xs ≡ front ++ x ∷ back → test (fold step s front) x ≡ None

  -- this is the fault of the first that has one
  abbrev FirstFrom : S → List A → Fault → Type 0
  FirstFrom s xs fault =
      (front : List A) × (x : A) × (back : List A) × (xs ≡ front ++ x ∷ back) × (test (fold step s front) x ≡ Some fault) × NoneFrom s front

-- equal lists have equal heads and tails
head_of : {A : Type 0} (x y : A) (xs ys : List A) → x ∷ xs ≡ y ∷ ys → (x ≡ y) × (xs ≡ ys)
head_of x y xs ys e = (cc, cc)

module _ {S A : Type 0} (step : S → A → S) (test : S → A → Option Fault) where
  -- where the walk finds nothing, no item has a fault
  none_items : (s : S) (xs : List A) → first_from step test s xs ≡ None → NoneFrom step test s xs
  none_items s [] e [] x back is = absurd (let h : [] ≡ x ∷ back = is in cc)
  none_items s [] e (y ∷ front) x back is = absurd (let h : [] ≡ y ∷ (front ++ x ∷ back) = is in cc)
  none_items s (z ∷ xs) e [] x back is =
      ap (test s) (sym (head_of z x xs back is).0) ∙ left (test s z) (first_from step test (step s z) xs) e
    where
      left : (a b : Option Fault) → fault_or a b ≡ None → a ≡ None
      left None b h = refl
      left (Some f) b h = absurd (let k : Some f ≡ None = h in cc)
  none_items s (z ∷ xs) e (y ∷ front) x back is =
      let parts = head_of z y xs (front ++ x ∷ back) is in
      ap (λ (w : A). test (fold step (step s w) front) x) (sym parts.0)
      ∙ none_items (step s z) xs (right (test s z) (first_from step test (step s z) xs) e) front x back parts.1
    where
      right : (a b : Option Fault) → fault_or a b ≡ None → b ≡ None
      right None b h = h
      right (Some f) b h = absurd (let k : Some f ≡ None = h in cc)

  -- and the other way round
  items_none : (s : S) (xs : List A) → NoneFrom step test s xs → first_from step test s xs ≡ None
  items_none s [] h = refl
  items_none s (x ∷ xs) h =
      ap (λ (o : Option Fault). fault_or o (first_from step test (step s x) xs)) (h [] x xs refl)
      ∙ items_none (step s x) xs (λ front y back e. h (x ∷ front) y back (ap (λ (r : List A). x ∷ r) e))

  -- the walk finds nothing exactly where no item has a fault
  pub none_exactly : (s : S) (xs : List A) → (first_from step test s xs ≡ None) ↔ NoneFrom step test s xs
  none_exactly s xs = (none_items s xs, items_none s xs)

  -- an item without a fault before others without one
  step_none : (s : S) (x : A) (front : List A) → test s x ≡ None → NoneFrom step test (step s x) front → NoneFrom step test s (x ∷ front)
  step_none s x front here h = none_items s (x ∷ front) (ap (λ (o : Option Fault). fault_or o (first_from step test (step s x) front)) here ∙ items_none (step s x) front h)

  -- what the walk finds is the fault of the first item that has one
  some_items : (s : S) (xs : List A) (fault : Fault) → first_from step test s xs ≡ Some fault → FirstFrom step test s xs fault
  some_items s [] fault e = absurd (let h : None ≡ Some fault = e in cc)
  some_items s (x ∷ xs) fault e = by (test s x) refl e (some_items (step s x) xs fault)
    where
      by : (o : Option Fault) → test s x ≡ o → fault_or o (first_from step test (step s x) xs) ≡ Some fault
          → (first_from step test (step s x) xs ≡ Some fault → FirstFrom step test (step s x) xs fault) → FirstFrom step test s (x ∷ xs) fault
      by (Some f) is g rest = ([], x, xs, refl, is ∙ g, λ front y back h. nothing front y back h)
        where
          nothing : (front : List A) (y : A) (back : List A) → [] ≡ front ++ y ∷ back → test (fold step s front) y ≡ None
          nothing [] y back h = absurd (let k : [] ≡ y ∷ back = h in cc)
          nothing (z ∷ front) y back h = absurd (let k : [] ≡ z ∷ (front ++ y ∷ back) = h in cc)
      by None is g rest =
          let r = rest g in
          (x ∷ r.0, r.1, r.2, ap (λ (l : List A). x ∷ l) r.3, r.4, step_none s x r.0 is r.5)

  -- and the other way round
  items_some : (s : S) (front : List A) (x : A) (back : List A) (fault : Fault) → test (fold step s front) x ≡ Some fault → first_from step test s front ≡ None
      → first_from step test s (front ++ x ∷ back) ≡ Some fault
  items_some s [] x back fault is none = ap (λ (o : Option Fault). fault_or o (first_from step test (step s x) back)) is
  items_some s (y ∷ front) x back fault is none = by (test s y) none (items_some (step s y) front x back fault is)
    where
      by : (o : Option Fault) → fault_or o (first_from step test (step s y) front) ≡ None
          → (first_from step test (step s y) front ≡ None → first_from step test (step s y) (front ++ x ∷ back) ≡ Some fault)
          → fault_or o (first_from step test (step s y) (front ++ x ∷ back)) ≡ Some fault
      by None h rest = rest h
      by (Some f) h rest = absurd (let k : Some f ≡ None = h in cc)

  -- the walk finds exactly the fault of the first item that has one
  pub first_exactly : (s : S) (xs : List A) (fault : Fault) → (first_from step test s xs ≡ Some fault) ↔ FirstFrom step test s xs fault
  first_exactly s xs fault = (
    some_items s xs fault,
    λ (h : FirstFrom step test s xs fault). ap (first_from step test s) h.3 ∙ items_some s h.0 h.1 h.2 fault h.4 (items_none s h.0 h.5),
  )

-- where the state before an item is told by the items before it, so is its fault
positional : {S A : Type 0} (step : S → A → S) (test : S → A → Option Fault) (s : S) (told : List A → A → Option Fault)
    → ((front : List A) (x : A) → test (fold step s front) x ≡ told front x)
    → (xs : List A) (fault : Fault) → (first_from step test s xs ≡ Some fault) ↔ HasFirst told xs fault
positional {S} {A} step test s told same xs fault =
    let first = first_exactly step test s xs fault in (
      λ e. (let h = first.0 e in (h.0, h.1, h.2, h.3, sym (same h.0 h.1) ∙ h.4, λ front x back is. sym (same front x) ∙ h.5 front x back is)),
      λ (h : HasFirst told xs fault). first.1 (h.0, h.1, h.2, h.3, same h.0 h.1 ∙ h.4, λ front x back is. same front x ∙ h.5 front x back is),
    )

-- the same of what is the fault of such a walk
walked : {S A : Type 0} (step : S → A → S) (test : S → A → Option Fault) (s : S) (told : List A → A → Option Fault)
    → ((front : List A) (x : A) → test (fold step s front) x ≡ told front x)
    → (xs : List A) (own : Option Fault) → own ≡ first_from step test s xs → (fault : Fault) → (own ≡ Some fault) ↔ HasFirst told xs fault
walked step test s told same xs own is fault =
    let first = positional step test s told same xs fault in (λ e. first.0 (sym is ∙ e), λ h. is ∙ first.1 h)

-- a test that is made of an item, before the rest
test_first : (b : Bool) (fault : Fault) (whole rest : Option Fault) → whole ≡ rest → cond b (Some fault) whole ≡ fault_or (cond b (Some fault) None) rest
test_first true fault whole rest e = refl
test_first false fault whole rest e = e

-- ---- states

-- a count
abbrev counted : {A : Type 0} → ℕ → A → ℕ
counted k x = k + 1

-- a count goes up by the number of items
fold-counted : {A : Type 0} (k : ℕ) (front : List A) → fold counted k front ≡ k + length front
fold-counted k [] = omega arith
fold-counted k (x ∷ front) = fold-counted (k + 1) front ∙ omega arith

-- the items so far, and a count
abbrev gathered : {A : Type 0} → List A × ℕ → A → List A × ℕ
gathered s x = (s.0 ++ x ∷ [], s.1 + 1)

-- behind some items, these are all so far
fold-gathered : {A : Type 0} (before : List A) (k : ℕ) (front : List A) → fold gathered (before, k) front ≡ (before ++ front, k + length front)
fold-gathered before k [] = let e : k ≡ k + 0 = omega arith in ap (λ l. (l, k)) (sym (append-nil before)) ∙ ap (λ (j : ℕ). (before ++ [], j)) e
fold-gathered before k (x ∷ front) =
    let n : k + 1 + length front ≡ k + length (x ∷ front) = omega arith in
    fold-gathered (before ++ x ∷ []) (k + 1) front
    ∙ ap (λ l. (l, k + 1 + length front)) (append_assoc before (x ∷ []) front) ∙ ap (λ (j : ℕ). (before ++ x ∷ front, j)) n

-- from 0 on
count_all : {A : Type 0} (front : List A) → fold counted 0 front ≡ length front
count_all front = fold-counted 0 front ∙ omega arith

-- the items so far and their number, from 0 on
gather_all : {A : Type 0} (before front : List A) → fold gathered (before, 0) front ≡ (before ++ front, length front)
gather_all before front = let e : 0 + length front ≡ length front = omega arith in fold-gathered before 0 front ∙ ap (λ (j : ℕ). (before ++ front, j)) e

-- ---- stages

-- a fault, else none
or_nothing : (o : Option Fault) → fault_or o None ≡ o
or_nothing None = refl
or_nothing (Some f) = refl

-- a state that says nothing
abbrev nothing : Unit {0} → Option Fault → Unit {0}
nothing s stage = tt

-- the fault of a stage
abbrev own_fault : Unit {0} → Option Fault → Option Fault
own_fault s stage = stage

-- the fault of a list is that of a walk over the stages
list_first : (base : ℕ) (os : List Source) → list_fault base os ≡ first_from nothing own_fault tt (stages base os)
list_first base os =
    ap (λ (o : Option Fault). fault_or (empty_fault os) (fault_or (order_fault os) (fault_or (machine_fault os) (fault_or (twice_in [] 0 os)
    (fault_or (undefined_in (names_table base os) 0 os) (fault_or (address_fault base os) o))))))
    (sym (or_nothing (relocs_in (names_table base os) 0 (all_moves base os) os)))

-- so it is that of the first stage that has one
pub stages_first : (base : ℕ) (os : List Source) (fault : Fault) → (list_fault base os ≡ Some fault) ↔ HasFirst stage_fault (stages base os) fault
stages_first base os = walked nothing own_fault tt stage_fault (λ front x. refl) (stages base os) (list_fault base os) (list_first base os)

-- ---- objects

module _ (differs : Source → Bool) (number : ℕ) where
  -- the fault of object k that differs
  abbrev differs_from : ℕ → Source → Option Fault
  differs_from k o = cond (differs o) (Some (fault_at number k)) None

  -- the first object that differs is found by a walk that counts
  that_first : (k : ℕ) (os : List Source) → first_that differs number k os ≡ first_from counted differs_from k os
  that_first k [] = refl
  that_first k (o ∷ os) = test_first (differs o) (fault_at number k) (first_that differs number (k + 1) os) _ (that_first (k + 1) os)

  -- so it is told by the objects before it
  pub alike_first : (os : List Source) (fault : Fault) → (first_that differs number 0 os ≡ Some fault) ↔ HasFirst (difference differs number) os fault
  alike_first os =
      walked counted differs_from 0 (difference differs number) (λ front o. ap (λ (k : ℕ). differs_from k o) (count_all front)) os
      (first_that differs number 0 os) (that_first 0 os)

-- the entries of the objects so far, and their number
abbrev with_entries : List Named × ℕ → Source → List Named × ℕ
with_entries s o = (s.0 ++ o.named, s.1 + 1)

-- behind some objects, these are the entries of all so far
fold-with_entries : (before : List Named) (k : ℕ) (front : List Source) → fold with_entries (before, k) front ≡ (before ++ entries_of front, k + length front)
fold-with_entries before k [] = let e : k ≡ k + 0 = omega arith in ap (λ l. (l, k)) (sym (append-nil before)) ∙ ap (λ (j : ℕ). (before ++ [], j)) e
fold-with_entries before k (o ∷ front) =
    let n : k + 1 + length front ≡ k + length (o ∷ front) = omega arith in
    fold-with_entries (before ++ o.named) (k + 1) front
    ∙ ap (λ l. (l, k + 1 + length front)) (append_assoc before o.named (entries_of front)) ∙ ap (λ (j : ℕ). (before ++ entries_of (o ∷ front), j)) n

-- the same from 0 on
entries_all : (front : List Source) → fold with_entries ([], 0) front ≡ (entries_of front, length front)
entries_all front = let e : 0 + length front ≡ length front = omega arith in fold-with_entries [] 0 front ∙ ap (λ (j : ℕ). (entries_of front, j)) e

-- the fault of the definitions of an object
abbrev twice_from : List Named × ℕ → Source → Option Fault
twice_from s o = twice_fault s.0 s.1 0 o.named

-- the first second definition is found by a walk over objects
twice_in-from : (before : List Named) (k : ℕ) (os : List Source) → twice_in before k os ≡ first_from with_entries twice_from (before, k) os
twice_in-from before k [] = refl
twice_in-from before k (o ∷ os) = ap (fault_or (twice_fault before k 0 o.named)) (twice_in-from (before ++ o.named) (k + 1) os)

-- so it is told by the objects before it
pub twice_first : (os : List Source) (fault : Fault) → (twice_in [] 0 os ≡ Some fault) ↔ HasFirst object_twice os fault
twice_first os =
    walked with_entries twice_from ([], 0) object_twice (λ front o. ap (λ s. twice_from s o) (entries_all front)) os (twice_in [] 0 os) (twice_in-from [] 0 os)

module _ (table : List (List ℕ × Known)) where
  -- the fault of the undefined entries of object k
  abbrev undefined_from : ℕ → Source → Option Fault
  undefined_from k o = undefined_fault table k 0 o.named

  -- the first undefined entry is found by a walk over objects
  undefined_in-from : (k : ℕ) (os : List Source) → undefined_in table k os ≡ first_from counted undefined_from k os
  undefined_in-from k [] = refl
  undefined_in-from k (o ∷ os) = ap (fault_or (undefined_fault table k 0 o.named)) (undefined_in-from (k + 1) os)

  -- so it is told by the objects before it
  pub undefined_first : (os : List Source) (fault : Fault) → (undefined_in table 0 os ≡ Some fault) ↔ HasFirst (object_undefined table) os fault
  undefined_first os =
      walked counted undefined_from 0 (object_undefined table) (λ front o. ap (λ (k : ℕ). undefined_from k o) (count_all front)) os
      (undefined_in table 0 os) (undefined_in-from 0 os)

  -- the fault of the relocations of an object
  abbrev relocs_of : Starts → List Source × ℕ → Source → Option Fault
  relocs_of s b o = object_fault b.1 (moves_of s b.0 o) (map (placed_entry table (moves_of s b.0 o)) o.named) o

  -- the first fault of relocations is found by a walk over objects
  relocs_in-from : (s : Starts) (before : List Source) (k : ℕ) (os : List Source)
      → relocs_in table k (moves_after s before os) os ≡ first_from gathered (relocs_of s) (before, k) os
  relocs_in-from s before k [] = refl
  relocs_in-from s before k (o ∷ os) = ap (fault_or (relocs_of s (before, k) o)) (relocs_in-from s (before ++ o ∷ []) (k + 1) os)

  -- so it is told by the objects before it
  pub relocs_first : (base : ℕ) (os : List Source) (fault : Fault)
      → (relocs_in table 0 (all_moves base os) os ≡ Some fault) ↔ HasFirst (object_relocs table (starts_of base os)) os fault
  relocs_first base os =
      let s = starts_of base os in
      walked gathered (relocs_of s) ([], 0) (object_relocs table s) (λ front o. ap (λ b. relocs_of s b o) (gather_all [] front)) os
      (relocs_in table 0 (all_moves base os) os) (relocs_in-from s [] 0 os)

-- ---- entries of an object

module _ (earlier : List Named) (k : ℕ) where
  -- the fault of entry j that defines a name again
  abbrev again_from : List Named × ℕ → Named → Option Fault
  again_from s n = cond (defines_again s.0 n) (Some (fault_in TWICE k s.1)) None

  -- the first of them in an object is found by a walk over entries
  again-from : (before : List Named) (j : ℕ) (ns : List Named) → twice_fault before k j ns ≡ first_from gathered again_from (before, j) ns
  again-from before j [] = refl
  again-from before j (n ∷ ns) =
      test_first (defines_again before n) (fault_in TWICE k j) (twice_fault (before ++ n ∷ []) k (j + 1) ns) _ (again-from (before ++ n ∷ []) (j + 1) ns)

  -- so it is told by the entries before it
  pub entry_twice_first : (ns : List Named) (fault : Fault) → (twice_fault earlier k 0 ns ≡ Some fault) ↔ HasFirst (entry_twice earlier k) ns fault
  entry_twice_first ns =
      walked gathered again_from (earlier, 0) (entry_twice earlier k) (λ front n. ap (λ s. again_from s n) (gather_all earlier front)) ns
      (twice_fault earlier k 0 ns) (again-from earlier 0 ns)

module _ (table : List (List ℕ × Known)) (k : ℕ) where
  -- the fault of entry j that stands for nothing
  abbrev lacking_from : ℕ → Named → Option Fault
  lacking_from j n = cond (is_lacking table n) (Some (fault_in UNDEFINED k j)) None

  -- the first of them in an object is found by a walk over entries
  lacking-from : (j : ℕ) (ns : List Named) → undefined_fault table k j ns ≡ first_from counted lacking_from j ns
  lacking-from j [] = refl
  lacking-from j (n ∷ ns) = test_first (is_lacking table n) (fault_in UNDEFINED k j) (undefined_fault table k (j + 1) ns) _ (lacking-from (j + 1) ns)

  -- so it is told by the entries before it
  pub entry_undefined_first : (ns : List Named) (fault : Fault) → (undefined_fault table k 0 ns ≡ Some fault) ↔ HasFirst (entry_undefined table k) ns fault
  entry_undefined_first ns =
      walked counted lacking_from 0 (entry_undefined table k) (λ front n. ap (λ (j : ℕ). lacking_from j n) (count_all front)) ns
      (undefined_fault table k 0 ns) (lacking-from 0 ns)

-- ---- relocations of a segment

module _ (big : Bool) (k : ℕ) (f : Frame) where
  -- what those before one left, and its number
  abbrev reloc_step : List ℕ × ℕ → Reloc → List ℕ × ℕ
  reloc_step s r = (applied big s.0 r (amount f r), s.1 + 1)

  -- the fault of a relocation
  abbrev reloc_from : List ℕ × ℕ → Reloc → Option Fault
  reloc_from s r = first_fault (reloc_checks big k s.1 f s.0 r)

  -- behind some relocations, the segment is relocated by them
  fold-reloc_step : (segment : List ℕ) (i : ℕ) (front : List Reloc) → fold reloc_step (segment, i) front ≡ (relocated big f segment front, i + length front)
  fold-reloc_step segment i [] = let e : i ≡ i + 0 = omega arith in ap (λ (j : ℕ). (segment, j)) e
  fold-reloc_step segment i (r ∷ front) =
      let n : i + 1 + length front ≡ i + length (r ∷ front) = omega arith in
      fold-reloc_step (applied big segment r (amount f r)) (i + 1) front
      ∙ ap (λ (j : ℕ). (relocated big f segment (r ∷ front), j)) n

  -- the first fault of a segment is found by a walk over relocations
  reloc-from : (segment : List ℕ) (i : ℕ) (rs : List Reloc) → relocs_fault big k i f segment rs ≡ first_from reloc_step reloc_from (segment, i) rs
  reloc-from segment i [] = refl
  reloc-from segment i (r ∷ rs) =
      ap (fault_or (first_fault (reloc_checks big k i f segment r))) (reloc-from (applied big segment r (amount f r)) (i + 1) rs)

  -- so it is told by the relocations before it
  pub reloc_first : (segment : List ℕ) (i : ℕ) (rs : List Reloc) (fault : Fault)
      → (relocs_fault big k i f segment rs ≡ Some fault) ↔ HasFirst (reloc_fault big k i f segment) rs fault
  reloc_first segment i rs =
      walked reloc_step reloc_from (segment, i) (reloc_fault big k i f segment)
      (λ front r. ap (λ s. reloc_from s r) (fold-reloc_step segment i front)) rs (relocs_fault big k i f segment rs) (reloc-from segment i rs)
