-- The definitions so far, and what is still to be asked of the entries that are left.
use Rattle.std.proofs.Common.{◌≡◌, ℕ, ◌+◌, ◌<◌, ◌≤◌, Bool, true, false, cond, List, [], ◌∷◌, ◌++◌, length, map, filter, take, drop, get_or, Option, Some, None, refl, sym, ap, subst, ◌∙◌, is_some, arith, append_assoc, append-nil}
use Rattle.std.specs.Prelude.{bytes_eq, not, ◌&&◌, ◌||◌}
use Rattle.std.specs.List.{list_any}
use Rattle.std.specs.Map.{lookup}
use Rattle.std.proofs.lemmas.List.{drop_more, take_all, drop_all, map-append}
use Rattle.std.proofs.lemmas.List.Elements.{filter-append}
use Rattle.std.proofs.lemmas.List.Folds.{list_any-append}
use Rattle.std.proofs.lemmas.List.Concat.{flat_map-append}
use Rattle.std.specs.Prelude.{Ok}
use Rattle.st_base.specs.declared.fault.Fault.{Fault}
use Rattle.st_base.specs.declared.fault.Refused.{Refused}
use Rattle.st_base.specs.declared.fault.Refused.TheVariants as refused
use Rattle.st_base.specs.declared.fault.TheConstants.{TWICE}
use Rattle.nlist_codec.specs.declared.named.Named.{Named}
use Rattle.aout_object.specs.Decoding.{fault_or}
use Rattle.aout_link.proofs.MoveLemmas.{take_item}
use Rattle.aout_link.specs.Answering.{Tells, Defines}
use Rattle.aout_link.specs.Refusals.{defines_again, twice_fault, twice_in, fault_in, Refuses}
use Rattle.aout_link.specs.Sources.{Source}
use Rattle.nlist_codec.specs.Kinds.{defines_name}
use Rattle.aout_link.specs.NameTables.{moved_value, moved_entry, moved_all, defines, entries_of, definitions, known_by, known_of}
use Rattle.aout_link.specs.declared.moves.Moves.{Moves}
use Rattle.aout_link.specs.declared.definitions.Known.{Known}

-- what is known behind the first j entries of object k, which moves by m: the fault of all is that of those left
pub record DefinedSoFar (before : List Named) (k : ℕ) (m : Moves) (ns : List Named) (j : ℕ) (old new : List (List ℕ × Known)) : Type 0 where
  pub fault : twice_fault (before ++ take j ns) k j (drop j ns) ≡ twice_fault before k 0 ns
  pub table : new ≡ old ++ definitions (map (moved_entry m) (take j ns))
  pub tells : Tells (before ++ take j ns) new

-- what is known behind the first k objects
pub record FoundSoFar (ms : List Moves) (os : List Source) (k : ℕ) (found : List (List ℕ × Known)) : Type 0 where
  pub fault : twice_in (entries_of (take k os)) k (drop k os) ≡ twice_in [] 0 os
  pub table : found ++ definitions (moved_all (drop k ms) (drop k os)) ≡ definitions (moved_all ms os)
  pub tells : Tells (entries_of (take k os)) found

or-false : (b : Bool) → (b || false) ≡ b
or-false true = refl
or-false false = refl

-- a look-up in two lists behind each other
pub known-append : {X : Type 0} (p : List ℕ → Bool) (xs ys : List (List ℕ × X)) → is_some (lookup p (xs ++ ys)) ≡ (is_some (lookup p xs) || is_some (lookup p ys))
known-append p [] ys = refl
known-append p (e ∷ es) ys = by (p e.0) (known-append p es ys)
  where
    by : (b : Bool) → is_some (lookup p (es ++ ys)) ≡ (is_some (lookup p es) || is_some (lookup p ys))
        → is_some (cond b (Some e.1) (lookup p (es ++ ys))) ≡ (is_some (cond b (Some e.1) (lookup p es)) || is_some (lookup p ys))
    by true rest = refl
    by false rest = rest

-- one entry defines a name exactly where it is among its definitions
defines_one : (q : List ℕ) (n : Named) → is_some (known_by q (definitions (n ∷ []))) ≡ list_any (defines q) (n ∷ [])
defines_one q n = by (defines_name n.kind)
  where
    named : (b : Bool) → is_some (cond b (Some (known_of n).1) None) ≡ (b || false)
    named true = refl
    named false = refl

    by : (b : Bool) → is_some (known_by q (map known_of (cond b (n ∷ []) []))) ≡ ((b && bytes_eq q n.name) || false)
    by true = named (bytes_eq q n.name)
    by false = refl

-- the definitions of entries behind each other
pub definitions-append : (xs ys : List Named) → definitions (xs ++ ys) ≡ definitions xs ++ definitions ys
definitions-append xs ys = ap (map known_of) (filter-append (λ n. defines_name n.kind) xs ys) ∙ map-append known_of (filter (λ n. defines_name n.kind) xs) (filter (λ n. defines_name n.kind) ys)

-- one entry more
tells_push : (m : Moves) (before : List Named) (n : Named) (table new : List (List ℕ × Known)) → new ≡ table ++ definitions (moved_entry m n ∷ [])
    → Tells before table → Tells (before ++ n ∷ []) new
tells_push m before n table new e t = λ q.
    ap (λ (x : List (List ℕ × Known)). is_some (known_by q x)) e
    ∙ known-append (bytes_eq q) table (definitions (moved_entry m n ∷ []))
    ∙ ap (λ (b : Bool). b || is_some (known_by q (definitions (moved_entry m n ∷ [])))) (t q)
    ∙ ap (λ (b : Bool). list_any (defines q) before || b) (defines_one q (moved_entry m n))
    ∙ sym (list_any-append (defines q) before (n ∷ []))

-- the items left with one less
drop_item : {A : Type 0} (xs : List A) (i : ℕ) (x : A) → i < length xs → x ≡ get_or xs i x → drop i xs ≡ x ∷ drop (i + 1) xs
drop_item xs i x lt is = drop_more xs i x lt ∙ ap (λ y. y ∷ drop (i + 1) xs) (sym is)

-- an entry that defines nothing again leaves the fault to the rest
twice_skip : (before : List Named) (k j : ℕ) (n : Named) (rest : List Named) → defines_again before n ≡ false
    → twice_fault before k j (n ∷ rest) ≡ twice_fault (before ++ n ∷ []) k (j + 1) rest
twice_skip before k j n rest e = ap (λ (b : Bool). cond b (Some (fault_in TWICE k j)) (twice_fault (before ++ n ∷ []) k (j + 1) rest)) e

-- one entry further, whatever it adds to the table
pub define_step : (before : List Named) (k : ℕ) (m : Moves) (ns : List Named) (j : ℕ) (n : Named) (old table new : List (List ℕ × Known))
    → j < length ns → n ≡ get_or ns j n → defines_again (before ++ take j ns) n ≡ false → new ≡ table ++ definitions (moved_entry m n ∷ [])
    → DefinedSoFar before k m ns j old table → DefinedSoFar before k m ns (j + 1) old new
define_step before k m ns j n old table new lt is first e d =
    let taken = take_item ns j n lt is in
    let longer : before ++ take (j + 1) ns ≡ (before ++ take j ns) ++ n ∷ [] = ap (λ (x : List Named). before ++ x) taken ∙ sym (append_assoc before (take j ns) (n ∷ [])) in
    record {
      fault = ap (λ (x : List Named). twice_fault x k (j + 1) (drop (j + 1) ns)) longer ∙ sym (twice_skip (before ++ take j ns) k j n (drop (j + 1) ns) first)
          ∙ ap (twice_fault (before ++ take j ns) k j) (sym (drop_item ns j n lt is)) ∙ d.fault;
      table = e ∙ ap (λ (x : List (List ℕ × Known)). x ++ definitions (moved_entry m n ∷ [])) d.table
          ∙ append_assoc old (definitions (map (moved_entry m) (take j ns))) (definitions (moved_entry m n ∷ []))
          ∙ ap (λ (x : List (List ℕ × Known)). old ++ x) (sym (definitions-append (map (moved_entry m) (take j ns)) (moved_entry m n ∷ []))
          ∙ ap definitions (sym (map-append (moved_entry m) (take j ns) (n ∷ [])) ∙ ap (map (moved_entry m)) (sym taken)));
      tells = subst (λ (x : List Named). Tells x new) (sym longer) (tells_push m (before ++ take j ns) n table new e d.tells);
    }

-- an entry that defines nothing
pub define_skip : (before : List Named) (k : ℕ) (m : Moves) (ns : List Named) (j : ℕ) (n : Named) (old table : List (List ℕ × Known))
    → j < length ns → n ≡ get_or ns j n → defines_name n.kind ≡ false
    → DefinedSoFar before k m ns j old table → DefinedSoFar before k m ns (j + 1) old table
define_skip before k m ns j n old table lt is plain d =
    define_step before k m ns j n old table table lt is (ap (λ (b : Bool). b && list_any (defines n.name) (before ++ take j ns)) plain)
    (sym (append-nil table) ∙ ap (λ (b : Bool). table ++ map known_of (cond b (moved_entry m n ∷ []) [])) (sym plain)) d

-- an entry that defines a new name
pub define_note : (before : List Named) (k : ℕ) (m : Moves) (ns : List Named) (j : ℕ) (n : Named) (old table new : List (List ℕ × Known)) (fresh : Bool) (value : ℕ) (q : List ℕ)
    → j < length ns → n ≡ get_or ns j n → defines_name n.kind ≡ true → q ≡ n.name → fresh ≡ true → fresh ≡ not (is_some (known_by q table))
    → value ≡ moved_value m n → (fresh ≡ true → new ≡ table ++ (q, record { kind = n.kind; value = value }) ∷ [])
    → DefinedSoFar before k m ns j old table → DefinedSoFar before k m ns (j + 1) old new
define_note before k m ns j n old table new fresh value q lt is def own free told same e d =
    let absent : list_any (defines n.name) (before ++ take j ns) ≡ false = sym (d.tells n.name) ∙ not_true _ (ap (λ (x : List ℕ). not (is_some (known_by x table))) (sym own) ∙ (sym told ∙ free)) in
    define_step before k m ns j n old table new lt is
    (ap (λ (b : Bool). b && list_any (defines n.name) (before ++ take j ns)) def ∙ absent)
    (e free ∙ ap (λ (x : List ℕ). table ++ (x, record { kind = n.kind; value = value }) ∷ []) own ∙ ap (λ (x : ℕ). table ++ (n.name, record { kind = n.kind; value = x }) ∷ []) same ∙ ap (λ (b : Bool). table ++ map known_of (cond b (moved_entry m n ∷ []) [])) (sym def)) d
  where
    not_true : (b : Bool) → not b ≡ true → b ≡ false
    not_true true h = sym h
    not_true false h = refl

-- a name that is defined again
pub define_again : (before : List Named) (k : ℕ) (m : Moves) (ns : List Named) (j : ℕ) (n : Named) (old table : List (List ℕ × Known)) (fresh : Bool) (q : List ℕ)
    → j < length ns → n ≡ get_or ns j n → defines_name n.kind ≡ true → q ≡ n.name → fresh ≡ false → fresh ≡ not (is_some (known_by q table))
    → DefinedSoFar before k m ns j old table → twice_fault before k 0 ns ≡ Some (fault_in TWICE k j)
define_again before k m ns j n old table fresh q lt is def own known told d =
    let there : list_any (defines n.name) (before ++ take j ns) ≡ true = sym (d.tells n.name) ∙ not_false _ (ap (λ (x : List ℕ). not (is_some (known_by x table))) (sym own) ∙ (sym told ∙ known)) in
    let again : defines_again (before ++ take j ns) n ≡ true = ap (λ (b : Bool). b && list_any (defines n.name) (before ++ take j ns)) def ∙ there in
    sym d.fault ∙ ap (twice_fault (before ++ take j ns) k j) (drop_item ns j n lt is)
    ∙ ap (λ (b : Bool). cond b (Some (fault_in TWICE k j)) (twice_fault ((before ++ take j ns) ++ n ∷ []) k (j + 1) (drop (j + 1) ns))) again
  where
    not_false : (b : Bool) → not b ≡ false → b ≡ true
    not_false true h = refl
    not_false false h = sym h

-- all entries of an object
pub define_end : (before : List Named) (k : ℕ) (m : Moves) (ns : List Named) (j : ℕ) (old new : List (List ℕ × Known)) → length ns ≤ j
    → DefinedSoFar before k m ns j old new
    → (twice_fault before k 0 ns ≡ None) × (new ≡ old ++ definitions (map (moved_entry m) ns)) × Tells (before ++ ns) new
define_end before k m ns j old new ge d =
    let all : take j ns ≡ ns = take_all j ns ge in (
      sym d.fault ∙ ap (twice_fault (before ++ take j ns) k j) (drop_all j ns ge),
      d.table ∙ ap (λ (x : List Named). old ++ definitions (map (moved_entry m) x)) all,
      subst (λ (x : List Named). Tells (before ++ x) new) all d.tells,
    )

-- the entries of one object more
pub entries_more : (os : List Source) (k : ℕ) (o : Source) → k < length os → o ≡ get_or os k o → entries_of (take (k + 1) os) ≡ entries_of (take k os) ++ o.named
entries_more os k o lt is =
    ap entries_of (take_item os k o lt is) ∙ flat_map-append (λ x. x.named) (take k os) (o ∷ []) ∙ ap (λ (x : List Named). entries_of (take k os) ++ x) (append-nil o.named)

-- one object further
pub found_step : (ms : List Moves) (os : List Source) (k : ℕ) (m : Moves) (o : Source) (ns : List Named) (found new : List (List ℕ × Known))
    → length ms ≡ length os → k < length os → o ≡ get_or os k o → m ≡ get_or ms k m → ns ≡ o.named
    → Defines (entries_of (take k os)) k m ns (Ok tt) found new
    → FoundSoFar ms os k found → FoundSoFar ms os (k + 1) new
found_step ms os k m o ns found new same lt is_o is_m own d f =
    let D : List Named → Type 0 = λ x. Defines (entries_of (take k os)) k m x (Ok tt) found new in
    let e : Defines (entries_of (take k os)) k m o.named (Ok tt) found new = subst D own d in
    let short : k < length ms = omega arith in
    record {
      fault = ap (λ (x : List Named). twice_in x (k + 1) (drop (k + 1) os)) (entries_more os k o lt is_o)
          ∙ sym (ap (λ (x : Option Fault). fault_or x (twice_in (entries_of (take k os) ++ o.named) (k + 1) (drop (k + 1) os))) e.0)
          ∙ ap (twice_in (entries_of (take k os)) k) (sym (drop_item os k o lt is_o)) ∙ f.fault;
      table = ap (λ (x : List (List ℕ × Known)). x ++ definitions (moved_all (drop (k + 1) ms) (drop (k + 1) os))) e.1
          ∙ append_assoc found (definitions (map (moved_entry m) o.named)) (definitions (moved_all (drop (k + 1) ms) (drop (k + 1) os)))
          ∙ ap (λ (x : List (List ℕ × Known)). found ++ x) (sym (definitions-append (map (moved_entry m) o.named) (moved_all (drop (k + 1) ms) (drop (k + 1) os))))
          ∙ ap (λ (x : List Moves). found ++ definitions (moved_all x (o ∷ drop (k + 1) os))) (sym (drop_item ms k m short is_m))
          ∙ ap (λ (x : List Source). found ++ definitions (moved_all (drop k ms) x)) (sym (drop_item os k o lt is_o)) ∙ f.table;
      tells = subst (λ (x : List Named). Tells x new) (sym (entries_more os k o lt is_o)) e.2;
    }

-- the fault of an object is that of all, where those before it have none
pub found_fault : (ms : List Moves) (os : List Source) (k : ℕ) (o : Source) (ns : List Named) (found : List (List ℕ × Known)) (fault : Fault)
    → k < length os → o ≡ get_or os k o → ns ≡ o.named → twice_fault (entries_of (take k os)) k 0 ns ≡ Some fault
    → FoundSoFar ms os k found → twice_in [] 0 os ≡ Some fault
found_fault ms os k o ns found fault lt is own e f =
    sym f.fault ∙ ap (twice_in (entries_of (take k os)) k) (drop_item os k o lt is)
    ∙ ap (λ (x : Option Fault). fault_or x (twice_in (entries_of (take k os) ++ o.named) (k + 1) (drop (k + 1) os))) (ap (twice_fault (entries_of (take k os)) k 0) (sym own) ∙ e)

-- behind the last object all definitions are found
pub found_end : (ms : List Moves) (os : List Source) (k : ℕ) (found : List (List ℕ × Known)) → length ms ≡ length os → length os ≤ k → FoundSoFar ms os k found
    → (twice_in [] 0 os ≡ None) × (found ≡ definitions (moved_all ms os)) × Tells (entries_of os) found
found_end ms os k found same ge f =
    let past : length ms ≤ k = omega arith in (
      sym f.fault ∙ ap (twice_in (entries_of (take k os)) k) (drop_all k os ge),
      sym (append-nil found) ∙ ap (λ (x : List Moves). found ++ definitions (moved_all x (drop k os))) (sym (drop_all k ms past)) ∙ f.table,
      subst (λ (x : List Source). Tells (entries_of x) found) (take_all k os ge) f.tells,
    )

-- a refusal at an object is one of all
pub found_err : (ms : List Moves) (os : List Source) (k : ℕ) (o : Source) (ns : List Named) (found : List (List ℕ × Known)) (why : Refused)
    → k < length os → o ≡ get_or os k o → ns ≡ o.named → Refuses (twice_fault (entries_of (take k os)) k 0 ns) why
    → FoundSoFar ms os k found → Refuses (twice_in [] 0 os) why
found_err ms os k o ns found refused.Memory lt is own d f = tt
found_err ms os k o ns found (refused.At fault) lt is own d f = found_fault ms os k o ns found fault lt is own d f
