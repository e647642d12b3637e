-- A list of objects has no fault exactly where it is accepted.
use Rattle.std.proofs.Common.{◌≡◌, ◌≢◌, ℕ, ◌+◌, ◌≤◌, Bool, true, false, cond, List, [], ◌∷◌, ◌++◌, length, map, Option, Some, None, refl, sym, ap, subst, append_assoc, append-nil}
use Rattle.std.specs.Prelude.{◌↔◌, slice_get, nat_le}
use Rattle.std.specs.List.{AllByRecursion}
use Rattle.std.proofs.lemmas.Bool.{leb-true, le-leb}
use Rattle.std.proofs.lemmas.List.Sums.{fold_push}
use Rattle.st_base.specs.Faults.{first_fault}
use Rattle.st_base.specs.ByteOrder.{is_big}
use Rattle.st_base.specs.declared.fault.Fault.{Fault}
use Rattle.st_base.specs.declared.fault.TheConstants.{TWICE, UNDEFINED, TOO_LARGE, ORDER_MIX, MACHINE_MIX, EMPTY, OUTSIDE, SYMBOL, OVERFLOW}
use Rattle.nlist_codec.specs.declared.named.Named.{Named}
use Rattle.reloc.specs.declared.reloc.Reloc.{Reloc}
use Rattle.reloc.specs.Sums.{bytes_in, bits_in, sum_fits, field_sum, applied}
use Rattle.aout_object.specs.Decoding.{fault_or}
use Rattle.aout_link.specs.Accepted.{Passes, AllPass, ObjectPasses, Accepted}
use Rattle.aout_link.specs.Moves.{totals_of, starts_of, moves_of, moves_after, all_moves}
use Rattle.aout_link.specs.Placing.{Frame, text_frame, data_frame, placed_entry, amount, relocated, bss_of}
use Rattle.aout_link.specs.Refusals.{fault_in, defines_again, twice_fault, twice_in, is_lacking, undefined_fault, undefined_in, is_lawful, reloc_checks, relocs_fault, object_fault, text_fault, data_fault, relocs_in, has_other_order, has_other_machine, first_that, empty_fault, order_fault, machine_fault, address_fault, place_fault, list_fault}
use Rattle.aout_link.specs.Sources.{Source}
use Rattle.aout_link.specs.NameTables.{entries_of, names_table}
use Rattle.aout_link.specs.declared.moves.Moves.{Moves}
use Rattle.aout_link.specs.declared.moves.Starts.{Starts}
use Rattle.aout_link.specs.declared.definitions.Known.{Known}
use Rattle.st_base.specs.declared.sizes.TheConstants.{GREATEST_ADDRESS}

-- ---- two faults in a row

-- two faults in a row are none where both are none
or_none : (a b : Option Fault) → (fault_or a b ≡ None) ↔ ((a ≡ None) × (b ≡ None))
or_none None b = (λ e. (refl, e), λ p. p.1)
or_none (Some f) b = (λ e. absurd (let h : Some f ≡ None = e in cc), λ p. absurd (let h : Some f ≡ None = p.0 in cc))

-- a test that would refuse, before the rest
test_none : (b : Bool) (f : Fault) (rest : Option Fault) → (cond b (Some f) rest ≡ None) ↔ ((b ≡ false) × (rest ≡ None))
test_none true f rest = (λ e. absurd (let h : Some f ≡ None = e in cc), λ p. absurd (let h : true ≡ false = p.0 in cc))
test_none false f rest = (λ e. (refl, e), λ p. p.1)

-- a check that must hold, before the rest
check_none : (b : Bool) (f : Fault) (rest : Option Fault) → (cond b rest (Some f) ≡ None) ↔ ((b ≡ true) × (rest ≡ None))
check_none true f rest = (λ e. (refl, e), λ p. p.1)
check_none false f rest = (λ e. absurd (let h : Some f ≡ None = e in cc), λ p. absurd (let h : false ≡ true = p.0 in cc))

-- ---- each item with what stands before it

module _ {A : Type 0} (P : List A → A → Type 0) where
  abbrev Each : List A → List A → Type 0
  Each before [] = Unit {0}
  Each before (x ∷ xs) = P before x × Each (before ++ x ∷ []) xs

  abbrev AtEach : List A → List A → Type 0
  AtEach before xs = (front : List A) (x : A) (back : List A) → xs ≡ front ++ x ∷ back → P (before ++ front) x

  -- what holds of each item by recursion holds at each place
  each_at : (before xs : List A) → Each before xs → AtEach before xs
  each_at before [] h [] x back e = absurd (let k : [] ≡ x ∷ back = e in cc)
  each_at before [] h (y ∷ front) x back e = absurd (let k : [] ≡ y ∷ (front ++ x ∷ back) = e in cc)
  each_at before (z ∷ xs) h [] x back e =
      let same : z ≡ x = cc in
      subst (λ (b : List A). P b x) (sym (append-nil before)) (subst (P before) same h.0)
  each_at before (z ∷ xs) h (y ∷ front) x back e =
      let same : z ≡ y = cc in
      let rest : xs ≡ front ++ x ∷ back = cc in
      subst (λ (b : List A). P b x) (append_assoc before (y ∷ []) front) (each_at (before ++ y ∷ []) xs (subst (λ (w : A). Each (before ++ w ∷ []) xs) same h.1) front x back rest)

  -- and the other way round
  at_each : (before xs : List A) → AtEach before xs → Each before xs
  at_each before [] h = tt
  at_each before (x ∷ xs) h = (
    subst (λ (b : List A). P b x) (append-nil before) (h [] x xs refl),
    at_each (before ++ x ∷ []) xs (λ front y back e. subst (λ (b : List A). P b y) (sym (append_assoc before (x ∷ []) front)) (h (x ∷ front) y back (ap (λ (r : List A). x ∷ r) e))),
  )

  -- what holds of each item of two lists, the first standing before the second
  each_append : (before xs ys : List A) → Each before (xs ++ ys) ↔ (Each before xs × Each (before ++ xs) ys)
  each_append before [] ys = (λ h. (tt, subst (λ (b : List A). Each b ys) (sym (append-nil before)) h), λ p. subst (λ (b : List A). Each b ys) (append-nil before) p.1)
  each_append before (x ∷ xs) ys =
      let rest = each_append (before ++ x ∷ []) xs ys in
      let same = append_assoc before (x ∷ []) xs in (
        λ h. let r = rest.0 h.1 in ((h.0, r.0), subst (λ (b : List A). Each b ys) same r.1),
        λ p. (p.0.0, rest.1 (p.0.1, subst (λ (b : List A). Each b ys) (sym same) p.1)),
      )

-- ---- 90 and 91

-- no object differs
that_none : (d : Source → Bool) (number k : ℕ) (os : List Source) → (first_that d number k os ≡ None) ↔ AllByRecursion (λ o. d o ≡ false) os
that_none d number k [] = (λ e. tt, λ h. refl)
that_none d number k (o ∷ os) =
    let here = test_none (d o) (fault_in number k 0) (first_that d number (k + 1) os) in
    let rest = that_none d number (k + 1) os in
    (λ e. ((here.0 e).0, rest.0 (here.0 e).1), λ h. here.1 (h.0, rest.1 h.1))

-- ---- 93

abbrev IsNew : List Named → Named → Type 0
IsNew before n = defines_again before n ≡ false

-- no entry of an object defines a name again
twice_each : (before : List Named) (k j : ℕ) (ns : List Named) → (twice_fault before k j ns ≡ None) ↔ Each IsNew before ns
twice_each before k j [] = (λ e. tt, λ h. refl)
twice_each before k j (n ∷ ns) =
    let here = test_none (defines_again before n) (fault_in TWICE k j) (twice_fault (before ++ n ∷ []) k (j + 1) ns) in
    let rest = twice_each (before ++ n ∷ []) k (j + 1) ns in
    (λ e. ((here.0 e).0, rest.0 (here.0 e).1), λ h. here.1 (h.0, rest.1 h.1))

-- no entry of any object does
twice_all : (before : List Named) (k : ℕ) (os : List Source) → (twice_in before k os ≡ None) ↔ Each IsNew before (entries_of os)
twice_all before k [] = (λ e. tt, λ h. refl)
twice_all before k (o ∷ os) =
    let both = or_none (twice_fault before k 0 o.named) (twice_in (before ++ o.named) (k + 1) os) in
    let here = twice_each before k 0 o.named in
    let rest = twice_all (before ++ o.named) (k + 1) os in
    let parts = each_append IsNew before o.named (entries_of os) in
    (λ e. parts.1 (here.0 (both.0 e).0, rest.0 (both.0 e).1), λ h. both.1 (here.1 (parts.0 h).0, rest.1 (parts.0 h).1))

-- ---- 92

-- what holds of all items of two lists
all_append : {A : Type 0} (P : A → Type 0) (xs ys : List A) → AllByRecursion P (xs ++ ys) ↔ (AllByRecursion P xs × AllByRecursion P ys)
all_append P [] ys = (λ h. (tt, h), λ p. p.1)
all_append P (x ∷ xs) ys =
    let rest = all_append P xs ys in
    (λ h. let r = rest.0 h.1 in ((h.0, r.0), r.1), λ p. (p.0.0, rest.1 (p.0.1, p.1)))

module _ (table : List (List ℕ × Known)) where
  abbrev IsKnown : Named → Type 0
  IsKnown n = is_lacking table n ≡ false

  -- each undefined entry of an object stands for something
  undefined_each : (k j : ℕ) (ns : List Named) → (undefined_fault table k j ns ≡ None) ↔ AllByRecursion IsKnown ns
  undefined_each k j [] = (λ e. tt, λ h. refl)
  undefined_each k j (n ∷ ns) =
      let here = test_none (is_lacking table n) (fault_in UNDEFINED k j) (undefined_fault table k (j + 1) ns) in
      let rest = undefined_each k (j + 1) ns in
      (λ e. ((here.0 e).0, rest.0 (here.0 e).1), λ h. here.1 (h.0, rest.1 h.1))

  -- those of all objects do
  undefined_all : (k : ℕ) (os : List Source) → (undefined_in table k os ≡ None) ↔ AllByRecursion IsKnown (entries_of os)
  undefined_all k [] = (λ e. tt, λ h. refl)
  undefined_all k (o ∷ os) =
      let both = or_none (undefined_fault table k 0 o.named) (undefined_in table (k + 1) os) in
      let here = undefined_each k 0 o.named in
      let rest = undefined_all (k + 1) os in
      let parts = all_append IsKnown o.named (entries_of os) in
      (λ e. parts.1 (here.0 (both.0 e).0, rest.0 (both.0 e).1), λ h. both.1 (here.1 (parts.0 h).0, rest.1 (parts.0 h).1))

-- ---- 23 to 25

module _ (big : Bool) (k : ℕ) (f : Frame) where
  -- a relocation without a fault passes
  passes_one : (i : ℕ) (segment : List ℕ) (r : Reloc) → (first_fault (reloc_checks big k i f segment r) ≡ None) ↔ Passes big f segment r
  passes_one i segment r =
      let fits = check_none (sum_fits (bits_in r.length) (field_sum big segment r (amount f r))) (fault_in OVERFLOW k i) None in
      let lawful = check_none (is_lawful f.named r) (fault_in SYMBOL k i) (cond (sum_fits (bits_in r.length) (field_sum big segment r (amount f r))) None (Some (fault_in OVERFLOW k i))) in
      let within = check_none (nat_le (r.address + bytes_in r.length) (length segment)) (fault_in OUTSIDE k i)
      (cond (is_lawful f.named r) (cond (sum_fits (bits_in r.length) (field_sum big segment r (amount f r))) None (Some (fault_in OVERFLOW k i))) (Some (fault_in SYMBOL k i))) in (
        λ e. let a = within.0 e in let b = lawful.0 a.1 in let c = fits.0 b.1 in
            record { within = leb-true (r.address + bytes_in r.length) (length segment) a.0; lawful = b.0; fits = c.0 },
        λ p. within.1 (le-leb (r.address + bytes_in r.length) (length segment) p.within, lawful.1 (p.lawful, fits.1 (p.fits, refl))),
      )

  abbrev PassesBehind : List ℕ → List Reloc → Reloc → Type 0
  PassesBehind segment before r = Passes big f (relocated big f segment before) r

  -- each of a segment does, on what those before it left
  relocs_each : (i : ℕ) (segment : List ℕ) (before rs : List Reloc) → (relocs_fault big k i f (relocated big f segment before) rs ≡ None) ↔ Each (PassesBehind segment) before rs
  relocs_each i segment before [] = (λ e. tt, λ h. refl)
  relocs_each i segment before (r ∷ rs) =
      let now : List ℕ = relocated big f segment before in
      let both = or_none (first_fault (reloc_checks big k i f now r)) (relocs_fault big k (i + 1) f (applied big now r (amount f r)) rs) in
      let here = passes_one i now r in
      let rest = relocs_each (i + 1) segment (before ++ r ∷ []) rs in
      let next : relocated big f segment (before ++ r ∷ []) ≡ applied big now r (amount f r) = fold_push (λ bytes x. applied big bytes x (amount f x)) segment before r in
      let S : List ℕ → Type 0 = λ x. relocs_fault big k (i + 1) f x rs ≡ None in
      (λ e. (here.0 (both.0 e).0, rest.0 (subst S (sym next) (both.0 e).1)), λ h. both.1 (here.1 h.0, subst S next (rest.1 h.1)))

  -- the same by positions
  relocs_pass : (i : ℕ) (segment : List ℕ) (rs : List Reloc) → (relocs_fault big k i f segment rs ≡ None) ↔ AllPass big f segment rs
  relocs_pass i segment rs =
      let each = relocs_each i segment [] rs in
      (λ e. each_at (PassesBehind segment) [] rs (each.0 e), λ h. each.1 (at_each (PassesBehind segment) [] rs h))

-- the two segments of an object
object_passes : (k : ℕ) (m : Moves) (placed : List Named) (o : Source) → (object_fault k m placed o ≡ None) ↔ ObjectPasses m placed o
object_passes k m placed o =
    let both = or_none (text_fault k m placed o) (data_fault k m placed o) in
    let text = relocs_pass (is_big o.parts.order) k (text_frame m placed o) 0 o.parts.text o.parts.text_relocs in
    let datum = relocs_pass (is_big o.parts.order) k (data_frame m placed o) (length o.parts.text_relocs) o.parts.data_part o.parts.data_relocs in
    (λ e. (text.0 (both.0 e).0, datum.0 (both.0 e).1), λ h. both.1 (text.1 h.0, datum.1 h.1))

module _ (table : List (List ℕ × Known)) (s : Starts) where
  abbrev PassesAt : List Source → Source → Type 0
  PassesAt before o = ObjectPasses (moves_of s before o) (map (placed_entry table (moves_of s before o)) o.named) o

  -- all objects, by those before each
  relocs_all : (k : ℕ) (before os : List Source) → (relocs_in table k (moves_after s before os) os ≡ None) ↔ Each PassesAt before os
  relocs_all k before [] = (λ e. tt, λ h. refl)
  relocs_all k before (o ∷ os) =
      let m : Moves = moves_of s before o in
      let both = or_none (object_fault k m (map (placed_entry table m) o.named) o) (relocs_in table (k + 1) (moves_after s (before ++ o ∷ []) os) os) in
      let here = object_passes k m (map (placed_entry table m) o.named) o in
      let rest = relocs_all (k + 1) (before ++ o ∷ []) os in
      (λ e. (here.0 (both.0 e).0, rest.0 (both.0 e).1), λ h. both.1 (here.1 h.0, rest.1 h.1))

-- ---- the whole

-- there are objects
nothing_empty : (os : List Source) → (empty_fault os ≡ None) ↔ (os ≢ [])
nothing_empty [] = (λ e. absurd (let h : Some (fault_in EMPTY 0 0) ≡ None = e in cc), λ h. absurd (h refl))
nothing_empty (o ∷ os) = (λ e h. absurd (let k : o ∷ os ≡ [] = h in cc), λ h. refl)

-- all have one byte order
orders_same : (os : List Source) → (order_fault os ≡ None) ↔ ((first : Source) → slice_get os 0 ≡ Some first → AllByRecursion (λ o. has_other_order first o ≡ false) os)
orders_same [] = (λ e first is. tt, λ h. refl)
orders_same (o ∷ os) =
    let all = that_none (has_other_order o) ORDER_MIX 0 (o ∷ os) in
    (λ e first is. let same : o ≡ first = cc in subst (λ (f : Source). AllByRecursion (λ x. has_other_order f x ≡ false) (o ∷ os)) same (all.0 e), λ h. all.1 (h o refl))

-- all have one machine word
machines_same : (os : List Source) → (machine_fault os ≡ None) ↔ ((first : Source) → slice_get os 0 ≡ Some first → AllByRecursion (λ o. has_other_machine first o ≡ false) os)
machines_same [] = (λ e first is. tt, λ h. refl)
machines_same (o ∷ os) =
    let all = that_none (has_other_machine o) MACHINE_MIX 0 (o ∷ os) in
    (λ e first is. let same : o ≡ first = cc in subst (λ (f : Source). AllByRecursion (λ x. has_other_machine f x ≡ false) (o ∷ os)) same (all.0 e), λ h. all.1 (h o refl))

-- the end of bss is an address
addresses_fit : (base : ℕ) (os : List Source) → (address_fault base os ≡ None) ↔ (base + (totals_of os).text + (totals_of os).datum + bss_of os ≤ GREATEST_ADDRESS)
addresses_fit base os =
    let n : ℕ = base + (totals_of os).text + (totals_of os).datum + bss_of os in
    let check = check_none (nat_le n GREATEST_ADDRESS) (fault_in TOO_LARGE GREATEST_ADDRESS 0) None in
    (λ e. leb-true n GREATEST_ADDRESS (check.0 e).0, λ h. check.1 (le-leb n GREATEST_ADDRESS h, refl))

-- a list has no fault exactly where it is accepted
pub accepted_exactly : (base : ℕ) (os : List Source) → (list_fault base os ≡ None) ↔ Accepted base os
accepted_exactly base os =
    let table : List (List ℕ × Known) = names_table base os in
    let a = or_none (empty_fault os) (fault_or (order_fault os) (fault_or (machine_fault os) (place_fault base os))) in
    let b = or_none (order_fault os) (fault_or (machine_fault os) (place_fault base os)) in
    let c = or_none (machine_fault os) (place_fault base os) in
    let d = or_none (twice_in [] 0 os) (fault_or (undefined_in table 0 os) (fault_or (address_fault base os) (relocs_in table 0 (all_moves base os) os))) in
    let f = or_none (undefined_in table 0 os) (fault_or (address_fault base os) (relocs_in table 0 (all_moves base os) os)) in
    let g = or_none (address_fault base os) (relocs_in table 0 (all_moves base os) os) in
    let some = nothing_empty os in
    let orders = orders_same os in
    let machines = machines_same os in
    let once = twice_all [] 0 os in
    let known = undefined_all table 0 os in
    let addresses = addresses_fit base os in
    let relocs = relocs_all table (starts_of base os) 0 [] os in (
      λ e. let a1 = a.0 e in let b1 = b.0 a1.1 in let c1 = c.0 b1.1 in let d1 = d.0 c1.1 in let f1 = f.0 d1.1 in let g1 = g.0 f1.1 in
          record {
            some = some.0 a1.0;
            orders = orders.0 b1.0;
            machines = machines.0 c1.0;
            once = each_at IsNew [] (entries_of os) (once.0 d1.0);
            known = known.0 f1.0;
            addresses = addresses.0 g1.0;
            relocs = each_at (PassesAt table (starts_of base os)) [] os (relocs.0 g1.1);
          },
      λ p. a.1 (
        some.1 p.some,
        b.1 (
          orders.1 p.orders,
          c.1 (
            machines.1 p.machines,
            d.1 (
              once.1 (at_each IsNew [] (entries_of os) p.once),
              f.1 (known.1 p.known, g.1 (addresses.1 p.addresses, relocs.1 (at_each (PassesAt table (starts_of base os)) [] os p.relocs))),
            ),
          ),
        ),
      ),
    )
