-- What the parts of placing give together.
use Rattle.std.proofs.Common.{◌≡◌, ℕ, ◌+◌, ◌≤◌, Bool, true, false, cond, List, [], ◌∷◌, ◌++◌, length, map, take, drop, Option, Some, None, refl, sym, ap, subst, ◌∙◌, arith}
use Rattle.std.specs.Prelude.{bytes_eq, not, ◌&&◌, ◌||◌, Result, Ok, Err}
use Rattle.std.specs.Prelude.{slice_get}
use Rattle.std.specs.Option.{option_map}
use Rattle.std.specs.List.{list_any}
use Rattle.st_base.specs.Faults.{unless}
use Rattle.std.proofs.lemmas.List.{length-map, length-append}
use Rattle.std.proofs.Math.Seq.{take-append_seam, drop-append_seam}
use Rattle.st_base.specs.declared.fault.Fault.{Fault}
use Rattle.st_base.specs.declared.fault.Refused.{Refused}
use Rattle.st_base.specs.declared.fault.Refused.TheVariants as refused
use Rattle.nlist_codec.specs.declared.named.Named.{Named}
use Rattle.aout_object.specs.Decoding.{fault_or}
use Rattle.aout_link.specs.Answering.{Tells, AreDistinct, AreNew, PlacesSegments, texts_from, datas_from, relocs_from}
use Rattle.aout_link.specs.Moves.{fronts, all_moves, totals_of}
use Rattle.aout_link.specs.Placing.{placed_entry, placed_all, bss_of, IsPlaced, text_part, data_part, texts, datas}
use Rattle.aout_link.specs.Refusals.{twice_in, Refuses, undefined_in, end_fault, address_fault, place_fault, object_fault, relocs_in}
use Rattle.aout_object.specs.declared.parts.Parts.{Parts}
use Rattle.aout_link.specs.Sources.{Source}
use Rattle.aout_link.specs.NameTables.{is_common, defines, entries_of, commons_among, first_uses, names_of, greatest, common_sizes, commons_total, names_table}
use Rattle.aout_link.specs.declared.moves.Moves.{Moves}
use Rattle.aout_link.specs.declared.definitions.Known.{Known}
use Rattle.aout_link.specs.declared.moves.Totals.{Totals}
use Rattle.aout_link.specs.declared.relocating.Segments.{Segments}
use Rattle.aout_link.proofs.CommonLemmas.{same_text, first_uses-distinct, any_first_uses}

-- ---- refusals in order

-- a refusal for the first of two faults in a row
pub refuse_here : (here later : Option Fault) (why : Refused) → Refuses here why → Refuses (fault_or here later) why
refuse_here here later refused.Memory r = tt
refuse_here here later (refused.At fault) r = ap (λ (o : Option Fault). fault_or o later) r

-- a refusal for the second, where the first is none
pub refuse_later : (here later : Option Fault) (why : Refused) → here ≡ None → Refuses later why → Refuses (fault_or here later) why
refuse_later here later why none r = subst (λ (o : Option Fault). Refuses (fault_or o later) why) (sym none) r

-- two faults in a row that are none
pub none_or : (here later : Option Fault) → here ≡ None → later ≡ None → fault_or here later ≡ None
none_or here later a b = ap (λ (o : Option Fault). fault_or o later) a ∙ b

-- ---- as many moves as objects

-- each item has what stands before it
pub length-fronts : {A : Type 0} (before xs : List A) → length (fronts before xs) ≡ length xs
length-fronts before [] = refl
length-fronts before (x ∷ xs) = let e = length-fronts (before ++ x ∷ []) xs in omega (arith, e)

-- each object has its moves
pub length-all_moves : (base : ℕ) (os : List Source) → length (all_moves base os) ≡ length os
length-all_moves base os = length-map (fronts [] os) _ ∙ length-fronts [] os

-- as many moves as objects
pub as_many : (ms : List Moves) (base : ℕ) (os : List Source) → ms ≡ all_moves base os → length ms ≡ length os
as_many ms base os e = ap (λ (x : List Moves). length x) e ∙ length-all_moves base os

-- ---- the names of commons are new

-- the names of names with values
names-pairs : (g : List ℕ → ℕ) (us : List (List ℕ)) → map (λ e. e.0) (map {B = List ℕ × ℕ} (λ u. (u, g u)) us) ≡ us
names-pairs g [] = refl
names-pairs g (u ∷ us) = ap (λ (r : List (List ℕ)). u ∷ r) (names-pairs g us)

-- the name of a common is not defined
common_undefined : (all ns : List Named) (q : List ℕ) → list_any (bytes_eq q) (names_of (commons_among all ns)) ≡ true → list_any (defines q) all ≡ false
common_undefined all [] q e = absurd (let k : false ≡ true = e in cc)
common_undefined all (n ∷ ns) q e = by (is_common n && not (list_any (defines n.name) all)) refl (common_undefined all ns q) e
  where
    not_and : (a b : Bool) → (a && not b) ≡ true → b ≡ false
    not_and true true h = sym h
    not_and true false h = refl
    not_and false b h = absurd (let k : false ≡ true = h in cc)

    own : (b : Bool) → bytes_eq q n.name ≡ b → (is_common n && not (list_any (defines n.name) all)) ≡ true
        → (list_any (bytes_eq q) (names_of (commons_among all ns)) ≡ true → list_any (defines q) all ≡ false)
        → (b || list_any (bytes_eq q) (names_of (commons_among all ns))) ≡ true → list_any (defines q) all ≡ false
    own true is wanted rest h = ap (λ (z : List ℕ). list_any (defines z) all) (same_text q n.name is) ∙ not_and (is_common n) (list_any (defines n.name) all) wanted
    own false is wanted rest h = rest h

    by : (b : Bool) → (is_common n && not (list_any (defines n.name) all)) ≡ b
        → (list_any (bytes_eq q) (names_of (commons_among all ns)) ≡ true → list_any (defines q) all ≡ false)
        → list_any (bytes_eq q) (names_of (cond b (n ∷ commons_among all ns) (commons_among all ns))) ≡ true → list_any (defines q) all ≡ false
    by true is rest h = own (bytes_eq q n.name) refl is rest h
    by false is rest h = rest h

-- commons are new in a table of definitions
pub commons_new : (os : List Source) (table : List (List ℕ × Known)) → Tells (entries_of os) table → AreNew table (common_sizes os)
commons_new os table tells =
    let ns : List Named = commons_among (entries_of os) (entries_of os) in
    let names : map (λ e. e.0) (common_sizes os) ≡ first_uses (names_of ns) = names-pairs (λ u. greatest u ns) (first_uses (names_of ns)) in
    record {
      distinct = subst AreDistinct (sym names) (first_uses-distinct (names_of ns));
      absent = λ q there. tells q ∙ common_undefined (entries_of os) (entries_of os) q
          (sym (any_first_uses (names_of ns) q) ∙ ap (list_any (bytes_eq q)) (sym names) ∙ there);
    }

-- the same of their sizes
pub sizes_new : (os : List Source) (table : List (List ℕ × Known)) (sizes : List (List ℕ × ℕ)) → Tells (entries_of os) table → sizes ≡ common_sizes os → AreNew table sizes
sizes_new os table sizes tells e = subst (AreNew table) (sym e) (commons_new os table tells)

-- ---- each object's entries are the next of the placed ones

module _ (table : List (List ℕ × Known)) where
  -- the first of the placed entries are those of the first object
  taken_own : (m : Moves) (o : Source) (rest : List Named) → take (length o.named) (map (placed_entry table m) o.named ++ rest) ≡ map (placed_entry table m) o.named
  taken_own m o rest =
      ap (λ (n : ℕ). take n (map (placed_entry table m) o.named ++ rest)) (sym (length-map o.named (placed_entry table m))) ∙ take-append_seam (map (placed_entry table m) o.named) rest

  -- and those left are those of the others
  dropped_own : (m : Moves) (o : Source) (rest : List Named) → drop (length o.named) (map (placed_entry table m) o.named ++ rest) ≡ rest
  dropped_own m o rest =
      ap (λ (n : ℕ). drop n (map (placed_entry table m) o.named ++ rest)) (sym (length-map o.named (placed_entry table m))) ∙ drop-append_seam (map (placed_entry table m) o.named) rest

  -- text, by the placed entries in order
  pub texts_same : (ms : List Moves) (os : List Source) → texts_from (placed_all table ms os) ms os ≡ texts table ms os
  texts_same [] os = refl
  texts_same (m ∷ ms) [] = refl
  texts_same (m ∷ ms) (o ∷ os) =
      ap (λ (x : List Named). text_part m x o ++ texts_from (drop (length o.named) (map (placed_entry table m) o.named ++ placed_all table ms os)) ms os) (taken_own m o (placed_all table ms os))
      ∙ ap (λ (x : List Named). text_part m (map (placed_entry table m) o.named) o ++ texts_from x ms os) (dropped_own m o (placed_all table ms os))
      ∙ ap (λ (x : List ℕ). text_part m (map (placed_entry table m) o.named) o ++ x) (texts_same ms os)

  -- data
  pub datas_same : (ms : List Moves) (os : List Source) → datas_from (placed_all table ms os) ms os ≡ datas table ms os
  datas_same [] os = refl
  datas_same (m ∷ ms) [] = refl
  datas_same (m ∷ ms) (o ∷ os) =
      ap (λ (x : List Named). data_part m x o ++ datas_from (drop (length o.named) (map (placed_entry table m) o.named ++ placed_all table ms os)) ms os) (taken_own m o (placed_all table ms os))
      ∙ ap (λ (x : List Named). data_part m (map (placed_entry table m) o.named) o ++ datas_from x ms os) (dropped_own m o (placed_all table ms os))
      ∙ ap (λ (x : List ℕ). data_part m (map (placed_entry table m) o.named) o ++ x) (datas_same ms os)

  -- and the fault of the relocations
  pub relocs_same : (k : ℕ) (ms : List Moves) (os : List Source) → relocs_from (placed_all table ms os) k ms os ≡ relocs_in table k ms os
  relocs_same k [] os = refl
  relocs_same k (m ∷ ms) [] = refl
  relocs_same k (m ∷ ms) (o ∷ os) =
      ap (λ (x : List Named). fault_or (object_fault k m x o) (relocs_from (drop (length o.named) (map (placed_entry table m) o.named ++ placed_all table ms os)) (k + 1) ms os)) (taken_own m o (placed_all table ms os))
      ∙ ap (λ (x : List Named). fault_or (object_fault k m (map (placed_entry table m) o.named) o) (relocs_from x (k + 1) ms os)) (dropped_own m o (placed_all table ms os))
      ∙ ap (fault_or (object_fault k m (map (placed_entry table m) o.named) o)) (relocs_same (k + 1) ms os)

  -- as many placed entries as entries
  pub length-placed_all : (ms : List Moves) (os : List Source) → length ms ≡ length os → length (placed_all table ms os) ≡ length (entries_of os)
  length-placed_all [] [] e = refl
  length-placed_all [] (o ∷ os) e = absurd (omega arith)
  length-placed_all (m ∷ ms) [] e = absurd (omega arith)
  length-placed_all (m ∷ ms) (o ∷ os) e =
      let rest = length-placed_all ms os (omega arith) in
      length-append (map (placed_entry table m) o.named) (placed_all table ms os)
      ∙ (let own = length-map o.named (placed_entry table m) in let all = length-append o.named (entries_of os) in omega (arith, own, all, rest))

-- ---- all together

-- where a value is answered there is no fault
pub unless_ok : {A : Type 0} (o : Option Fault) (v w : A) → Ok v ≡ unless o w → (o ≡ None) × (v ≡ w)
unless_ok None v w e = (refl, let h : Ok v ≡ Ok w = e in cc)
unless_ok (Some f) v w e = absurd (let h : Ok v ≡ Err f = e in cc)

-- the placed entries are enough for all objects
pub room_for : (table : List (List ℕ × Known)) (ms : List Moves) (os : List Source) (named items : List Named) → items ≡ named → named ≡ placed_all table ms os → length ms ≡ length os
    → length (entries_of os) ≤ length items
room_for table ms os named items i e same = let n = ap (λ (x : List Named). length x) (i ∙ e) in let l = length-placed_all table ms os same in omega (arith, n, l)

module _ (base : ℕ) (os : List Source) (ms : List Moves) (table : List (List ℕ × Known)) (named : List Named)
    (ms_is : ms ≡ all_moves base os) (table_is : table ≡ names_table base os) (named_is : named ≡ placed_all table ms os) where
  -- the placed entries are those of the table and the moves
  pub named_told : named ≡ placed_all (names_table base os) (all_moves base os) os
  named_told = named_is ∙ ap (λ (t : List (List ℕ × Known)). placed_all t ms os) table_is ∙ ap (λ (m : List Moves). placed_all (names_table base os) m os) ms_is

  -- so is the text
  pub texts_told : texts_from named ms os ≡ texts (names_table base os) (all_moves base os) os
  texts_told = ap (λ (x : List Named). texts_from x ms os) named_is ∙ texts_same table ms os
      ∙ ap (λ (t : List (List ℕ × Known)). texts t ms os) table_is ∙ ap (λ (m : List Moves). texts (names_table base os) m os) ms_is

  -- and the data
  pub datas_told : datas_from named ms os ≡ datas (names_table base os) (all_moves base os) os
  datas_told = ap (λ (x : List Named). datas_from x ms os) named_is ∙ datas_same table ms os
      ∙ ap (λ (t : List (List ℕ × Known)). datas t ms os) table_is ∙ ap (λ (m : List Moves). datas (names_table base os) m os) ms_is

  -- and the fault of the relocations
  pub relocs_told : relocs_from named 0 ms os ≡ relocs_in (names_table base os) 0 (all_moves base os) os
  relocs_told = ap (λ (x : List Named). relocs_from x 0 ms os) named_is ∙ relocs_same table 0 ms os
      ∙ ap (λ (t : List (List ℕ × Known)). relocs_in t 0 ms os) table_is ∙ ap (λ (m : List Moves). relocs_in (names_table base os) 0 m os) ms_is

  -- a refusal of the relocations is one of the list, where nothing before refuses
  pub relocs_refused : (why : Refused) → twice_in [] 0 os ≡ None → undefined_in table 0 os ≡ None → address_fault base os ≡ None → Refuses (relocs_from named 0 ms os) why
      → Refuses (place_fault base os) why
  relocs_refused why twice undefined address r =
      let undefined_none : undefined_in (names_table base os) 0 os ≡ None = ap (λ (t : List (List ℕ × Known)). undefined_in t 0 os) (sym table_is) ∙ undefined in
      refuse_later (twice_in [] 0 os) _ why twice (refuse_later (undefined_in (names_table base os) 0 os) _ why undefined_none
      (refuse_later (address_fault base os) _ why address (subst (λ (o : Option Fault). Refuses o why) relocs_told r)))

  -- without a fault all is placed
  pub all_placed : (first : Source) (parts : Parts) (segments : Segments) (bss : ℕ) → slice_get os 0 ≡ Some first → parts ≡ first.parts → twice_in [] 0 os ≡ None → undefined_in table 0 os ≡ None → address_fault base os ≡ None
      → PlacesSegments named ms os (Ok segments) → bss ≡ bss_of os
      → (place_fault base os ≡ None) × IsPlaced base os (record { order = parts.order; machine = parts.machine; entry = base; text = segments.text; data_part = segments.data_part; bss = bss; named = named })
  all_placed first parts segments bss is own twice undefined address s b =
      let undefined_none : undefined_in (names_table base os) 0 os ≡ None = ap (λ (t : List (List ℕ × Known)). undefined_in t 0 os) (sym table_is) ∙ undefined in (
        none_or (twice_in [] 0 os) _ twice (none_or (undefined_in (names_table base os) 0 os) _ undefined_none (none_or (address_fault base os) _ address (sym relocs_told ∙ s.0))),
        record {
          order = ap (option_map (λ o. o.parts.order)) is ∙ ap (λ (x : Parts). Some x.order) (sym own);
          machine = ap (option_map (λ o. o.parts.machine)) is ∙ ap (λ (x : Parts). Some x.machine) (sym own);
          entry = refl;
          text = s.1 ∙ texts_told;
          data_part = s.2 ∙ datas_told;
          bss = b;
          named = named_told;
        },
      )

-- the end of bss is an address, and its size is told
pub end_known : (base : ℕ) (os : List Source) (t : Totals) (commons bss : ℕ) → t ≡ totals_of os → commons ≡ commons_total (common_sizes os) → Ok bss ≡ unless (end_fault base t commons) (t.bss + commons)
    → (address_fault base os ≡ None) × (bss ≡ bss_of os)
end_known base os t commons bss e f h =
    let known = unless_ok (end_fault base t commons) bss (t.bss + commons) h in (
      ap (λ (c : ℕ). end_fault base (totals_of os) c) (sym f) ∙ ap (λ (x : Totals). end_fault base x commons) (sym e) ∙ known.0,
      known.1 ∙ ap (λ (x : Totals). x.bss + commons) e ∙ ap (λ (c : ℕ). (totals_of os).bss + c) f,
    )

-- the same of what was lent
pub lent_segments : (os : List Source) (named items : List Named) (ms lent : List Moves) (r : Result Segments Refused) → items ≡ named → lent ≡ ms
    → PlacesSegments items lent os r → PlacesSegments named ms os r
lent_segments os named items ms lent r e f p =
    subst (λ (x : List Named). PlacesSegments x ms os r) e (subst (λ (m : List Moves). PlacesSegments items m os r) f p)
