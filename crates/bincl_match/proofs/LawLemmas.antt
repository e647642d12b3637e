-- The ranges of entries are one list, which is lawful.
use Rattle.std.proofs.Common.{◌≡◌, ℕ, zero, suc, ◌+◌, ◌<◌, ◌≤◌, ◌⊎◌, inl, inr, Some, None, Bool, true, false, arith, refl, sym, ap, subst, ◌∙◌, List, [], ◌∷◌, slice_get, length, map, not}
use Rattle.std.specs.Prelude.{◌&&◌}
use Rattle.std.proofs.lemmas.List.{length-map}
use Rattle.std.proofs.lemmas.Bool.{cases_lt}
use Rattle.st_base.specs.declared.fault.Fault.{Fault}
use Rattle.nlist_codec.specs.declared.named.Named.{Named}
use Rattle.stab_codes.specs.Table.{carries_symbol}
use Rattle.stab_symbols.specs.declared.tree.Symbol.{Symbol}
use Rattle.stab_grammar.specs.StringFaults.{IsSpelling}
use Rattle.unit_outlines.specs.declared.outline_types.Marks.TheVariants.{Object}
use Rattle.unit_outlines.specs.declared.outline_types.UnitSpan.{UnitSpan}
use Rattle.stab_units.specs.declared.unit.HeaderFile.{HeaderFile}
use Rattle.stab_units.specs.declared.unit.ItemText.{ItemText}
use Rattle.stab_units.specs.declared.unit.ItemText.TheVariants as texts
use Rattle.stab_units.specs.declared.unit.Unit.{Unit}
use Rattle.unit_outlines.specs.EntryWords.{behind_first}
use Rattle.unit_outlines.specs.Outlines.{OutlineFault, units_of}
use Rattle.stab_units.specs.Units.{Stab, Filed, AreRead, AreUnitsOf, IsRead, IsTextOf, item_of, stabs_of}
use Rattle.stab_units.specs.ObjectUnits.{AreUnits, UnitsFault}
use Rattle.bincl_match.specs.declared.range.RangeOf.{RangeOf}
use Rattle.bincl_match.specs.Lawful.{IsLawful}
use Rattle.bincl_match.specs.Ranges.{AreFound, AreItems, AreRanges, among, is_repeated, ranges_from, ranges_of, typed_ranges, unit_ranges}
use Rattle.bincl_match.specs.Reading.{AreTyped, units_with}
use Rattle.bincl_match.proofs.ListLemmas.{InBack, both, get_cases, get_unmap, none_is, not_both, some_is}
use Rattle.bincl_match.proofs.CrowdLemmas.{is_like_of, repeated_of}

-- ---- the ranges of entries

-- items make units
pub units_are : (entries : List Named) (spans : List UnitSpan) (items : List (List Filed)) → AreItems entries spans items → AreUnitsOf entries spans (units_with spans items)
units_are entries [] [] read = tt
units_are entries [] (fs ∷ items) read = absurd read
units_are entries (s ∷ spans) [] read = absurd read
units_are entries (s ∷ spans) (fs ∷ items) read = (record { items = fs; read = read.0; is = refl }, units_are entries spans items read.1)

-- what was read are the ranges of the entries as they are found
pub found_are : (text_end : ℕ) (entries : List Named) (spans : List UnitSpan) (ranges : List RangeOf) → OutlineFault Object entries None → spans ≡ units_of text_end entries
    → AreTyped entries spans ranges → AreFound text_end entries ranges
found_are text_end entries spans ranges none is read =
    let r : AreItems entries (units_of text_end entries) read.items = subst (λ (z : List UnitSpan). AreItems entries z read.items) is read.read in
    record {
      units = units_with (units_of text_end entries) read.items;
      are_units = record { no_fault = none; are = units_are entries (units_of text_end entries) read.items r };
      items = read.items;
      are_items = r;
      are = read.are ∙ ap (λ (z : List UnitSpan). typed_ranges 0 (units_with z read.items) read.items) is;
    }

-- and told they are the ranges of the entries
pub ranges_are : (text_end : ℕ) (entries : List Named) (typed ranges : List RangeOf) → AreFound text_end entries typed → ranges ≡ map (among typed) typed → AreRanges text_end entries ranges
ranges_are text_end entries typed ranges found told = record {
  units = found.units;
  are_units = found.are_units;
  items = found.items;
  are_items = found.are_items;
  are = told ∙ ap (λ (z : List RangeOf). map (among z) z) found.are;
}

-- telling candidates adds none
pub told_few : (n : ℕ) (typed ranges : List RangeOf) → length typed < n → ranges ≡ map (among typed) typed → length ranges < n
told_few n typed ranges few is = let a = ap length is in let b = length-map typed (among typed) in omega arith

-- ---- they are lawful

-- a range of a unit has its number, and a file by its place
from_place : (u n : ℕ) (hs : List HeaderFile) (fs : List Filed) (k : ℕ) (x : RangeOf) → slice_get (ranges_from u n hs fs) k ≡ Some x → (x.unit ≡ u) × (x.file ≡ n + k)
from_place u n [] fs k x e = absurd (none_is x e)
from_place u n (h ∷ hs) fs zero x e =
    let s = some_is (slice_get (ranges_from u n (h ∷ hs) fs) 0) _ x refl e in
    let f : n ≡ x.file = ap (λ (z : RangeOf). z.file) s in
    (sym (ap (λ (z : RangeOf). z.unit) s), omega arith)
from_place u n (h ∷ hs) fs (suc k) x e = let r = from_place u (n + 1) hs fs k x e in let f : x.file ≡ n + 1 + k = r.1 in (r.0, omega arith)

-- units count up, and files begin with 1
typed_low : (n : ℕ) (us : List Unit) (items : List (List Filed)) (k : ℕ) (x : RangeOf) → slice_get (typed_ranges n us items) k ≡ Some x → (n ≤ x.unit) × (1 ≤ x.file)
typed_low n [] items k x e = absurd (none_is x e)
typed_low n (u ∷ us) [] k x e = absurd (none_is x e)
typed_low n (u ∷ us) (fs ∷ items) k x e = by_case (get_cases (unit_ranges n u fs) (typed_ranges (n + 1) us items) k x e) (λ j h. typed_low (n + 1) us items j x h) where
  by_case : (slice_get (unit_ranges n u fs) k ≡ Some x) ⊎ InBack (unit_ranges n u fs) (typed_ranges (n + 1) us items) k x
      → ((j : ℕ) → slice_get (typed_ranges (n + 1) us items) j ≡ Some x → (n + 1 ≤ x.unit) × (1 ≤ x.file)) → (n ≤ x.unit) × (1 ≤ x.file)
  by_case (inl h) later = let r = from_place n 1 (behind_first u.files) fs k x h in (omega (arith, r.0), omega (arith, r.1))
  by_case (inr h) later = let r = later h.0 h.2 in (omega (arith, r.0), r.1)

-- a unit and a file have one place at most
one_place : (n : ℕ) (us : List Unit) (items : List (List Filed)) (k l : ℕ) (x y : RangeOf) → slice_get (typed_ranges n us items) k ≡ Some x → slice_get (typed_ranges n us items) l ≡ Some y
    → x.unit ≡ y.unit → x.file ≡ y.file → k ≡ l
one_place n [] items k l x y a b u f = absurd (none_is x a)
one_place n (w ∷ us) [] k l x y a b u f = absurd (none_is x a)
one_place n (w ∷ us) (fs ∷ items) k l x y a b u f =
    by_case (get_cases (unit_ranges n w fs) (typed_ranges (n + 1) us items) k x a) (get_cases (unit_ranges n w fs) (typed_ranges (n + 1) us items) l y b)
    (λ i j p q. one_place (n + 1) us items i j x y p q u f) where
      by_case : (slice_get (unit_ranges n w fs) k ≡ Some x) ⊎ InBack (unit_ranges n w fs) (typed_ranges (n + 1) us items) k x
          → (slice_get (unit_ranges n w fs) l ≡ Some y) ⊎ InBack (unit_ranges n w fs) (typed_ranges (n + 1) us items) l y
          → ((i j : ℕ) → slice_get (typed_ranges (n + 1) us items) i ≡ Some x → slice_get (typed_ranges (n + 1) us items) j ≡ Some y → i ≡ j) → k ≡ l
      by_case (inl p) (inl q) later =
          let r = from_place n 1 (behind_first w.files) fs k x p in
          let s = from_place n 1 (behind_first w.files) fs l y q in
          omega (arith, r.1, s.1, f)
      by_case (inl p) (inr q) later =
          let r = from_place n 1 (behind_first w.files) fs k x p in
          let s = typed_low (n + 1) us items q.0 y q.2 in
          absurd (omega (arith, r.0, s.0, u))
      by_case (inr p) (inl q) later =
          let r = typed_low (n + 1) us items p.0 x p.2 in
          let s = from_place n 1 (behind_first w.files) fs l y q in
          absurd (omega (arith, r.0, s.0, u))
      by_case (inr p) (inr q) later = let e = later p.0 q.0 p.2 q.2 in omega (arith, p.1, q.1, e)

-- a test whose denial passes fails
not_false : (b : Bool) → not b ≡ true → b ≡ false
not_false true e = let z : false ≡ true = e in absurd cc
not_false false e = refl

-- a candidate is like no other range of its unit
only_like : (typed : List RangeOf) (i j : ℕ) (x y : RangeOf) → slice_get typed i ≡ Some x → slice_get typed j ≡ Some y → is_repeated x typed ≡ false → x.unit ≡ y.unit → x.name ≡ y.name → x.shape ≡ y.shape → i ≡ j
only_like typed i j x y a b once u n s = by_order (cases_lt i j) (cases_lt j i) where
  by_order : (i < j) ⊎ (j ≤ i) → (j < i) ⊎ (i ≤ j) → i ≡ j
  by_order (inl h) k = not_both (is_repeated x typed) (repeated_of x typed (record { first = i; second = j; y = x; z = y; order = h; y_is = a; z_is = b; units = u; y_like = is_like_of x x refl refl; z_like = is_like_of x y n s })) once
  by_order (inr h) (inl k) = not_both (is_repeated x typed) (repeated_of x typed (record { first = j; second = i; y = y; z = x; order = k; y_is = b; z_is = a; units = sym u; y_like = is_like_of x y n s; z_like = is_like_of x x refl refl })) once
  by_order (inr h) (inr k) = omega arith

-- ranges of any units are lawful
lawful_of : (units : List Unit) (items : List (List Filed)) → IsLawful (ranges_of units items)
lawful_of units items =
    let typed = typed_ranges 0 units items in
    let from = λ (k : ℕ) (x : RangeOf) (e : slice_get (ranges_of units items) k ≡ Some x). get_unmap (among typed) typed k x e in
    record {
      one_header = λ u f k l p q.
          let a = from k p.0 p.1 in
          let b = from l q.0 q.1 in
          one_place 0 units items k l a.0 b.0 a.1 b.1
          (ap (λ (z : RangeOf). z.unit) a.2 ∙ p.2 ∙ sym q.2 ∙ sym (ap (λ (z : RangeOf). z.unit) b.2))
          (ap (λ (z : RangeOf). z.file) a.2 ∙ p.3 ∙ sym q.3 ∙ sym (ap (λ (z : RangeOf). z.file) b.2));
      no_zero = λ u k p.
          let a = from k p.0 p.1 in
          let low = typed_low 0 units items k a.0 a.1 in
          let z : a.0.file ≡ 0 = ap (λ (z : RangeOf). z.file) a.2 ∙ p.3 in
          absurd (omega (arith, low.1, z));
      only_one = λ i j x y ex ey c u n s.
          let a = from i x ex in
          let b = from j y ey in
          let t : (a.0.candidate && not (is_repeated a.0 typed)) ≡ true = ap (λ (z : RangeOf). z.candidate) a.2 ∙ c in
          only_like typed i j a.0 b.0 a.1 b.1 (not_false (is_repeated a.0 typed) (both a.0.candidate (not (is_repeated a.0 typed)) t).1)
          (ap (λ (z : RangeOf). z.unit) a.2 ∙ u ∙ sym (ap (λ (z : RangeOf). z.unit) b.2))
          (ap (λ (z : RangeOf). z.name) a.2 ∙ n ∙ sym (ap (λ (z : RangeOf). z.name) b.2))
          (ap (λ (z : RangeOf). z.shape) a.2 ∙ s ∙ sym (ap (λ (z : RangeOf). z.shape) b.2));
    }

-- the ranges of entries are lawful
pub lawful : (text_end : ℕ) (entries : List Named) (ranges : List RangeOf) → AreRanges text_end entries ranges → IsLawful ranges
lawful text_end entries ranges are = subst IsLawful (sym are.are) (lawful_of are.units are.items)

-- ---- they are one list

module _ (one_string : (text : List ℕ) (s t : Symbol) → IsSpelling s text → IsSpelling t text → s ≡ t) where
  -- a string is read as one text
  pub text_one : (carries : Bool) (string : List ℕ) (t u : ItemText) → IsTextOf carries string t → IsTextOf carries string u → t ≡ u
  text_one carries string (texts.Symbol s) (texts.Symbol r) a b = ap texts.Symbol (one_string string s r a.1 b.1)
  text_one carries string (texts.Symbol s) (texts.Raw r) a b = let x = a.0 in let y = b.0 in absurd cc
  text_one carries string (texts.Raw t) (texts.Symbol r) a b = let x = a.0 in let y = b.0 in absurd cc
  text_one carries string (texts.Raw t) (texts.Raw u) a b = ap texts.Raw (a.1 ∙ sym b.1)

  -- a stab as one item
  read_one : (s : Stab) (i j : Filed) → IsRead s i → IsRead s j → i ≡ j
  read_one s i j a b = a.is ∙ ap (λ (z : ItemText). record { file = s.file; item = item_of s.entry z }) (text_one (carries_symbol s.entry.kind) s.string a.text b.text a.reads b.reads) ∙ sym b.is

  -- stabs as one list of items
  all_one : (ss : List Stab) (fs gs : List Filed) → AreRead ss fs → AreRead ss gs → fs ≡ gs
  all_one [] [] [] a b = refl
  all_one [] [] (g ∷ gs) a b = absurd b
  all_one [] (f ∷ fs) gs a b = absurd a
  all_one (s ∷ ss) [] gs a b = absurd a
  all_one (s ∷ ss) (f ∷ fs) [] a b = absurd b
  all_one (s ∷ ss) (f ∷ fs) (g ∷ gs) a b = ap (λ (z : Filed). z ∷ fs) (read_one s f g a.0 b.0) ∙ ap (λ (z : List Filed). g ∷ z) (all_one ss fs gs a.1 b.1)

  -- spans as one list of them
  items_one : (entries : List Named) (spans : List UnitSpan) (is js : List (List Filed)) → AreItems entries spans is → AreItems entries spans js → is ≡ js
  items_one entries [] [] [] a b = refl
  items_one entries [] [] (g ∷ js) a b = absurd b
  items_one entries [] (f ∷ is) js a b = absurd a
  items_one entries (s ∷ spans) [] js a b = absurd a
  items_one entries (s ∷ spans) (f ∷ is) [] a b = absurd b
  items_one entries (s ∷ spans) (f ∷ is) (g ∷ js) a b =
      ap (λ (z : List Filed). z ∷ is) (all_one (stabs_of entries s) f g a.0 b.0) ∙ ap (λ (z : List (List Filed)). g ∷ z) (items_one entries spans is js a.1 b.1)

  -- and one list of ranges at most, as they are found
  pub found_one : ((text_end : ℕ) (entries : List Named) (us vs : List Unit) → AreUnits text_end entries us → AreUnits text_end entries vs → us ≡ vs)
      → (text_end : ℕ) (entries : List Named) (xs ys : List RangeOf) → AreFound text_end entries xs → AreFound text_end entries ys → xs ≡ ys
  found_one one_units text_end entries xs ys a b =
      a.are ∙ ap (λ (z : List Unit). typed_ranges 0 z a.items) (one_units text_end entries a.units b.units a.are_units b.are_units)
      ∙ ap (typed_ranges 0 b.units) (items_one entries (units_of text_end entries) a.items b.items a.are_items b.are_items) ∙ sym b.are

  -- and told
  pub ranges_one : ((text_end : ℕ) (entries : List Named) (us vs : List Unit) → AreUnits text_end entries us → AreUnits text_end entries vs → us ≡ vs)
      → (text_end : ℕ) (entries : List Named) (rs qs : List RangeOf) → AreRanges text_end entries rs → AreRanges text_end entries qs → rs ≡ qs
  ranges_one one_units text_end entries rs qs a b =
      a.are ∙ ap (λ (z : List RangeOf). map (among z) z)
      (found_one one_units text_end entries (typed_ranges 0 a.units a.items) (typed_ranges 0 b.units b.items)
      (record { units = a.units; are_units = a.are_units; items = a.items; are_items = a.are_items; are = refl })
      (record { units = b.units; are_units = b.are_units; items = b.items; are_items = b.are_items; are = refl })) ∙ sym b.are

-- units that are read have items
pub items_of : (entries : List Named) (spans : List UnitSpan) (us : List Unit) → AreUnitsOf entries spans us → (items : List (List Filed)) × AreItems entries spans items
items_of entries [] [] are = ([], tt)
items_of entries [] (u ∷ us) are = absurd are
items_of entries (s ∷ spans) [] are = absurd are
items_of entries (s ∷ spans) (u ∷ us) are = let more = items_of entries spans us are.1 in (are.0.items ∷ more.0, (are.0.read, more.1))

-- units that are read have ranges, and a fault of units is one of ranges
some_ranges : (text_end : ℕ) (entries : List Named) → ((units : List Unit) × AreUnits text_end entries units) ⊎ ((f : Fault) × UnitsFault text_end entries f)
    → ((rs : List RangeOf) × AreRanges text_end entries rs) ⊎ ((f : Fault) × UnitsFault text_end entries f)
some_ranges text_end entries (inl u) =
    let i = items_of entries (units_of text_end entries) u.0 u.1.are in
    inl (ranges_of u.0 i.0, record { units = u.0; are_units = u.1; items = i.0; are_items = i.1; are = refl })
some_ranges text_end entries (inr f) = inr f

-- so there are ranges or a fault
pub ranges_some : ((text_end : ℕ) (entries : List Named) → ((units : List Unit) × AreUnits text_end entries units) ⊎ ((f : Fault) × UnitsFault text_end entries f))
    → (text_end : ℕ) (entries : List Named) → ((rs : List RangeOf) × AreRanges text_end entries rs) ⊎ ((f : Fault) × UnitsFault text_end entries f)
ranges_some some_units text_end entries = some_ranges text_end entries (some_units text_end entries)
