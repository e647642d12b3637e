-- The ranges of entries, but for the numbers of units, are those of the units that have headers, as far as their headers go. So they are the same
-- for entries that are alike, and those of two lists that stand one after the other are those of the two.
use Rattle.std.proofs.Common.{◌≡◌, ℕ, ◌+◌, None, Bool, cond, refl, sym, ap, subst, ◌∙◌, List, [], ◌∷◌, ◌++◌, append_assoc, map}
use Rattle.std.specs.Prelude.{◌&&◌, ⊤, filter, flat_map, is_some}
use Rattle.std.proofs.lemmas.List.{map-append}
use Rattle.nlist_codec.specs.declared.named.Named.{Named}
use Rattle.stab_codes.specs.Table.{carries_symbol}
use Rattle.stab_symbols.specs.declared.tree.Symbol.{Symbol}
use Rattle.stab_grammar.specs.StringFaults.{IsSpelling}
use Rattle.unit_outlines.specs.declared.outline_types.HeaderMark.{HeaderMark}
use Rattle.unit_outlines.specs.declared.outline_types.Marks.{Marks}
use Rattle.unit_outlines.specs.declared.outline_types.Marks.TheVariants.{Object}
use Rattle.unit_outlines.specs.declared.outline_types.UnitSpan.{UnitSpan}
use Rattle.stab_units.specs.declared.unit.HeaderFile.{HeaderFile}
use Rattle.stab_units.specs.declared.unit.ItemText.{ItemText}
use Rattle.stab_units.specs.declared.unit.Unit.{Unit}
use Rattle.stab_units.specs.HeaderUnits.{FileStab, HeaderUnit, file_stab, has_headers, header_unit, header_units, with_headers}
use Rattle.stab_units.specs.Joining.{AreAlike}
use Rattle.unit_outlines.specs.Outlines.{OutlineFault, units_of}
use Rattle.stab_units.specs.Units.{AreRead, Filed, IsTextOf, Stab, file_of, files_from, header_name, stabs_of, symbols_at, unit_of}
use Rattle.unit_outlines.specs.EntryWords.{next}
use Rattle.stab_units.specs.ObjectUnits.{AreUnits}
use Rattle.bincl_match.specs.declared.range.RangeOf.{RangeOf}
use Rattle.bincl_match.specs.Ranges.{AreFound, AreFoundButUnits, AreItems, in_unit, is_typed, is_typed_at, range_of, ranges_from, typed_ranges, unit_ranges}
use Rattle.bincl_match.specs.Reading.{units_with}
use Rattle.bincl_match.proofs.LawLemmas.{items_of, text_one, units_are}

-- ---- the ranges of header units

-- a stab of a file is read as this item, whose other fields are 0
record IsFiled (s : FileStab) (f : Filed) : Type 0 where
  text : ItemText
  is : f ≡ record { file = s.file; item = record { kind = s.kind; other = 0; desc = 0; value = 0; text = text } }
  reads : IsTextOf (carries_symbol s.kind) s.string text

-- the stabs are read as these items, one each and in order
abbrev AreFiled : List FileStab → List Filed → Type 0
AreFiled [] [] = ⊤
AreFiled [] (f ∷ fs) = ⊥
AreFiled (s ∷ ss) [] = ⊥
AreFiled (s ∷ ss) (f ∷ fs) = IsFiled s f × AreFiled ss fs

-- the ranges of headers with these names, in the unit 0
abbrev header_ranges : List (List ℕ) → List Filed → List RangeOf
header_ranges names fs = ranges_from 0 1 (files_from 1 names fs) fs

-- these are the ranges of header units, all in the unit 0
abbrev AreUnitRanges : List HeaderUnit → List RangeOf → Type 0
AreUnitRanges [] xs = xs ≡ []
AreUnitRanges (u ∷ us) xs = (items : List Filed) × (rest : List RangeOf) × AreFiled u.stabs items × (xs ≡ header_ranges u.headers items ++ rest) × AreUnitRanges us rest

-- those of two lists
both_ranges : (us vs : List HeaderUnit) (xs ys : List RangeOf) → AreUnitRanges us xs → AreUnitRanges vs ys → AreUnitRanges (us ++ vs) (xs ++ ys)
both_ranges [] vs xs ys a b = subst (AreUnitRanges vs) (sym (ap (λ (z : List RangeOf). z ++ ys) a)) b
both_ranges (u ∷ us) vs xs ys a b =
    (a.0, a.1 ++ ys, a.2, ap (λ (z : List RangeOf). z ++ ys) a.3 ∙ append_assoc (header_ranges u.headers a.0) a.1 ys, both_ranges us vs a.1 ys a.4 b)

-- ---- an item without its other fields

abbrev bare : Filed → Filed
bare f = record { file = f.file; item = record { kind = f.item.kind; other = 0; desc = 0; value = 0; text = f.item.text } }

-- the stabs are read as such items
bare_read : (ss : List Stab) (fs : List Filed) → AreRead ss fs → AreFiled (map file_stab ss) (map bare fs)
bare_read [] [] read = tt
bare_read [] (f ∷ fs) read = absurd read
bare_read (s ∷ ss) [] read = absurd read
bare_read (s ∷ ss) (f ∷ fs) read = (record { text = read.0.text; is = ap bare read.0.is; reads = read.0.reads }, bare_read ss fs read.1)

-- the symbols of a file are the same
bare_symbols : (n : ℕ) (fs : List Filed) → flat_map (symbols_at n) (map bare fs) ≡ flat_map (symbols_at n) fs
bare_symbols n [] = refl
bare_symbols n (f ∷ fs) = ap (λ (z : List Symbol). symbols_at n f ++ z) (bare_symbols n fs)

-- whether its entries are its own is too
bare_typed : (n : ℕ) (fs : List Filed) → is_typed n (map bare fs) ≡ is_typed n fs
bare_typed n [] = refl
bare_typed n (f ∷ fs) = ap (λ (z : Bool). is_typed_at n f && z) (bare_typed n fs)

-- so are all files
bare_files : (n : ℕ) (names : List (List ℕ)) (fs : List Filed) → files_from n names (map bare fs) ≡ files_from n names fs
bare_files n [] fs = refl
bare_files n (name ∷ names) fs =
    ap (λ (z : List Symbol). record { name = name; symbols = z } ∷ files_from (n + 1) names (map bare fs)) (bare_symbols n fs)
    ∙ ap (λ (z : List HeaderFile). file_of n name fs ∷ z) (bare_files (n + 1) names fs)

-- and ranges, but for the number of their unit
bare_from : (u n : ℕ) (hs : List HeaderFile) (fs : List Filed) → ranges_from 0 n hs (map bare fs) ≡ map (in_unit 0) (ranges_from u n hs fs)
bare_from u n [] fs = refl
bare_from u n (h ∷ hs) fs =
    ap (λ (z : Bool). range_of 0 n h z ∷ ranges_from 0 (n + 1) hs (map bare fs)) (bare_typed n fs)
    ∙ ap (λ (z : List RangeOf). range_of 0 n h (is_typed n fs) ∷ z) (bare_from u (n + 1) hs fs)

-- those of a unit
bare_ranges : (u : ℕ) (names : List (List ℕ)) (fs : List Filed) → header_ranges names (map bare fs) ≡ map (in_unit 0) (ranges_from u 1 (files_from 1 names fs) fs)
bare_ranges u names fs = ap (λ (z : List HeaderFile). ranges_from 0 1 z (map bare fs)) (bare_files 1 names fs) ∙ bare_from u 1 (files_from 1 names fs) fs

-- ---- the ranges of entries

-- a unit without headers has no range
spans_ranges : (entries : List Named) (n : ℕ) (spans : List UnitSpan) (items : List (List Filed)) → AreItems entries spans items
    → AreUnitRanges (with_headers entries spans) (map (in_unit 0) (typed_ranges n (units_with spans items) items))
spans_ranges entries n [] [] read = refl
spans_ranges entries n [] (fs ∷ items) read = absurd read
spans_ranges entries n (s ∷ spans) [] read = absurd read
spans_ranges entries n (s ∷ spans) (fs ∷ items) read = by_case s.headers refl (spans_ranges entries (n + 1) spans items read.1) where
  by_case : (headers : List HeaderMark) → s.headers ≡ headers → AreUnitRanges (with_headers entries spans) (map (in_unit 0) (typed_ranges (n + 1) (units_with spans items) items))
      → AreUnitRanges (with_headers entries (s ∷ spans)) (map (in_unit 0) (typed_ranges n (units_with (s ∷ spans) (fs ∷ items)) (fs ∷ items)))
  by_case [] e more =
      let units : with_headers entries (s ∷ spans) ≡ with_headers entries spans =
      ap (λ (z : List HeaderMark). map (header_unit entries) (cond (is_some (next z)) (s ∷ filter has_headers spans) (filter has_headers spans))) e in
      let ranges : map (in_unit 0) (typed_ranges n (units_with (s ∷ spans) (fs ∷ items)) (fs ∷ items)) ≡ map (in_unit 0) (typed_ranges (n + 1) (units_with spans items) items) =
      ap (λ (z : List HeaderMark). map (in_unit 0) (ranges_from n 1 (files_from 1 (map header_name z) fs) fs ++ typed_ranges (n + 1) (units_with spans items) items)) e in
      subst (λ (z : List HeaderUnit). AreUnitRanges z (map (in_unit 0) (typed_ranges n (units_with (s ∷ spans) (fs ∷ items)) (fs ∷ items)))) (sym units)
      (subst (AreUnitRanges (with_headers entries spans)) (sym ranges) more)
  by_case (h ∷ headers) e more =
      let units : with_headers entries (s ∷ spans) ≡ header_unit entries s ∷ with_headers entries spans =
      ap (λ (z : List HeaderMark). map (header_unit entries) (cond (is_some (next z)) (s ∷ filter has_headers spans) (filter has_headers spans))) e in
      let ranges : map (in_unit 0) (typed_ranges n (units_with (s ∷ spans) (fs ∷ items)) (fs ∷ items))
      ≡ header_ranges (map header_name s.headers) (map bare fs) ++ map (in_unit 0) (typed_ranges (n + 1) (units_with spans items) items) =
      map-append (in_unit 0) (unit_ranges n (unit_of s fs) fs) (typed_ranges (n + 1) (units_with spans items) items)
      ∙ ap (λ (z : List RangeOf). z ++ map (in_unit 0) (typed_ranges (n + 1) (units_with spans items) items)) (sym (bare_ranges n (map header_name s.headers) fs)) in
      subst (λ (z : List HeaderUnit). AreUnitRanges z (map (in_unit 0) (typed_ranges n (units_with (s ∷ spans) (fs ∷ items)) (fs ∷ items)))) (sym units)
      (map bare fs, map (in_unit 0) (typed_ranges (n + 1) (units_with spans items) items), bare_read (stabs_of entries s) fs read.0, ranges, more)

-- ---- they are one list

module _ (one_string : (text : List ℕ) (s t : Symbol) → IsSpelling s text → IsSpelling t text → s ≡ t) where
  -- stabs of files as one list of items
  filed_one : (ss : List FileStab) (fs gs : List Filed) → AreFiled ss fs → AreFiled ss gs → fs ≡ gs
  filed_one [] [] [] a b = refl
  filed_one [] [] (g ∷ gs) a b = absurd b
  filed_one [] (f ∷ fs) gs a b = absurd a
  filed_one (s ∷ ss) [] gs a b = absurd a
  filed_one (s ∷ ss) (f ∷ fs) [] a b = absurd b
  filed_one (s ∷ ss) (f ∷ fs) (g ∷ gs) a b =
      let same : f ≡ g =
      a.0.is ∙ ap (λ (z : ItemText). record { file = s.file; item = record { kind = s.kind; other = 0; desc = 0; value = 0; text = z } })
      (text_one one_string (carries_symbol s.kind) s.string a.0.text b.0.text a.0.reads b.0.reads) ∙ sym b.0.is in
      ap (λ (z : Filed). z ∷ fs) same ∙ ap (λ (z : List Filed). g ∷ z) (filed_one ss fs gs a.1 b.1)

  -- header units have one list of ranges at most
  unit_ranges_one : (us : List HeaderUnit) (xs ys : List RangeOf) → AreUnitRanges us xs → AreUnitRanges us ys → xs ≡ ys
  unit_ranges_one [] xs ys a b = a ∙ sym b
  unit_ranges_one (u ∷ us) xs ys a b =
      a.3 ∙ ap (λ (z : List Filed). header_ranges u.headers z ++ a.1) (filed_one u.stabs a.0 b.0 a.2 b.2)
      ∙ ap (λ (z : List RangeOf). header_ranges u.headers b.0 ++ z) (unit_ranges_one us a.1 b.1 a.4 b.4) ∙ sym b.3

  module _ (one_units : (text_end : ℕ) (entries : List Named) (us vs : List Unit) → AreUnits text_end entries us → AreUnits text_end entries vs → us ≡ vs) where
    -- the ranges of entries are those of their header units
    found_ranges : (end : ℕ) (entries : List Named) (xs : List RangeOf) → AreFound end entries xs → AreUnitRanges (header_units end entries) (map (in_unit 0) xs)
    found_ranges end entries xs found =
        let made : AreUnits end entries (units_with (units_of end entries) found.items) =
        record { no_fault = found.are_units.no_fault; are = units_are entries (units_of end entries) found.items found.are_items } in
        let is : xs ≡ typed_ranges 0 (units_with (units_of end entries) found.items) found.items =
        found.are ∙ ap (λ (z : List Unit). typed_ranges 0 z found.items) (one_units end entries found.units (units_with (units_of end entries) found.items) found.are_units made) in
        subst (λ (z : List RangeOf). AreUnitRanges (header_units end entries) (map (in_unit 0) z)) (sym is) (spans_ranges entries 0 (units_of end entries) found.items found.are_items)

    -- also where the numbers of units are others
    those_ranges : (end : ℕ) (entries : List Named) (xs : List RangeOf) → AreFoundButUnits end entries xs → AreUnitRanges (header_units end entries) (map (in_unit 0) xs)
    those_ranges end entries xs found = subst (AreUnitRanges (header_units end entries)) (sym found.2) (found_ranges end entries found.0 found.1)

    -- entries that have units have the ranges of their header units
    of_units : (end : ℕ) (entries : List Named) (xs : List RangeOf) → (units : List Unit) × AreUnits end entries units → AreUnitRanges (header_units end entries) (map (in_unit 0) xs)
        → AreFoundButUnits end entries xs
    of_units end entries xs u are =
        let i = items_of entries (units_of end entries) u.0 u.1.are in
        let found : AreFound end entries (typed_ranges 0 u.0 i.0) = record { units = u.0; are_units = u.1; items = i.0; are_items = i.1; are = refl } in (
          typed_ranges 0 u.0 i.0,
          found,
          unit_ranges_one (header_units end entries) (map (in_unit 0) xs) (map (in_unit 0) (typed_ranges 0 u.0 i.0)) are (found_ranges end entries (typed_ranges 0 u.0 i.0) found),
        )

    -- those of two lists that stand one after the other are those of the two
    pub found_more : ((end other text_end : ℕ) (es fs : List Named) (us vs : List Unit) → AreUnits end es us → AreUnits other fs vs → (units : List Unit) × AreUnits text_end (es ++ fs) units)
        → ((marks : Marks) (end first second : ℕ) (es fs : List Named) → OutlineFault marks es None → OutlineFault marks fs None → header_units end (es ++ fs) ≡ header_units first es ++ header_units second fs)
        → (first second end : ℕ) (es fs : List Named) (xs ys : List RangeOf) → AreFoundButUnits first es xs → AreFoundButUnits second fs ys → AreFoundButUnits end (es ++ fs) (xs ++ ys)
    found_more joined header_joined first second end es fs xs ys a b =
        let us = a.1.are_units in
        let vs = b.1.are_units in
        of_units end (es ++ fs) (xs ++ ys) (joined first second end es fs a.1.units b.1.units us vs)
        (subst (λ (z : List HeaderUnit). AreUnitRanges z (map (in_unit 0) (xs ++ ys))) (sym (header_joined Object end first second es fs us.no_fault vs.no_fault))
        (subst (AreUnitRanges (header_units first es ++ header_units second fs)) (sym (map-append (in_unit 0) xs ys))
        (both_ranges (header_units first es) (header_units second fs) (map (in_unit 0) xs) (map (in_unit 0) ys) (those_ranges first es xs a) (those_ranges second fs ys b))))

    -- entries that are alike have the same
    pub found_like : ((end text_end : ℕ) (es fs : List Named) (us : List Unit) → AreUnits end es us → AreAlike es fs → (units : List Unit) × AreUnits text_end fs units)
        → ((end other : ℕ) (es fs : List Named) → AreAlike es fs → header_units end es ≡ header_units other fs)
        → (first end : ℕ) (es fs : List Named) (xs : List RangeOf) → AreAlike es fs → AreFoundButUnits first es xs → AreFoundButUnits end fs xs
    found_like alike header_alike first end es fs xs like a =
        of_units end fs xs (alike first end es fs a.1.units a.1.are_units like)
        (subst (λ (z : List HeaderUnit). AreUnitRanges z (map (in_unit 0) xs)) (header_alike first end es fs like) (those_ranges first es xs a))

-- no entries have none
pub found_none : ((text_end : ℕ) → AreUnits text_end [] []) → (end : ℕ) → AreFoundButUnits end [] []
found_none none end = ([], record { units = []; are_units = none end; items = []; are_items = tt; are = refl }, refl)
