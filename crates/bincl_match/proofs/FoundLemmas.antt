-- Ranges that are known but for the numbers of units: how many there are, and that each unit takes as many of them as it has headers.
use Rattle.std.proofs.Common.{◌≡◌, ℕ, suc, ◌+◌, ◌<◌, ◌≤◌, arith, lit≤, refl, sym, ap, ◌∙◌, List, [], ◌∷◌, ◌++◌, append_assoc, drop, get_or, length, map}
use Rattle.std.proofs.Math.ListN.{length-append}
use Rattle.std.proofs.lemmas.List.{length-map}
use Rattle.nlist_codec.specs.declared.named.Named.{Named}
use Rattle.unit_outlines.specs.declared.outline_types.HeaderMark.{HeaderMark}
use Rattle.unit_outlines.specs.declared.outline_types.UnitSpan.{UnitSpan}
use Rattle.stab_units.specs.declared.unit.HeaderFile.{HeaderFile}
use Rattle.stab_units.specs.declared.unit.Unit.{Unit}
use Rattle.unit_outlines.specs.EntryWords.{behind_first}
use Rattle.unit_outlines.specs.Outlines.{units_of}
use Rattle.stab_units.specs.Units.{AreUnitsOf, Filed, MakesUnit, Stab, header_name}
use Rattle.bincl_match.specs.declared.range.RangeOf.{RangeOf}
use Rattle.bincl_match.specs.Ranges.{AreFound, AreFoundButUnits, AreItems, in_unit, is_typed, range_of, ranges_from, typed_ranges, unit_ranges}
use Rattle.bincl_match.specs.Reading.{beside, unit_numbers, with_unit}
use Rattle.bincl_match.proofs.ListLemmas.{drop_item}
use Rattle.bincl_match.proofs.ReadLemmas.{files_count}
use Rattle.bincl_match.proofs.SpanLemmas.{few_total, total}

-- ---- how many there are

-- a range for each file
from_length : (u n : ℕ) (hs : List HeaderFile) (fs : List Filed) → length (ranges_from u n hs fs) ≡ length hs
from_length u n [] fs = refl
from_length u n (h ∷ hs) fs = ap suc (from_length u (n + 1) hs fs)

-- a unit has a file for each header
headers_count : (ss : List Stab) (s : UnitSpan) (u : Unit) → MakesUnit ss s u → length (behind_first u.files) ≡ length s.headers
headers_count ss s u made = ap (λ (z : Unit). length (behind_first z.files)) made.is ∙ files_count 1 (map header_name s.headers) made.items ∙ length-map s.headers header_name

-- so there is a range for each header
typed_total : (entries : List Named) (n : ℕ) (spans : List UnitSpan) (us : List Unit) (items : List (List Filed)) → AreUnitsOf entries spans us → AreItems entries spans items
    → length (typed_ranges n us items) ≡ total spans
typed_total entries n [] [] items are read = refl
typed_total entries n [] (u ∷ us) items are read = absurd are
typed_total entries n (s ∷ spans) [] items are read = absurd are
typed_total entries n (s ∷ spans) (u ∷ us) [] are read = absurd read
typed_total entries n (s ∷ spans) (u ∷ us) (fs ∷ items) are read =
    let a = length-append (unit_ranges n u fs) (typed_ranges (n + 1) us items) in
    let b = from_length n 1 (behind_first u.files) fs ∙ headers_count _ s u are.0 in
    let c = typed_total entries (n + 1) spans us items are.1 read.1 in
    omega arith

-- also where the numbers of units are others
found_total : (end : ℕ) (entries : List Named) (xs : List RangeOf) → AreFoundButUnits end entries xs → length xs ≡ total (units_of end entries)
found_total end entries xs found =
    let a = sym (length-map xs (in_unit 0)) ∙ ap length found.2 ∙ length-map found.0 (in_unit 0) in
    a ∙ ap length found.1.are ∙ typed_total entries 0 (units_of end entries) found.1.units found.1.items found.1.are_units.are found.1.are_items

-- there are no more than entries
pub found_few : (end n : ℕ) (entries : List Named) (xs : List RangeOf) → AreFoundButUnits end entries xs → length entries < n → length xs < n
found_few end n entries xs found few = let a = found_total end entries xs found in let b = few_total end entries in omega arith

-- the numbers of units are as many
numbers_total : (n : ℕ) (spans : List UnitSpan) → length (unit_numbers n spans) ≡ total spans
numbers_total n [] = refl
numbers_total n (s ∷ spans) =
    let a = length-append (map (λ h. n) s.headers) (unit_numbers (n + 1) spans) in
    let b = length-map s.headers (λ (h : HeaderMark). n) in
    let c = numbers_total (n + 1) spans in
    omega arith

-- a number for each range
pub numbers_count : (end : ℕ) (entries : List Named) (xs : List RangeOf) (spans : List UnitSpan) (numbers : List ℕ) → AreFoundButUnits end entries xs → spans ≡ units_of end entries
    → numbers ≡ unit_numbers 0 spans → length numbers ≡ length xs
numbers_count end entries xs spans numbers found is are =
    ap length are ∙ ap (λ (z : List UnitSpan). length (unit_numbers 0 z)) is ∙ numbers_total 0 (units_of end entries) ∙ sym (found_total end entries xs found)

-- ---- each gets the number of its unit

-- the numbers of one span more
pub numbers_step : (out out_new whole : List ℕ) (spans : List UnitSpan) (headers : List HeaderMark) (at : ℕ) (s : UnitSpan) → at < length spans → s ≡ get_or spans at s → headers ≡ s.headers
    → out_new ≡ out ++ map (λ h. at) headers → out ++ unit_numbers at (drop at spans) ≡ whole → out_new ++ unit_numbers (at + 1) (drop (at + 1) spans) ≡ whole
numbers_step out out_new whole spans headers at s lt is same pushed was =
    ap (λ (z : List ℕ). z ++ unit_numbers (at + 1) (drop (at + 1) spans)) (pushed ∙ ap (λ (z : List HeaderMark). out ++ map (λ h. at) z) same)
    ∙ append_assoc out (map (λ h. at) s.headers) (unit_numbers (at + 1) (drop (at + 1) spans))
    ∙ ap (λ (z : List UnitSpan). out ++ unit_numbers at z) (sym (drop_item spans at s lt is)) ∙ was

-- whatever number it had
any_unit : (xs : List RangeOf) (ns : List ℕ) → beside with_unit (map (in_unit 0) xs) ns ≡ beside with_unit xs ns
any_unit [] ns = refl
any_unit (x ∷ xs) [] = refl
any_unit (x ∷ xs) (n ∷ ns) = ap (λ (z : List RangeOf). in_unit n x ∷ z) (any_unit xs ns)

-- there are no more of them
with_few : (xs : List RangeOf) (ns : List ℕ) → length (beside with_unit xs ns) ≤ length xs
with_few [] ns = lit≤ tt
with_few (x ∷ xs) [] = omega arith
with_few (x ∷ xs) (n ∷ ns) = let h = with_few xs ns in omega arith

-- nor than entries
pub placed_few : (end n : ℕ) (entries : List Named) (xs placed : List RangeOf) (numbers : List ℕ) → AreFoundButUnits end entries xs → placed ≡ beside with_unit xs numbers → length entries < n → length placed < n
placed_few end n entries xs placed numbers found is few =
    let a = found_few end n entries xs found few in
    let b = with_few xs numbers in
    let c = ap length is in omega arith

-- the ranges of a unit have it
has_unit : (n f : ℕ) (hs : List HeaderFile) (fs : List Filed) (ms : List HeaderMark) (xs : List RangeOf) (ns : List ℕ) → length hs ≡ length ms
    → beside with_unit (ranges_from n f hs fs ++ xs) (map (λ m. n) ms ++ ns) ≡ ranges_from n f hs fs ++ beside with_unit xs ns
has_unit n f [] fs [] xs ns l = refl
has_unit n f [] fs (m ∷ ms) xs ns l = absurd (omega arith)
has_unit n f (h ∷ hs) fs [] xs ns l = absurd (omega arith)
has_unit n f (h ∷ hs) fs (m ∷ ms) xs ns l = ap (λ (z : List RangeOf). range_of n f h (is_typed f fs) ∷ z) (has_unit n (f + 1) hs fs ms xs ns (omega arith))

-- those of all units have them
have_units : (entries : List Named) (n : ℕ) (spans : List UnitSpan) (us : List Unit) (items : List (List Filed)) → AreUnitsOf entries spans us → AreItems entries spans items
    → beside with_unit (typed_ranges n us items) (unit_numbers n spans) ≡ typed_ranges n us items
have_units entries n [] [] items are read = refl
have_units entries n [] (u ∷ us) items are read = absurd are
have_units entries n (s ∷ spans) [] items are read = absurd are
have_units entries n (s ∷ spans) (u ∷ us) [] are read = absurd read
have_units entries n (s ∷ spans) (u ∷ us) (fs ∷ items) are read =
    has_unit n 1 (behind_first u.files) fs s.headers (typed_ranges (n + 1) us items) (unit_numbers (n + 1) spans) (headers_count _ s u are.0)
    ∙ ap (λ (z : List RangeOf). unit_ranges n u fs ++ z) (have_units entries (n + 1) spans us items are.1 read.1)

-- ranges as they are found are known but for the numbers of units, too
pub found_known : (end : ℕ) (entries : List Named) (xs : List RangeOf) → AreFound end entries xs → AreFoundButUnits end entries xs
found_known end entries xs found = (xs, found, refl)

-- so ranges that are known but for the numbers of units are found with these numbers
pub placed_are : (end : ℕ) (entries : List Named) (xs placed : List RangeOf) (spans : List UnitSpan) (numbers items : List ℕ) → AreFoundButUnits end entries xs → spans ≡ units_of end entries
    → numbers ≡ unit_numbers 0 spans → items ≡ numbers → placed ≡ beside with_unit xs items → AreFound end entries placed
placed_are end entries xs placed spans numbers items found is are same placed_is =
    let f = found.1 in
    let those : beside with_unit xs (unit_numbers 0 (units_of end entries)) ≡ typed_ranges 0 f.units f.items =
    sym (any_unit xs (unit_numbers 0 (units_of end entries))) ∙ ap (λ (z : List RangeOf). beside with_unit z (unit_numbers 0 (units_of end entries))) found.2
    ∙ any_unit found.0 (unit_numbers 0 (units_of end entries)) ∙ ap (λ (z : List RangeOf). beside with_unit z (unit_numbers 0 (units_of end entries))) f.are
    ∙ have_units entries 0 (units_of end entries) f.units f.items f.are_units.are f.are_items in
    record {
      units = f.units;
      are_units = f.are_units;
      items = f.items;
      are_items = f.are_items;
      are = placed_is ∙ ap (beside with_unit xs) (same ∙ are ∙ ap (unit_numbers 0) is) ∙ those;
    }
