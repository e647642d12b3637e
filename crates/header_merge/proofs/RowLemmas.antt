-- The headers of an image are those of its ranges, by places.
use Rattle.std.proofs.Common.{◌≡◌, ℕ, zero, suc, ◌+◌, ◌⊎◌, ◌||◌, inl, inr, false, not, List, [], ◌∷◌, ◌++◌, length, Some, refl, sym, ap, subst, ◌∙◌, arith, map, slice_get}
use Rattle.std.specs.List.{AllByRecursion}
use Rattle.std.proofs.lemmas.List.{length-append, length-map}
use Rattle.nlist_codec.specs.declared.named.Named.{Named}
use Rattle.unit_outlines.specs.declared.outline_types.HeaderMark.{HeaderMark}
use Rattle.unit_outlines.specs.declared.outline_types.UnitSpan.{UnitSpan}
use Rattle.stab_units.specs.Units.{Filed}
use Rattle.stab_units.specs.Changing.{AreMarksChanged, AreSpansChanged, Change, IsMarkChanged}
use Rattle.bincl_match.specs.declared.range.Grouping.{Grouping}
use Rattle.bincl_match.specs.declared.range.RangeOf.{RangeOf}
use Rattle.bincl_match.specs.Ranges.{AreItems, among}
use Rattle.bincl_match.proofs.ListLemmas.{get_unmap, none_is, some_is}
use Rattle.unit_index.specs.Owners.{Row, row_at, rows_from, unit_rows}
use Rattle.header_merge.specs.ImageRows.{AreImageRows, IsImageRow}
use Rattle.header_merge.specs.Merged.{change_of, is_kept}
use Rattle.header_merge.proofs.FrontLemmas.{all_at, get_back, get_front}
use Rattle.header_merge.proofs.StabLemmas.{AreOpened, IsOpened}
use Rattle.header_merge.proofs.RangeLemmas.{IsOfHeader, first_or_later, ranges_at, ranges_count, ranges_in}

-- ---- one unit

-- as many marks after as before
marks_count : (c : Change) (place : ℕ) (ms ns : List HeaderMark) → AreMarksChanged c place ms ns → length ns ≡ length ms
marks_count c place [] [] are = refl
marks_count c place [] (n ∷ ns) are = absurd are
marks_count c place (m ∷ ms) [] are = absurd are
marks_count c place (m ∷ ms) (n ∷ ns) are = ap suc (marks_count c (place + 1) ms ns are.1)

-- the mark at a place after
pub mark_after : (c : Change) (place : ℕ) (ms ns : List HeaderMark) (k : ℕ) (m : HeaderMark) → AreMarksChanged c place ms ns → slice_get ms k ≡ Some m
    → (n : HeaderMark) × (slice_get ns k ≡ Some n) × IsMarkChanged c (place + k) m n
mark_after c place [] ns k m are is = absurd (none_is m is)
mark_after c place (l ∷ ms) [] k m are is = absurd are
mark_after c place (l ∷ ms) (n ∷ ns) zero m are is =
    let same : place ≡ place + zero = omega arith in
    (n, refl, subst (λ z. IsMarkChanged c z m n) same (subst (λ z. IsMarkChanged c place z n) (some_is (Some l) l m refl is) are.0))
mark_after c place (l ∷ ms) (n ∷ ns) (suc k) m are is =
    let later = mark_after c (place + 1) ms ns k m are.1 is in
    let same : place + 1 + k ≡ place + suc k = omega arith in
    (later.0, later.1, subst (λ z. IsMarkChanged c z m later.0) same later.2)

-- a header for each mark
rows_count : (unit file : ℕ) (hs : List HeaderMark) → length (unit_rows unit file hs) ≡ length hs
rows_count unit file [] = refl
rows_count unit file (h ∷ hs) = ap suc (rows_count unit (file + 1) hs)

-- at the place of the mark
row_get : (unit file : ℕ) (hs : List HeaderMark) (k number : ℕ) (h : HeaderMark) → slice_get hs k ≡ Some h → number ≡ file + k
    → slice_get (unit_rows unit file hs) k ≡ Some (row_at unit number h)
row_get unit file [] k number h is same = absurd (none_is h is)
row_get unit file (m ∷ hs) zero number h is same =
    let here : file ≡ number = omega arith in
    ap (λ z. Some (row_at unit z m)) here ∙ ap (λ z. Some (row_at unit number z)) (some_is (Some m) m h refl is)
row_get unit file (m ∷ hs) (suc k) number h is same = row_get unit (file + 1) hs k number h is (omega arith)

-- whether a range is a candidate is not seen there
among_row : (g : Grouping) (place : ℕ) (typed : List RangeOf) (x : RangeOf) (r : Row) → IsImageRow g place x r → IsImageRow g place (among typed x) r
among_row g place typed x r is = record { unit = is.unit; file = is.file; name = is.name; excluded = is.excluded; value = is.value }

-- ---- units in order

-- the range at a place has its header there
abbrev HasRow : Grouping → ℕ → ℕ → RangeOf → List Row → Type 0
HasRow g place k x rows = (r : Row) × (slice_get rows k ≡ Some r) × IsImageRow g (place + k) x r

-- the header of a mark that was opened
row_is : (g : Grouping) (place unit number : ℕ) (m n : HeaderMark) (x : RangeOf) → IsMarkChanged (change_of g) place m n → m.excluded ≡ false → x.unit ≡ unit
    → x.file ≡ number → x.name ≡ m.name
    → IsImageRow g place x (row_at unit number n)
row_is g place unit number m n x change opened unit_is file_is name_is = record {
  unit = sym unit_is;
  file = sym file_is;
  name = change.name ∙ sym name_is;
  excluded = change.excluded ∙ ap (λ b. b || not (is_kept g place)) opened;
  value = change.value;
}

module _ (g : Grouping) (place n : ℕ) (s t : UnitSpan) (ts : List UnitSpan) (x : RangeOf) (marks : AreMarksChanged (change_of g) place s.headers t.headers) where
  -- of the first unit
  row_here : (fs : List Filed) (k : ℕ) → AreOpened s → IsOfHeader n 1 s.headers fs k x → HasRow g place k x (rows_from n (t ∷ ts))
  row_here fs k opened h =
      let after = mark_after (change_of g) place s.headers t.headers k h.header marks h.at in
      let row : Row = row_at n (1 + k) after.0 in
      let at : slice_get (unit_rows n 1 t.headers) k ≡ Some row = row_get n 1 t.headers k (1 + k) after.0 after.1 refl in
      let is : IsImageRow g (place + k) x row =
      row_is g (place + k) n (1 + k) h.header after.0 x after.2 (all_at IsOpened s.headers k h.header opened h.at)
      (ap (λ (z : RangeOf). z.unit) h.is) (ap (λ (z : RangeOf). z.file) h.is) (ap (λ (z : RangeOf). z.name) h.is) in
      (row, get_front (unit_rows n 1 t.headers) (rows_from (n + 1) ts) k row at, is)

  -- of the others
  row_later : (k j : ℕ) → k ≡ length s.headers + j → HasRow g (place + length s.headers) j x (rows_from (n + 1) ts) → HasRow g place k x (rows_from n (t ∷ ts))
  row_later k j at row =
      let rows : List Row = unit_rows n 1 t.headers in
      let count = rows_count n 1 t.headers in
      let long = marks_count (change_of g) place s.headers t.headers marks in
      let there : k ≡ length rows + j = omega (arith, at, count, long) in
      let same : place + length s.headers + j ≡ place + k = omega (arith, at) in
      (row.0, ap (slice_get (rows ++ rows_from (n + 1) ts)) there ∙ get_back rows (rows_from (n + 1) ts) j ∙ row.1, subst (λ z. IsImageRow g z x row.0) same row.2)

-- of any of them
rows_at : (entries : List Named) (g : Grouping) (place n : ℕ) (ss ts : List UnitSpan) (items : List (List Filed)) (k : ℕ) (x : RangeOf)
    → AreSpansChanged (change_of g) entries place ss ts
    → AllByRecursion AreOpened ss → AreItems entries ss items → slice_get (ranges_in n ss items) k ≡ Some x → HasRow g place k x (rows_from n ts)
rows_at entries g place n [] ts [] k x are opened read is = absurd (none_is x is)
rows_at entries g place n [] ts (fs ∷ items) k x are opened read is = absurd read
rows_at entries g place n (s ∷ ss) [] items k x are opened read is = absurd are
rows_at entries g place n (s ∷ ss) (t ∷ ts) [] k x are opened read is = absurd read
rows_at entries g place n (s ∷ ss) (t ∷ ts) (fs ∷ items) k x are opened read is =
    by_case (first_or_later n s ss fs items k x is) (λ j at. rows_at entries g (place + length s.headers) (n + 1) ss ts items j x are.1 opened.1 read.1 at) where
      by_case : IsOfHeader n 1 s.headers fs k x ⊎ ((j : ℕ) × (k ≡ length s.headers + j) × (slice_get (ranges_in (n + 1) ss items) j ≡ Some x))
          → ((j : ℕ) → slice_get (ranges_in (n + 1) ss items) j ≡ Some x → HasRow g (place + length s.headers) j x (rows_from (n + 1) ts))
          → HasRow g place k x (rows_from n (t ∷ ts))
      by_case (inl here) more = row_here g place n s t ts x are.0.headers fs k opened.0 here
      by_case (inr later) more = row_later g place n s t ts x are.0.headers k later.0 later.1 (more later.0 later.2)

-- there are as many headers as ranges
rows_long : (entries : List Named) (g : Grouping) (place n : ℕ) (ss ts : List UnitSpan) (items : List (List Filed))
    → AreSpansChanged (change_of g) entries place ss ts → AreItems entries ss items
    → length (rows_from n ts) ≡ length (ranges_in n ss items)
rows_long entries g place n [] [] [] are read = refl
rows_long entries g place n [] (t ∷ ts) items are read = absurd are
rows_long entries g place n [] [] (fs ∷ items) are read = absurd read
rows_long entries g place n (s ∷ ss) [] items are read = absurd are
rows_long entries g place n (s ∷ ss) (t ∷ ts) [] are read = absurd read
rows_long entries g place n (s ∷ ss) (t ∷ ts) (fs ∷ items) are read =
    let later = rows_long entries g (place + length s.headers) (n + 1) ss ts items are.1 read.1 in
    let marks = marks_count (change_of g) place s.headers t.headers are.0.headers in
    let rows = rows_count n 1 t.headers in
    let ranges = ranges_count n 1 s.headers fs in
    let left = length-append (unit_rows n 1 t.headers) (rows_from (n + 1) ts) in
    let right = length-append (ranges_at n 1 s.headers fs) (ranges_in (n + 1) ss items) in
    omega arith

-- the headers of the image are those of the ranges
pub image_rows : (entries : List Named) (g : Grouping) (ss ts : List UnitSpan) (items : List (List Filed)) → AreSpansChanged (change_of g) entries 0 ss ts
    → AllByRecursion AreOpened ss
    → AreItems entries ss items → AreImageRows (map (among (ranges_in 0 ss items)) (ranges_in 0 ss items)) g (rows_from 0 ts)
image_rows entries g ss ts items are opened read =
    let typed : List RangeOf = ranges_in 0 ss items in
    record {
      count = rows_long entries g 0 0 ss ts items are read ∙ sym (length-map typed (among typed));
      each = λ place x is.
          let from = get_unmap (among typed) typed place x is in
          let row = rows_at entries g 0 0 ss ts items place from.0 are opened read from.1 in
          let here : zero + place ≡ place = omega arith in
          (row.0, row.1, subst (λ z. IsImageRow g place z row.0) from.2 (among_row g place typed from.0 row.0 (subst (λ z. IsImageRow g z from.0 row.0) here row.2)));
    }
