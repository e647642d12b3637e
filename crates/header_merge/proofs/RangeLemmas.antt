-- The ranges of units by places: header f of a unit is at place f after the headers of the units before.
use Rattle.std.proofs.Common.{◌≡◌, ℕ, zero, suc, ◌+◌, ◌<◌, ◌⊎◌, inl, inr, List, [], ◌∷◌, length, Some, refl, ap, ◌∙◌, arith, map, slice_get}
use Rattle.std.proofs.lemmas.Option.{slice_get_within}
use Rattle.unit_outlines.specs.declared.outline_types.HeaderMark.{HeaderMark}
use Rattle.unit_outlines.specs.declared.outline_types.UnitSpan.{UnitSpan}
use Rattle.stab_units.specs.Units.{Filed, file_of, files_from, header_name}
use Rattle.bincl_match.specs.declared.range.RangeOf.{RangeOf}
use Rattle.bincl_match.specs.Ranges.{is_typed, range_of, ranges_from, typed_ranges}
use Rattle.bincl_match.specs.Reading.{units_with}
use Rattle.bincl_match.proofs.ListLemmas.{InBack, get_cases, none_is, some_is}
use Rattle.header_merge.proofs.ListLemmas.{get_there}
use Rattle.header_merge.proofs.FrontLemmas.{get_back, get_front}

-- ---- one unit

-- the range of a header with this number and name
abbrev pub range_at : ℕ → ℕ → HeaderMark → List Filed → RangeOf
range_at unit file h fs = range_of unit file (file_of file h.name fs) (is_typed file fs)

-- the ranges of headers, the first of which has this number
abbrev pub ranges_at : ℕ → ℕ → List HeaderMark → List Filed → List RangeOf
ranges_at unit file hs fs = ranges_from unit file (files_from file (map header_name hs) fs) fs

-- there is one for each header
pub ranges_count : (unit file : ℕ) (hs : List HeaderMark) (fs : List Filed) → length (ranges_at unit file hs fs) ≡ length hs
ranges_count unit file [] fs = refl
ranges_count unit file (h ∷ hs) fs = ap suc (ranges_count unit (file + 1) hs fs)

-- at the place of the header
pub ranges_get : (unit file : ℕ) (hs : List HeaderMark) (fs : List Filed) (k number : ℕ) (h : HeaderMark) → slice_get hs k ≡ Some h → number ≡ file + k
    → slice_get (ranges_at unit file hs fs) k ≡ Some (range_at unit number h fs)
ranges_get unit file [] fs k number h is same = absurd (none_is h is)
ranges_get unit file (m ∷ hs) fs zero number h is same =
    let here : file ≡ number = omega arith in
    ap (λ z. Some (range_at unit z m fs)) here ∙ ap (λ z. Some (range_at unit number z fs)) (some_is (Some m) m h refl is)
ranges_get unit file (m ∷ hs) fs (suc k) number h is same = ranges_get unit (file + 1) hs fs k number h is (omega arith)

-- a range of a unit is that of a header
pub record IsOfHeader (unit file : ℕ) (hs : List HeaderMark) (fs : List Filed) (k : ℕ) (x : RangeOf) : Type 0 where
  pub header : HeaderMark
  pub at : slice_get hs k ≡ Some header
  pub is : x ≡ range_at unit (file + k) header fs

pub of_header : (unit file : ℕ) (hs : List HeaderMark) (fs : List Filed) (k : ℕ) (x : RangeOf) → slice_get (ranges_at unit file hs fs) k ≡ Some x
    → IsOfHeader unit file hs fs k x
of_header unit file hs fs k x is =
    let within : k < length (ranges_at unit file hs fs) = slice_get_within (ranges_at unit file hs fs) k x is in
    let h = get_there hs k (omega (arith, within, ranges_count unit file hs fs)) in
    record {
      header = h.0;
      at = h.1;
      is = some_is (slice_get (ranges_at unit file hs fs) k) x (range_at unit (file + k) h.0 fs) is (ranges_get unit file hs fs k (file + k) h.0 h.1 refl);
    }

-- ---- units one after the other

-- the ranges of these spans, the first of which has this number
abbrev pub ranges_in : ℕ → List UnitSpan → List (List Filed) → List RangeOf
ranges_in n spans items = typed_ranges n (units_with spans items) items

-- they stand among all ranges, the first at this place
abbrev pub AreAmong : List RangeOf → ℕ → List RangeOf → Type 0
AreAmong all place ranges = (k : ℕ) (x : RangeOf) → slice_get ranges k ≡ Some x → slice_get all (place + k) ≡ Some x

module _ (all : List RangeOf) (place n : ℕ) (s : UnitSpan) (spans : List UnitSpan) (fs : List Filed) (items : List (List Filed))
    (among : AreAmong all place (ranges_in n (s ∷ spans) (fs ∷ items))) where
  -- those of the first unit do
  pub header_among : (k : ℕ) (h : HeaderMark) → slice_get s.headers k ≡ Some h → slice_get all (place + k) ≡ Some (range_at n (suc k) h fs)
  header_among k h is =
      among k (range_at n (suc k) h fs) (get_front (ranges_at n 1 s.headers fs) (ranges_in (n + 1) spans items) k (range_at n (suc k) h fs)
      (ranges_get n 1 s.headers fs k (suc k) h is (omega arith)))

  -- and those of the others
  pub later_among : AreAmong all (place + length s.headers) (ranges_in (n + 1) spans items)
  later_among k x is =
      let count = ranges_count n 1 s.headers fs in
      let same : place + length s.headers + k ≡ place + (length (ranges_at n 1 s.headers fs) + k) = omega arith in
      ap (slice_get all) same ∙ among (length (ranges_at n 1 s.headers fs) + k) x (get_back (ranges_at n 1 s.headers fs) (ranges_in (n + 1) spans items) k ∙ is)

-- a range is one of the first unit or of the others
pub first_or_later : (n : ℕ) (s : UnitSpan) (spans : List UnitSpan) (fs : List Filed) (items : List (List Filed)) (k : ℕ) (x : RangeOf)
    → slice_get (ranges_in n (s ∷ spans) (fs ∷ items)) k ≡ Some x
    → IsOfHeader n 1 s.headers fs k x ⊎ ((j : ℕ) × (k ≡ length s.headers + j) × (slice_get (ranges_in (n + 1) spans items) j ≡ Some x))
first_or_later n s spans fs items k x is = by_case (get_cases (ranges_at n 1 s.headers fs) (ranges_in (n + 1) spans items) k x is) where
  by_case : (slice_get (ranges_at n 1 s.headers fs) k ≡ Some x) ⊎ InBack (ranges_at n 1 s.headers fs) (ranges_in (n + 1) spans items) k x
      → IsOfHeader n 1 s.headers fs k x ⊎ ((j : ℕ) × (k ≡ length s.headers + j) × (slice_get (ranges_in (n + 1) spans items) j ≡ Some x))
  by_case (inl here) = inl (of_header n 1 s.headers fs k x here)
  by_case (inr later) = let count = ranges_count n 1 s.headers fs in inr (later.0, omega (arith, later.1, count), later.2)
