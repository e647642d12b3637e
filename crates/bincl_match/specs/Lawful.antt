-- What holds of every list of header ranges by itself, and is all that matching asks of one.
use Rattle.std.specs.Prelude.{◌≡◌, ℕ, true, List, Some, slice_get}
use Rattle.bincl_match.specs.declared.range.RangeOf.{RangeOf}

-- the range at this place is that of the header with the number `file` in `unit`
abbrev pub IsHeader : List RangeOf → ℕ → ℕ → ℕ → Type 0
IsHeader ranges unit file place = (x : RangeOf) × (slice_get ranges place ≡ Some x) × (x.unit ≡ unit) × (x.file ≡ file)

-- a unit and a number have one header at most, number 0 has none, and a candidate is the only range of its unit with its name and shape
pub record IsLawful (ranges : List RangeOf) : Type 0 where
  pub one_header : (unit file k l : ℕ) → IsHeader ranges unit file k → IsHeader ranges unit file l → k ≡ l
  pub no_zero : (unit k : ℕ) → IsHeader ranges unit 0 k → ⊥
  pub only_one : (i j : ℕ) (x y : RangeOf) → slice_get ranges i ≡ Some x → slice_get ranges j ≡ Some y → x.candidate ≡ true
      → x.unit ≡ y.unit → x.name ≡ y.name → x.shape ≡ y.shape → i ≡ j
