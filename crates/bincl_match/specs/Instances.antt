-- The instance of a kept range: the value that a link gives its N_BINCL, and each N_EXCL that stands for it, so that no two kept ranges
-- of one name have the same. It is the first free number from the sum of the range on. This project's own; in "The stabs debug format"
-- the value is the sum itself.
use Rattle.std.specs.Prelude.{◌≡◌, ℕ, ◌+◌, ◌<◌, ◌≤◌, ◌%◌, ◌^◌, List, Some, slice_get, slice_index, length, ◌≢◌}
use Rattle.std.specs.List.{slice_index_or}
use Rattle.bincl_match.specs.declared.range.Grouping.{Grouping}
use Rattle.bincl_match.specs.declared.range.RangeOf.{RangeOf}

-- an earlier kept range of the name has the instance v
abbrev pub IsTaken : List RangeOf → List ℕ → List ℕ → ℕ → List ℕ → ℕ → Type 0
IsTaken ranges kept instance i name v =
    (j : ℕ) × (x : RangeOf) × (j < i) × (slice_get ranges j ≡ Some x) × (x.name ≡ name) × (slice_index_or kept j 0 ≡ j) × (slice_index_or instance j 0 ≡ v)

-- v is the first of sum, sum + 1, sum + 2 .. modulo 2 ^ 32 that is not taken
abbrev pub FirstFrom : ℕ → (ℕ → Type 0) → ℕ → Type 0
FirstFrom sum Taken v = (d : ℕ) × (v ≡ (sum + d) % 2 ^ 32) × (Taken v → ⊥) × ((e : ℕ) → e < d → Taken ((sum + e) % 2 ^ 32))

-- range i, a kept one, has the first instance from its sum on that no earlier kept range of its name has
abbrev pub IsInstance : List RangeOf → List ℕ → List ℕ → ℕ → Type 0
IsInstance ranges kept instance i =
    (x : RangeOf) × (slice_get ranges i ≡ Some x) × FirstFrom x.sum (IsTaken ranges kept instance i x.name) (slice_index_or instance i 0)

-- what is kept for a range never stands after it
abbrev pub AreLow : List ℕ → Type 0
AreLow kept = (i : ℕ) → slice_index_or kept i 0 ≤ i

-- every range is kept: each for itself, with an instance of its own, so that two ranges of one name have different ones
pub record IsAlone (ranges : List RangeOf) (g : Grouping) : Type 0 where
  pub count : (length g.kept ≡ length ranges) × (length g.instance ≡ length ranges)
  pub kept : (i : ℕ) → i < length ranges → slice_index g.kept i ≡ i
  pub own : (i : ℕ) → i < length ranges → IsInstance ranges g.kept g.instance i
  pub apart : (i j : ℕ) (x y : RangeOf) → slice_get ranges i ≡ Some x → slice_get ranges j ≡ Some y → x.name ≡ y.name → i ≢ j → slice_index g.instance i ≢ slice_index g.instance j
