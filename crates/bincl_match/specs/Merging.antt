-- What a grouping of ranges has, by whatever rule it was made, so that each range can stand for the others that it is kept for.
use Rattle.std.specs.Prelude.{◌≡◌, ◌≢◌, ℕ, ◌<◌, List, Some, slice_get, slice_index, length}
use Rattle.bincl_match.specs.declared.range.Grouping.{Grouping}
use Rattle.bincl_match.specs.declared.range.RangeOf.{RangeOf}
use Rattle.bincl_match.specs.Matching.{MayPair}

-- what is kept for a range is one of the list, and kept for itself; a range and the one kept for it have one name and one shape, and their
-- file numbers name ranges for which the same is kept; no two ranges of a unit have one kept range; and no two kept ranges of one name
-- have one instance
pub record IsMerging (ranges : List RangeOf) (g : Grouping) : Type 0 where
  pub count : (length g.kept ≡ length ranges) × (length g.instance ≡ length ranges)
  pub inside : (i : ℕ) → i < length ranges → slice_index g.kept i < length ranges
  pub fixed : (i : ℕ) → i < length ranges → slice_index g.kept (slice_index g.kept i) ≡ slice_index g.kept i
  pub paired : (i : ℕ) → i < length ranges → slice_index g.kept i ≢ i → MayPair ranges (λ a b. slice_index g.kept a ≡ slice_index g.kept b) i (slice_index g.kept i)
  pub apart : (i j : ℕ) (x y : RangeOf) → slice_get ranges i ≡ Some x → slice_get ranges j ≡ Some y → x.unit ≡ y.unit → slice_index g.kept i ≡ slice_index g.kept j → i ≡ j
  pub shared : (i : ℕ) → i < length ranges → slice_index g.instance i ≡ slice_index g.instance (slice_index g.kept i)
  pub different : (i j : ℕ) (x y : RangeOf) → slice_get ranges i ≡ Some x → slice_get ranges j ≡ Some y → x.name ≡ y.name → slice_index g.kept i ≡ i → slice_index g.kept j ≡ j → i ≢ j
      → slice_index g.instance i ≢ slice_index g.instance j
