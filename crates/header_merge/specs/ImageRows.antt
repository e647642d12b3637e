-- The headers of an image, given by the ranges of the entries that it was made of. Lemmas alone use these words.
use Rattle.std.specs.Prelude.{◌≡◌, ℕ, not, List, Some, slice_get, slice_index, length}
use Rattle.bincl_match.specs.declared.range.Grouping.{Grouping}
use Rattle.bincl_match.specs.declared.range.RangeOf.{RangeOf}
use Rattle.unit_index.specs.Owners.{Row}
use Rattle.header_merge.specs.Merged.{is_kept}

-- the header of the range at this place
pub record IsImageRow (g : Grouping) (place : ℕ) (x : RangeOf) (r : Row) : Type 0 where
  pub unit : r.unit ≡ x.unit
  pub file : r.file ≡ x.file
  pub name : r.name ≡ x.name
  pub excluded : r.excluded ≡ not (is_kept g place)
  pub value : r.value ≡ slice_index g.instance place

-- a header for each range, in order
pub record AreImageRows (ranges : List RangeOf) (g : Grouping) (rows : List Row) : Type 0 where
  pub count : length rows ≡ length ranges
  pub each : (place : ℕ) (x : RangeOf) → slice_get ranges place ≡ Some x → (r : Row) × (slice_get rows place ≡ Some r) × IsImageRow g place x r
