-- What reading the ranges of units keeps. Contracts of private functions alone use these words.
use Rattle.std.specs.Prelude.{◌≡◌, ℕ, ◌+◌, ◌&&◌, not, Bool, false, List, [], ◌∷◌, ◌++◌, map}
use Rattle.std.specs.List.{list_all, slice_index_or}
use Rattle.st_base.specs.declared.fault.Fault.{Fault}
use Rattle.nlist_codec.specs.declared.named.Named.{Named}
use Rattle.unit_outlines.specs.declared.outline_types.UnitSpan.{UnitSpan}
use Rattle.stab_units.specs.declared.unit.HeaderFile.{HeaderFile}
use Rattle.stab_units.specs.declared.unit.Unit.{Unit}
use Rattle.stab_units.specs.Units.{Filed, SpansFaultAfter, Stab, AreRead, parsed_in, unit_of}
use Rattle.bincl_match.specs.declared.range.RangeOf.{RangeOf}
use Rattle.bincl_match.specs.Ranges.{AreItems, in_unit, range_of, typed_ranges, unit_ranges}
use Rattle.bincl_match.specs.Owning.{names_type}

-- ---- one unit

-- the ranges of header files, the first of which has the number `file`, by flags that tell whether the stabs of each file are ready
abbrev pub ready_ranges : ℕ → ℕ → List HeaderFile → List Bool → List RangeOf
ready_ranges unit file [] ready = []
ready_ranges unit file (h ∷ headers) ready = range_of unit file h (slice_index_or ready file false && list_all names_type h.symbols) ∷ ready_ranges unit (file + 1) headers ready

-- the stabs of a span are read, and these are its ranges after the old ones
pub record HasRanges (stabs : List Stab) (span : UnitSpan) (number : ℕ) (old new : List RangeOf) : Type 0 where
  pub items : List Filed
  pub read : AreRead stabs items
  pub are : new ≡ old ++ unit_ranges number (unit_of span items) items

-- ---- all units

-- the units of spans whose stabs are read as these items
abbrev pub units_with : List UnitSpan → List (List Filed) → List Unit
units_with [] items = []
units_with (s ∷ spans) [] = []
units_with (s ∷ spans) (fs ∷ items) = unit_of s fs ∷ units_with spans items

-- the stabs of spans are read, and these are their ranges, before names and shapes that a unit has twice are told
pub record AreTyped (entries : List Named) (spans : List UnitSpan) (ranges : List RangeOf) : Type 0 where
  pub items : List (List Filed)
  pub read : AreItems entries spans items
  pub are : ranges ≡ typed_ranges 0 (units_with spans items) items

-- the spans before those that are left, the first of which has the number n, have these ranges; there were `start` steps before the first
pub record HaveRanges (entries : List Named) (all left : List UnitSpan) (n start : ℕ) (ranges : List RangeOf) (steps : ℕ) : Type 0 where
  pub typed : (items : List (List Filed)) → AreItems entries left items → AreTyped entries all (ranges ++ typed_ranges n (units_with left items) items)
  pub stopped : (f : Fault) (new : ℕ) → SpansFaultAfter entries left f steps new → SpansFaultAfter entries all f start new
  pub counted : steps + parsed_in entries left ≡ start + parsed_in entries all

-- ---- ranges that are changed

-- ranges, each changed by what stands beside it
abbrev pub beside : {B : Type 0} → (RangeOf → B → RangeOf) → List RangeOf → List B → List RangeOf
beside change [] bs = []
beside change (x ∷ xs) [] = []
beside change (x ∷ xs) (b ∷ bs) = change x b ∷ beside change xs bs

-- the range, no candidate where the flag is set
abbrev pub with_flag : RangeOf → Bool → RangeOf
with_flag x b = record { unit = x.unit; file = x.file; name = x.name; shape = x.shape; numbers = x.numbers; sum = x.sum; candidate = x.candidate && not b }

-- ---- units of ranges that are known

-- for each header of the spans the number of its unit, where the first span has the number n
abbrev pub unit_numbers : ℕ → List UnitSpan → List ℕ
unit_numbers n [] = []
unit_numbers n (s ∷ spans) = map (λ h. n) s.headers ++ unit_numbers (n + 1) spans

-- the range, with the number of its unit
abbrev pub with_unit : RangeOf → ℕ → RangeOf
with_unit x n = in_unit n x
