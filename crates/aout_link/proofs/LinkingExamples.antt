-- Worked values of linking, by hand: two objects in little order with four bytes of text and one unit each, linked from address 4096 on.
-- Both units include a header `h` without symbols, so that the sums of both ranges are 0. Where both are kept their instances are 0 and 1.
use Rattle.std.proofs.Common.{◌≡◌, ◌≢◌, ℕ, zero, suc, ◌+◌, ◌<◌, ◌%◌, ◌^◌, List, [], ◌∷◌, true, false, refl, subst, arith, lit<, get_or, ap}
use Rattle.std.specs.Prelude.{Some, None, Option, codes, slice_get, slice_index}
use Rattle.st_base.specs.declared.order.Order.TheVariants.{Little}
use Rattle.st_base.specs.declared.fault.Fault.{Fault}
use Rattle.stab_codes.specs.Segments.{segment_of}
use Rattle.stab_codes.specs.Table.{carries_symbol}
use Rattle.stab_codes.specs.declared.code.TheConstants.{N_SO, N_BINCL, N_EINCL, N_EXCL}
use Rattle.nlist_codec.specs.declared.named.Named.{Named}
use Rattle.unit_outlines.specs.declared.outline_types.Marks.TheVariants.{Object}
use Rattle.unit_outlines.specs.declared.outline_types.UnitSpan.{UnitSpan}
use Rattle.stab_units.specs.declared.unit.Unit.{Unit}
use Rattle.unit_outlines.specs.Firsts.{FirstOf, IsTold, first_told}
use Rattle.unit_outlines.specs.Outlines.{OutlineFault, units_of, outline_tell}
use Rattle.stab_units.specs.Units.{unit_of}
use Rattle.stab_units.specs.ObjectUnits.{AreUnits}
use Rattle.unit_outlines.proofs.FirstLemmas.{first_of_all}
use Rattle.bincl_match.specs.declared.range.RangeOf.{RangeOf}
use Rattle.bincl_match.specs.declared.range.Grouping.{Grouping}
use Rattle.bincl_match.specs.Ranges.{AreRanges}
use Rattle.bincl_match.specs.Instances.{IsTaken, IsInstance}
use Rattle.header_merge.specs.Merged.{merged}
use Rattle.aout_link.specs.Sources.{Source, HasUnits}
use Rattle.aout_link.specs.Moves.{all_moves}
use Rattle.aout_link.specs.NameTables.{names_table}
use Rattle.aout_link.specs.Placing.{placed_all}
use Rattle.aout_link.specs.Refusals.{list_fault}
use Rattle.aout_link.specs.Linking.{IsGroupingOf, kept_from}
use Rattle.bincl_match.specs.declared.mode.Mode.TheVariants.{Keep}

-- ---- the objects

-- a stab without a description
abbrev stab : ℕ → ℕ → List ℕ → Named
stab kind value name = record { kind = kind; other = 0; desc = 0; value = value; name = name }

-- a unit of this name from this address on, whose header has this value
abbrev unit_at : ℕ → ℕ → List ℕ → List Named
unit_at start instance name = stab N_SO start name ∷ stab N_BINCL instance (codes "h") ∷ stab N_EINCL 0 [] ∷ []

-- an object with that unit
abbrev object : List ℕ → Source
object name = record {
  object = record {
    parts = record { order = Little; machine = 100; bss = 0; entry = 0; text = 144 ∷ 144 ∷ 144 ∷ 144 ∷ []; data_part = []; text_relocs = []; data_relocs = [] };
    entries = [];
    strings = [];
  };
  parts = record { order = Little; machine = 100; bss = 0; entry = 0; text = 144 ∷ 144 ∷ 144 ∷ 144 ∷ []; data_part = []; text_relocs = []; data_relocs = [] };
  named = unit_at 0 7 name;
}

abbrev objects : List Source
objects = object (codes "a.c") ∷ object (codes "b.c") ∷ []

no_fault : list_fault 4096 objects ≡ None
unfolding segment_of
no_fault = refl

-- the unit of this name, whose text has four bytes, and whose header has the value 7
abbrev span_at : List ℕ → ℕ → ℕ → UnitSpan
span_at name start first = record {
  name = name;
  start = start;
  end = start + 4;
  first = first;
  past = first + 3;
  headers = record { name = codes "h"; first = first + 1; past = first + 3; excluded = false; value = 7 } ∷ [];
}

-- where nothing is told there is no fault
no_outline_fault : (es : List Named) → first_told (outline_tell Object) [] 0 es ≡ None → OutlineFault Object es None
no_outline_fault es none = subst (λ (f : Option Fault). FirstOf (IsTold (outline_tell Object) es) f) none (first_of_all (outline_tell Object) es)

first_none : first_told (outline_tell Object) [] 0 (unit_at 0 7 (codes "a.c")) ≡ None
unfolding carries_symbol
first_none = refl

-- the first object by itself has one unit, from 0 to the end of its four bytes; the range of its header begins at the second entry
first_units : HasUnits (object (codes "a.c"))
first_units = (unit_of (span_at (codes "a.c") 0 0) [] ∷ [], record { no_fault = no_outline_fault (unit_at 0 7 (codes "a.c")) first_none; are = (record { items = []; read = tt; is = refl }, tt) })

-- ---- what is placed

-- the units stand at 4096 and 4100; each header has the value that it had
abbrev placed : List Named
placed =
    stab N_SO 4096 (codes "a.c") ∷ stab N_BINCL 7 (codes "h") ∷ stab N_EINCL 0 [] ∷ stab N_SO 4100 (codes "b.c") ∷ stab N_BINCL 7 (codes "h") ∷ stab N_EINCL 0 [] ∷ []

placed_are : placed_all (names_table 4096 objects) (all_moves 4096 objects) objects ≡ placed
unfolding segment_of
placed_are = refl

-- text ends at 4104
spans : units_of 4104 placed ≡ span_at (codes "a.c") 4096 0 ∷ span_at (codes "b.c") 4100 3 ∷ []
spans = refl

none_told : first_told (outline_tell Object) [] 0 placed ≡ None
unfolding carries_symbol
none_told = refl

abbrev units : List Unit
units = unit_of (span_at (codes "a.c") 4096 0) [] ∷ unit_of (span_at (codes "b.c") 4100 3) [] ∷ []

are_units : AreUnits 4104 placed units
are_units = record {
  no_fault = no_outline_fault placed none_told;
  are = (record { items = []; read = tt; is = refl }, (record { items = []; read = tt; is = refl }, tt));
}

-- ---- the ranges and their instances

abbrev range_in : ℕ → RangeOf
range_in unit = record { unit = unit; file = 1; name = codes "h"; shape = []; numbers = []; sum = 0; candidate = true }

abbrev ranges : List RangeOf
ranges = range_in 0 ∷ range_in 1 ∷ []

are_ranges : AreRanges 4104 placed ranges
are_ranges = record { units = units; are_units = are_units; items = [] ∷ [] ∷ []; are_items = (tt, (tt, tt)); are = refl }

abbrev grouping : Grouping
grouping = record { kept = 0 ∷ 1 ∷ []; instance = 0 ∷ 1 ∷ [] }

-- the first range has its sum
first_instance : IsInstance ranges (0 ∷ 1 ∷ []) (0 ∷ 1 ∷ []) 0
first_instance = (range_in 0, refl, (0, refl, not_taken, none_before)) where
  not_taken : IsTaken ranges (0 ∷ 1 ∷ []) (0 ∷ 1 ∷ []) 0 (codes "h") 0 → ⊥
  not_taken (j, r, lt, is, name, kept, v) = absurd (omega (arith, lt))

  none_before : (e : ℕ) → e < 0 → IsTaken ranges (0 ∷ 1 ∷ []) (0 ∷ 1 ∷ []) 0 (codes "h") ((0 + e) % 2 ^ 32)
  none_before e lt = absurd (omega (arith, lt))

-- the second the next number, since the first has the sum
second_instance : IsInstance ranges (0 ∷ 1 ∷ []) (0 ∷ 1 ∷ []) 1
second_instance = (range_in 1, refl, (1, refl, not_taken, taken)) where
  not_taken : IsTaken ranges (0 ∷ 1 ∷ []) (0 ∷ 1 ∷ []) 1 (codes "h") 1 → ⊥
  not_taken (zero, r, lt, is, name, kept, v) = absurd (omega (arith, v))
  not_taken (suc j, r, lt, is, name, kept, v) = absurd (omega (arith, lt))

  taken : (e : ℕ) → e < 1 → IsTaken ranges (0 ∷ 1 ∷ []) (0 ∷ 1 ∷ []) 1 (codes "h") ((0 + e) % 2 ^ 32)
  taken zero lt = (0, range_in 0, lit< tt, refl, refl, refl, refl)
  taken (suc e) lt = absurd (omega arith)

-- of two places below 2 that differ, the instances differ
apart : (i j : ℕ) (x y : RangeOf) → slice_get ranges i ≡ Some x → slice_get ranges j ≡ Some y → x.name ≡ y.name → i ≢ j
    → slice_index (0 ∷ 1 ∷ []) i ≢ slice_index (0 ∷ 1 ∷ []) j
apart zero zero x y p q same other = absurd (other refl)
apart zero (suc zero) x y p q same other = λ e. absurd (omega (arith, e))
apart (suc zero) zero x y p q same other = λ e. absurd (omega (arith, e))
apart (suc zero) (suc zero) x y p q same other = absurd (other refl)
apart (suc (suc i)) j x y p q same other = absurd (let none : None ≡ Some x = p in cc)
apart i (suc (suc j)) x y p q same other = absurd (let none : None ≡ Some y = q in cc)

kept_own : (i : ℕ) → i < 2 → slice_index (0 ∷ 1 ∷ []) i ≡ i
kept_own zero lt = refl
kept_own (suc zero) lt = refl
kept_own (suc (suc i)) lt = absurd (omega arith)

own : (i : ℕ) → i < 2 → IsInstance ranges (0 ∷ 1 ∷ []) (0 ∷ 1 ∷ []) i
own zero lt = first_instance
own (suc zero) lt = second_instance
own (suc (suc i)) lt = absurd (omega arith)

-- both ranges are kept
all_kept : IsGroupingOf Keep ranges grouping
all_kept = record { count = (refl, refl); kept = kept_own; own = own; apart = apart }

both_count : kept_from 0 grouping.kept ≡ 2
both_count = refl

-- ---- one for both

-- the first is kept for the second
abbrev shared_grouping : Grouping
shared_grouping = record { kept = 0 ∷ 0 ∷ []; instance = 0 ∷ 0 ∷ [] }

one_count : kept_from 0 shared_grouping.kept ≡ 1
one_count = refl

-- ---- the images

-- each header has its instance
kept_entries : merged grouping placed
    ≡ stab N_SO 4096 (codes "a.c") ∷ stab N_BINCL 0 (codes "h") ∷ stab N_EINCL 0 [] ∷ stab N_SO 4100 (codes "b.c") ∷ stab N_BINCL 1 (codes "h") ∷ stab N_EINCL 0 [] ∷ []
kept_entries = refl

-- the second is an N_EXCL with the instance of the first, and its N_EINCL is gone
shared_entries : merged shared_grouping placed
    ≡ stab N_SO 4096 (codes "a.c") ∷ stab N_BINCL 0 (codes "h") ∷ stab N_EINCL 0 [] ∷ stab N_SO 4100 (codes "b.c") ∷ stab N_EXCL 0 (codes "h") ∷ []
shared_entries = refl

-- a header that kept its value would not be that of an image
kept_value : merged grouping placed ≢ placed
kept_value e = let first : 0 ≡ 7 = ap (λ (es : List Named). (get_or es 1 (stab 0 0 [])).value) e in omega (arith, first)
