-- The units of an object's entries, and the fault where they have none.
use Rattle.std.specs.Prelude.{◌≡◌, ℕ, ◌⊎◌, List, Some, None}
use Rattle.st_base.specs.declared.fault.Fault.{Fault}
use Rattle.nlist_codec.specs.declared.named.Named.{Named}
use Rattle.unit_outlines.specs.declared.outline_types.Marks.TheVariants.{Object}
use Rattle.stab_units.specs.declared.unit.Unit.{Unit}
use Rattle.unit_outlines.specs.Outlines.{OutlineFault, units_of}
use Rattle.stab_units.specs.Units.{AreUnitsOf, SpansFault, SpansFaultAfter, parsed_in}

-- these are the units of the entries of an object, where text ends at this address
pub record AreUnits (text_end : ℕ) (entries : List Named) (units : List Unit) : Type 0 where
  pub no_fault : OutlineFault Object entries None
  pub are : AreUnitsOf entries (units_of text_end entries) units

-- the entries of an object have no units, and this fault: that of the outline, else the first one of a string
abbrev pub UnitsFault : ℕ → List Named → Fault → Type 0
UnitsFault text_end entries f = OutlineFault Object entries (Some f) ⊎ (OutlineFault Object entries None × SpansFault entries (units_of text_end entries) f)

-- how many strings of the units are parsed
abbrev pub strings_in : ℕ → List Named → ℕ
strings_in text_end entries = parsed_in entries (units_of text_end entries)

-- after `old` steps the entries of an object are refused with this fault, and there are `new`: no more for that of the outline, else one for
-- each string that is parsed, up to and with the one that has the fault
abbrev pub UnitsFaultAfter : ℕ → List Named → Fault → ℕ → ℕ → Type 0
UnitsFaultAfter text_end entries f old new = (OutlineFault Object entries (Some f) × (new ≡ old))
    ⊎ (OutlineFault Object entries None × SpansFaultAfter entries (units_of text_end entries) f old new)
