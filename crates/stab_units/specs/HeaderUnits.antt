-- The units of a list that have headers, as far as their headers go: the names of the headers, and of each stab its kind, its file and its
-- string. Places, values and the unit's own name are left out, so these units are the same where the list stands after another one.
use Rattle.std.specs.Prelude.{ℕ, Bool, List, map, filter, is_some}
use Rattle.nlist_codec.specs.declared.named.Named.{Named}
use Rattle.unit_outlines.specs.declared.outline_types.UnitSpan.{UnitSpan}
use Rattle.unit_outlines.specs.EntryWords.{next}
use Rattle.unit_outlines.specs.Outlines.{units_of}
use Rattle.stab_units.specs.Units.{Stab, header_name, stabs_of}

-- a stab of a file
pub record FileStab : Type 0 where
  pub kind : ℕ
  pub file : ℕ
  pub string : List ℕ

-- the names of a unit's headers, and the unit's stabs
pub record HeaderUnit : Type 0 where
  pub headers : List (List ℕ)
  pub stabs : List FileStab

-- a stab without its place and its other fields
abbrev pub file_stab : Stab → FileStab
file_stab s = record { kind = s.entry.kind; file = s.file; string = s.string }

-- the unit of a span
abbrev pub header_unit : List Named → UnitSpan → HeaderUnit
header_unit entries span = record { headers = map header_name span.headers; stabs = map file_stab (stabs_of entries span) }

-- a unit has headers
abbrev pub has_headers : UnitSpan → Bool
has_headers span = is_some (next span.headers)

-- the units of spans that have headers
abbrev pub with_headers : List Named → List UnitSpan → List HeaderUnit
with_headers entries spans = map (header_unit entries) (filter has_headers spans)

-- the units of a list that have headers, in order
abbrev pub header_units : ℕ → List Named → List HeaderUnit
header_units text_end entries = with_headers entries (units_of text_end entries)
