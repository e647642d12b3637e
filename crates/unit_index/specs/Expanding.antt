-- The world of an image: each N_EXCL has the symbols of the header range that it stands for, with the numbers that its own unit has for
-- their files. After "The stabs debug format", on include files.
use Rattle.std.specs.Prelude.{◌≡◌, ℕ, ◌+◌, ◌⊎◌, List, [], ◌∷◌, cond, map, slice_get, Option, Some, None}
use Rattle.st_base.specs.declared.fault.Fault.{Fault}
use Rattle.nlist_codec.specs.declared.named.Named.{Named}
use Rattle.stab_symbols.specs.declared.tree.Symbol.{Symbol}
use Rattle.stab_symbols.specs.Files.{with_files}
use Rattle.unit_outlines.specs.declared.outline_types.HeaderMark.{HeaderMark}
use Rattle.unit_outlines.specs.declared.outline_types.UnitSpan.{UnitSpan}
use Rattle.unit_outlines.specs.declared.outline_types.Marks.TheVariants.{Image}
use Rattle.stab_units.specs.declared.unit.HeaderFile.{HeaderFile}
use Rattle.stab_units.specs.declared.unit.Unit.{Unit}
use Rattle.unit_outlines.specs.Outlines.{OutlineFault, units_of}
use Rattle.stab_units.specs.Units.{AreUnitsOf, SpansFault, SpansFaultAfter}
use Rattle.type_graph.specs.declared.world.World.{World}
use Rattle.type_graph.specs.Types.{symbols_in}
use Rattle.type_graph.specs.Worlds.{externals_of}
use Rattle.unit_index.specs.declared.owner.Owner.{Owner}
use Rattle.unit_index.specs.Owners.{rows_of, owners_of, index_fault, stands_for, new_number}

-- ---- the index of an image

-- the fault of an image's headers, where text ends at this address: that of its outline, else that of its first N_EXCL whose name
-- and value no N_BINCL has, or several have; none where each header has one owner
abbrev pub IndexFault : ℕ → List Named → Option Fault → Type 0
IndexFault text_end entries None = OutlineFault Image entries None × (index_fault (rows_of (units_of text_end entries)) ≡ None)
IndexFault text_end entries (Some f) = OutlineFault Image entries (Some f)
    ⊎ (OutlineFault Image entries None × (index_fault (rows_of (units_of text_end entries)) ≡ Some f))

-- ---- units, expanded

-- the files of a unit, none where there is no such unit
abbrev pub files_of : Option Unit → List HeaderFile
files_of None = []
files_of (Some unit) = unit.files

-- the symbols of a file as it was read, none where there is no such file
abbrev pub symbols_at : List Unit → ℕ → ℕ → List Symbol
symbols_at units unit file = symbols_in (slice_get (files_of (slice_get units unit)) file)

-- what a header of a unit takes over of the range that it stands for: its symbols, with the files that they have in this unit
abbrev pub taken_over : List Owner → List Unit → ℕ → Option Owner → List Symbol
taken_over owners units unit None = []
taken_over owners units unit (Some o) = map (with_files (new_number owners o.owner_unit unit)) (symbols_at units o.owner_unit o.owner_file)

-- the file of a header that is not excluded stays as it was read
abbrev pub file_expanded : List Owner → List Unit → ℕ → ℕ → HeaderMark → HeaderFile → HeaderFile
file_expanded owners units unit number h file = cond h.excluded (record { name = file.name; symbols = taken_over owners units unit (stands_for owners unit number) }) file

-- the files of these headers, the first of which has this number
abbrev pub headers_expanded : List Owner → List Unit → ℕ → ℕ → List HeaderMark → List HeaderFile → List HeaderFile
headers_expanded owners units unit number [] files = files
headers_expanded owners units unit number (h ∷ hs) [] = []
headers_expanded owners units unit number (h ∷ hs) (f ∷ files) = file_expanded owners units unit number h f ∷ headers_expanded owners units unit (number + 1) hs files

-- the main source, then the headers, which are numbered from 1
abbrev pub files_expanded : List Owner → List Unit → ℕ → List HeaderMark → List HeaderFile → List HeaderFile
files_expanded owners units unit hs [] = []
files_expanded owners units unit hs (own ∷ files) = own ∷ headers_expanded owners units unit 1 hs files

-- all but the files of a unit stays
abbrev pub unit_expanded : List Owner → List Unit → ℕ → UnitSpan → Unit → Unit
unit_expanded owners units number s u = record {
  name = u.name;
  start = u.start;
  end = u.end;
  files = files_expanded owners units number s.headers u.files;
  body = u.body;
}

-- the units of these spans, the first of which has this number
abbrev pub units_expanded : List Owner → List Unit → ℕ → List UnitSpan → List Unit → List Unit
units_expanded owners units number [] us = us
units_expanded owners units number (s ∷ spans) [] = []
units_expanded owners units number (s ∷ spans) (u ∷ us) = unit_expanded owners units number s u ∷ units_expanded owners units (number + 1) spans us

-- the units of an image, of which `units` are as they were read
abbrev pub expanded : List UnitSpan → List Unit → List Unit
expanded spans units = units_expanded (owners_of (rows_of spans)) units 0 spans units

-- ---- the world of an image

-- this is the world of an image with these entries, where text ends at this address
pub record IsExpanded (text_end : ℕ) (entries : List Named) (world : World) : Type 0 where
  pub index : IndexFault text_end entries None
  pub units : List Unit
  pub are : AreUnitsOf entries (units_of text_end entries) units
  pub is : world.units ≡ expanded (units_of text_end entries) units
  pub externals : world.externals ≡ externals_of entries

-- the entries of an image have no world, and this fault: that of its headers, else the first one of a string
abbrev pub ExpandFault : ℕ → List Named → Fault → Type 0
ExpandFault text_end entries f = IndexFault text_end entries (Some f) ⊎ (IndexFault text_end entries None × SpansFault entries (units_of text_end entries) f)

-- after `old` steps an image is refused with this fault, and there are `new`: no more for that of its headers, else one for each string
-- that is parsed, up to and with the one that has the fault
abbrev pub ExpandFaultAfter : ℕ → List Named → Fault → ℕ → ℕ → Type 0
ExpandFaultAfter text_end entries f old new = (IndexFault text_end entries (Some f) × (new ≡ old))
    ⊎ (IndexFault text_end entries None × SpansFaultAfter entries (units_of text_end entries) f old new)
