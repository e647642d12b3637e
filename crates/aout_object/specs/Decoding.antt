-- What the code of `decode` and of `make` keeps on its way, and in which words their calls answer. The checks of a file are those of
-- specs/Checks.antt; here each step has the first fault of its own checks, and proofs/StepLemmas.antt shows that these are the checks
-- of a file in their order.
use Rattle.std.specs.Prelude.{◌≡◌, ◌≢◌, ℕ, ◌+◌, ◌-◌, ◌/◌, ◌<◌, ◌≤◌, ◌^◌, ◌==◌, nat_lt, nat_le, if◌then◌else◌, Bool, List, [], ◌∷◌, length, get_or, map, take, drop, position, Option, Some, None, Result, Ok, Err}
use Rattle.st_base.specs.ByteOrder.{is_big}
use Rattle.st_base.specs.Faults.{fault_at, first_fault}
use Rattle.st_base.specs.declared.fault.Fault.{Fault}
use Rattle.st_base.specs.declared.fault.Refused.{Refused}
use Rattle.st_base.specs.declared.fault.Refused.TheVariants as refused
use Rattle.st_base.specs.declared.fault.TheConstants.{TRUNCATED, KIND, INSIDE, PAST, NO_END}
use Rattle.st_base.specs.declared.sizes.TheConstants.{HEADER_SIZE, RELOC_SIZE}
use Rattle.aout_layout.specs.declared.header.Header.{Header}
use Rattle.aout_layout.specs.Headers.{read}
use Rattle.nlist_codec.specs.declared.entry.Entry.{Entry}
use Rattle.nlist_codec.specs.Entries.{entries_in}
use Rattle.reloc.specs.declared.reloc.Reloc.{Reloc}
use Rattle.reloc.specs.Relocs.{reloc_of}
use Rattle.reloc.specs.Relocs.{read as read_reloc}
use Rattle.strtab.specs.StringTable.{is_zero}
use Rattle.aout_object.specs.declared.read.Places.{Places}
use Rattle.aout_object.specs.Objects.{Contents, ObjectSpells, is_accepted_kind}
use Rattle.aout_object.specs.Checks.{data_at, text_relocs_at, data_relocs_at, entries_at, table_at, part, reloc_pieces, text_relocs_part, data_relocs_part, entries_part, strings_part, place_checks, FileFault}

-- ---- answers

-- what a call answers that makes checks with this first fault, and has this value where there is none; out of memory is free
abbrev pub Answers : {A : Type 0} → Result A Refused → Option Fault → A → Type 0
Answers (Ok found) fault value = (fault ≡ None) × (found ≡ value)
Answers (Err refused.Memory) fault value = Unit {0}
Answers (Err (refused.At why)) fault value = fault ≡ Some why

-- the answer that is this fault
abbrev pub refused_at : Fault → Refused
refused_at fault = refused.At fault

-- what decoding a file answers: an object that the file spells, or its fault; out of memory is free
abbrev pub Decodes : Result Contents Refused → List ℕ → Type 0
Decodes (Ok o) bytes = ObjectSpells o bytes
Decodes (Err refused.Memory) bytes = Unit {0}
Decodes (Err (refused.At fault)) bytes = FileFault bytes fault

-- this value is answered, unless out of memory
abbrev pub Gives : {A : Type 0} → Result A Refused → Result A Fault → Type 0
Gives (Ok found) wanted = wanted ≡ Ok found
Gives (Err refused.Memory) wanted = Unit {0}
Gives (Err (refused.At why)) wanted = wanted ≡ Err why

-- ---- what is read

-- the relocations of bytes that hold one in each eight
abbrev pub relocs_in : Bool → List ℕ → List Reloc
relocs_in big bytes = map (reloc_of big) (reloc_pieces bytes)

-- what the parts of a file with this header hold
abbrev pub contents_in : Header → List ℕ → Contents
contents_in h bytes = record {
  parts = record {
    order = h.order;
    machine = h.machine;
    bss = h.bss;
    entry = h.entry;
    text = part bytes HEADER_SIZE h.text;
    data_part = part bytes (data_at h) h.data_part;
    text_relocs = relocs_in (is_big h.order) (text_relocs_part h bytes);
    data_relocs = relocs_in (is_big h.order) (data_relocs_part h bytes);
  };
  entries = entries_in (is_big h.order) (entries_part h bytes);
  strings = strings_part h bytes;
}

-- places that the code keeps of a file with this header
pub record ArePlaces (h : Header) (places : Places) : Type 0 where
  pub data_part : places.data_part ≡ data_at h
  pub text_relocs : places.text_relocs ≡ text_relocs_at h
  pub data_relocs : places.data_relocs ≡ data_relocs_at h
  pub entries : places.entries ≡ entries_at h
  pub table : places.table ≡ table_at h
  pub bound : places.table < 2 ^ 35

-- ---- the first fault of each step

-- the fault that comes first: this one, else the other
abbrev pub fault_or : Option Fault → Option Fault → Option Fault
fault_or None later = later
fault_or (Some fault) later = Some fault

-- a fault unless the test holds
abbrev pub fault_unless : Bool → ℕ → ℕ → Option Fault
fault_unless test number place = if test then None else Some (fault_at number place)

-- the fault of a reading, at the place of what was read
abbrev pub fault_of : {A : Type 0} → ℕ → Result A Fault → Option Fault
fault_of place (Ok value) = None
fault_of place (Err fault) = Some (fault_at fault.number place)

-- each relocation, `place` of them standing before: the fault of the first that is refused
abbrev pub relocs_fault : Bool → ℕ → List (List ℕ) → Option Fault
relocs_fault big place [] = None
relocs_fault big place (piece ∷ pieces) = fault_or (fault_of place (read_reloc big piece)) (relocs_fault big (place + 1) pieces)

-- the fault of a name, by the place of the first zero byte after its begin
abbrev pub end_fault : ℕ → Option ℕ → Option Fault
end_fault place None = Some (fault_at NO_END place)
end_fault place (Some end) = None

-- a name at an offset of the string table: not inside its word, not past the table, and with a zero byte that ends it
abbrev pub name_fault : List ℕ → ℕ → ℕ → Option Fault
name_fault strings place strx =
    if strx == 0 then None
    else fault_or (fault_unless (nat_le 4 strx) INSIDE place)
    (fault_or (fault_unless (nat_lt strx (length strings)) PAST place)
    (end_fault place (position is_zero (drop strx strings))))

-- the last zero byte of these bytes stands right before this place, which is 0 where there is none
pub record EndsNames (strings : List ℕ) (end : ℕ) : Type 0 where
  pub within : end ≤ length strings
  pub last : 0 < end → get_or strings (end - 1) 0 ≡ 0
  pub none_behind : (place : ℕ) → end ≤ place → place < length strings → get_or strings place 0 ≢ 0

-- an entry: its kind is accepted, and then its name
abbrev pub entry_fault : List ℕ → ℕ → Entry → Option Fault
entry_fault strings place e = fault_or (fault_unless (is_accepted_kind e.kind) KIND place) (name_fault strings place e.strx)

-- each entry, `place` of them standing before: the fault of the first that has one
abbrev pub entries_fault : List ℕ → ℕ → List Entry → Option Fault
entries_fault strings place [] = None
entries_fault strings place (e ∷ entries) = fault_or (entry_fault strings place e) (entries_fault strings (place + 1) entries)

-- the relocations of a file, text first
abbrev pub all_relocs_fault : Header → List ℕ → Option Fault
all_relocs_fault h bytes =
    fault_or (relocs_fault (is_big h.order) 0 (reloc_pieces (text_relocs_part h bytes)))
    (relocs_fault (is_big h.order) (h.text_relocs / RELOC_SIZE) (reloc_pieces (data_relocs_part h bytes)))

-- the two checks of the records of a file: its relocations, and then its entries
abbrev pub records_fault : Header → List ℕ → Option Fault
records_fault h bytes =
    fault_or (all_relocs_fault h bytes) (entries_fault (strings_part h bytes) 0 (entries_in (is_big h.order) (entries_part h bytes)))

-- ---- the fault of a file

-- the file has a header, and it is one that can be read
abbrev pub header_in : List ℕ → Result Header Fault
header_in bytes = if nat_le HEADER_SIZE (length bytes) then read (take HEADER_SIZE bytes) else Err (fault_at TRUNCATED (length bytes))

-- the fault of a file whose header was read so: that of the header, else the first after it
abbrev pub fault_behind : Result Header Fault → List ℕ → Option Fault
fault_behind (Err fault) bytes = Some fault
fault_behind (Ok h) bytes = fault_or (first_fault (place_checks h bytes)) (records_fault h bytes)

-- the fault of a file: that of the first check which it fails
abbrev pub file_fault : List ℕ → Option Fault
file_fault bytes = fault_behind (header_in bytes) bytes
