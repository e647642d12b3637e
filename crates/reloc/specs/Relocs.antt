-- A relocation and its eight bytes. After a.out(5), `struct relocation_info`; where each flag stands in its byte is after GNU's
-- `struct reloc_std_external`. That baserel, jmptable, relative and copy are refused is this project's own.
use Rattle.std.specs.Prelude.{◌≡◌, ◌≤◌, ◌<◌, ℕ, ◌*◌, ◌/◌, ◌^◌, ◌==◌, Bool, true, false, not, ◌||◌, if◌then◌else◌, IsTrue, List, [], ◌∷◌, ◌++◌, Result, bit_and, bit_or}
use Rattle.st_base.specs.Faults.{Check, check, checked}
use Rattle.st_base.specs.Number.{number_at, bytes_of}
use Rattle.st_base.specs.declared.fault.Fault.{Fault}
use Rattle.st_base.specs.declared.fault.TheConstants.{LENGTH8, FLAG, SEGMENT}
use Rattle.nlist_codec.specs.declared.kinds.TheConstants.{ABSOLUTE_SEGMENT, TEXT_SEGMENT, DATA_SEGMENT, BSS_SEGMENT}
use Rattle.reloc.specs.declared.column.Column.{Column}
use Rattle.reloc.specs.declared.reloc.Reloc.{Reloc}

-- ---- the flags

-- the bits of each flag, in little order and in big order
abbrev pub column_of : Bool → Column
column_of false = record {
  pcrel = 0x01;
  length = 0x06;
  length_unit = 0x02;
  external = 0x08;
  baserel = 0x10;
  jmptable = 0x20;
  relative = 0x40;
  copy = 0x80;
}
column_of true = record {
  pcrel = 0x80;
  length = 0x60;
  length_unit = 0x20;
  external = 0x10;
  baserel = 0x08;
  jmptable = 0x04;
  relative = 0x02;
  copy = 0x01;
}

-- the length has a lowest bit, from which its two bits lie in the byte
pub record HasLength (column : Column) : Type 0 where
  pub lowest : 0 < column.length_unit
  pub in_byte : column.length_unit ≤ 32

-- a flag is set
abbrev pub has_flag : ℕ → ℕ → Bool
has_flag flags mask = not (bit_and flags mask == 0)

-- the length, 0 to 3
abbrev pub length_in : Column → ℕ → ℕ
length_in column flags = bit_and flags column.length / column.length_unit

-- one of the flags that this project refuses is set
abbrev pub has_other_flags : Column → ℕ → Bool
has_other_flags column flags =
    has_flag flags column.baserel || has_flag flags column.jmptable || has_flag flags column.relative || has_flag flags column.copy

-- the bits of a flag where it is set
abbrev pub flag_bits : Bool → ℕ → ℕ
flag_bits flag mask = if flag then mask else 0

-- the flag byte of a relocation
abbrev pub flags_of : Column → Reloc → ℕ
flags_of column r =
    bit_or (bit_or (flag_bits r.pcrel column.pcrel) (r.length * column.length_unit)) (flag_bits r.external column.external)

-- ---- the fields

-- the relocation of eight bytes and their flag byte: each field with its place and its size
abbrev pub fields_in : Bool → List ℕ → Column → ℕ → Reloc
fields_in big bytes column flags = record {
  address = number_at big bytes 0 4;
  symbol = number_at big bytes 4 3;
  pcrel = has_flag flags column.pcrel;
  length = length_in column flags;
  external = has_flag flags column.external;
}

-- the flag byte of eight bytes
abbrev pub flags_at : Bool → List ℕ → ℕ
flags_at big bytes = number_at big bytes 7 1

-- the relocation that eight bytes spell
abbrev pub reloc_of : Bool → List ℕ → Reloc
reloc_of big bytes = fields_in big bytes (column_of big) (flags_at big bytes)

-- the eight bytes of a relocation, field by field in the order of their places
abbrev pub reloc_bytes : Bool → Reloc → List ℕ
reloc_bytes big r = bytes_of big 4 r.address ++ (bytes_of big 3 r.symbol ++ bytes_of big 1 (flags_of (column_of big) r))

-- ---- which relocations and bytes are lawful

-- the number of a segment: N_ABS, N_TEXT, N_DATA or N_BSS
abbrev pub is_segment : ℕ → Bool
is_segment symbol = symbol == ABSOLUTE_SEGMENT || symbol == TEXT_SEGMENT || symbol == DATA_SEGMENT || symbol == BSS_SEGMENT

-- a relocation that can be written and read again
pub record RelocFits (r : Reloc) : Type 0 where
  pub length : r.length ≤ 2
  pub symbol : r.symbol < 2 ^ 24
  pub segment : IsTrue (r.external || is_segment r.symbol)

-- these bytes spell this relocation
pub record Spells (big : Bool) (r : Reloc) (bytes : List ℕ) : Type 0 where
  pub fields : reloc_of big bytes ≡ r
  pub no_others : has_other_flags (column_of big) (flags_at big bytes) ≡ false
  pub fits : RelocFits r

-- ---- the checks of a reader, in order

-- the field has at most four bytes, no other flag is set, and what is not external names a segment
abbrev pub reloc_checks : Bool → List ℕ → List Check
reloc_checks big bytes =
    check (not ((reloc_of big bytes).length == 3)) LENGTH8 0
    ∷ check (not (has_other_flags (column_of big) (flags_at big bytes))) FLAG 0
    ∷ check ((reloc_of big bytes).external || is_segment (reloc_of big bytes).symbol) SEGMENT 0
    ∷ []

-- what reading answers: the fault of the first check that does not hold, else the relocation
abbrev pub read : Bool → List ℕ → Result Reloc Fault
read big bytes = checked (reloc_checks big bytes) (reloc_of big bytes)
