-- The header of an a.out file and its 32 bytes. After a.out(5), `struct exec`; that the first word decides the byte order, that
-- a first word which is the magic in both orders is refused, and the order of the checks are this project's own.
use Rattle.std.specs.Prelude.{◌≡◌, ◌≢◌, ◌≤◌, ◌<◌, ℕ, ◌+◌, ◌*◌, ◌/◌, ◌%◌, ◌^◌, ◌==◌, nat_le, Bool, true, false, not, ◌&&◌, ◌||◌, List, [], ◌∷◌, ◌++◌, Result}
use Rattle.st_base.specs.ByteOrder.{is_big, order_of}
use Rattle.st_base.specs.Faults.{Check, check, checked}
use Rattle.st_base.specs.Number.{number_at, bytes_of}
use Rattle.st_base.specs.declared.fault.Fault.{Fault}
use Rattle.st_base.specs.declared.fault.TheConstants.{MAGIC, MACHINE, SYMBOL_BYTES, RELOC_BYTES, ADDRESS}
use Rattle.st_base.specs.declared.sizes.TheConstants.{ENTRY_SIZE, RELOC_SIZE, GREATEST_ADDRESS}
use Rattle.aout_layout.specs.declared.header.Header.{Header}
use Rattle.aout_layout.specs.declared.header.TheConstants.{OMAGIC, TWO_ORDERS}

-- ---- the fields

-- the header that 32 bytes spell: each field with its place and its size. The high half of the first word is the machine word
abbrev pub header_of : Bool → List ℕ → Header
header_of big bytes = record {
  order = order_of big;
  machine = number_at big bytes 0 4 / 65536;
  text = number_at big bytes 4 4;
  data_part = number_at big bytes 8 4;
  bss = number_at big bytes 12 4;
  symbols = number_at big bytes 16 4;
  entry = number_at big bytes 20 4;
  text_relocs = number_at big bytes 24 4;
  data_relocs = number_at big bytes 28 4;
}

-- the low half of the first word is the magic
abbrev pub has_magic : Bool → List ℕ → Bool
has_magic big bytes = number_at big bytes 0 4 % 65536 == OMAGIC

-- the 32 bytes of a header in an order, field by field in the order of their places
abbrev pub fields_bytes : Bool → Header → List ℕ
fields_bytes big h =
    bytes_of big 4 (h.machine * 65536 + OMAGIC) ++ (bytes_of big 4 h.text ++ (bytes_of big 4 h.data_part ++ (bytes_of big 4 h.bss ++
    (bytes_of big 4 h.symbols ++ (bytes_of big 4 h.entry ++ (bytes_of big 4 h.text_relocs ++ bytes_of big 4 h.data_relocs))))))

-- the 32 bytes of a header
abbrev pub header_bytes : Header → List ℕ
header_bytes h = fields_bytes (is_big h.order) h

-- ---- which headers and bytes are lawful

-- the end of bss is an address
abbrev pub addresses_fit : Header → Bool
addresses_fit h = nat_le (h.entry + h.text + h.data_part + h.bss) GREATEST_ADDRESS

-- a header that can be written and read again
pub record HeaderFits (h : Header) : Type 0 where
  pub order_told : h.machine ≢ TWO_ORDERS
  pub whole_entries : h.symbols % ENTRY_SIZE ≡ 0
  pub whole_text_relocs : h.text_relocs % RELOC_SIZE ≡ 0
  pub whole_data_relocs : h.data_relocs % RELOC_SIZE ≡ 0
  pub addresses : h.entry + h.text + h.data_part + h.bss ≤ GREATEST_ADDRESS

-- each number of a header fits its field, as those of every header that a program holds do
pub record NumbersFit (h : Header) : Type 0 where
  pub machine : h.machine < 2 ^ 16
  pub text : h.text < 2 ^ 32
  pub data_part : h.data_part < 2 ^ 32
  pub bss : h.bss < 2 ^ 32
  pub symbols : h.symbols < 2 ^ 32
  pub entry : h.entry < 2 ^ 32
  pub text_relocs : h.text_relocs < 2 ^ 32
  pub data_relocs : h.data_relocs < 2 ^ 32

-- these bytes spell this header
pub record Spells (h : Header) (bytes : List ℕ) : Type 0 where
  pub magic : number_at (is_big h.order) bytes 0 4 % 65536 ≡ OMAGIC
  pub fields : header_of (is_big h.order) bytes ≡ h
  pub fits : HeaderFits h

-- ---- the checks of a reader, in order

-- the checks of the sizes of a header
abbrev pub size_checks : Header → List Check
size_checks h =
    check (h.symbols % ENTRY_SIZE == 0) SYMBOL_BYTES 16
    ∷ check (h.text_relocs % RELOC_SIZE == 0) RELOC_BYTES 24
    ∷ check (h.data_relocs % RELOC_SIZE == 0) RELOC_BYTES 28
    ∷ check (addresses_fit h) ADDRESS 20
    ∷ []

-- the checks of the bytes of a header: the order is known, then the sizes in that order
abbrev pub header_checks : List ℕ → List Check
header_checks bytes =
    check (has_magic false bytes || has_magic true bytes) MAGIC 0
    ∷ check (not (has_magic false bytes && has_magic true bytes)) MACHINE 0
    ∷ size_checks (header_of (has_magic true bytes) bytes)

-- what reading answers: the fault of the first check that does not hold, else the header
abbrev pub read : List ℕ → Result Header Fault
read bytes = checked (header_checks bytes) (header_of (has_magic true bytes) bytes)
