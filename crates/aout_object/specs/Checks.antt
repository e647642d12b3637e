-- The checks of a file, in their order: a file that fails none is spelled by exactly one object, and the fault of any other is that
-- of the first check which it fails. After a.out(5); the order of the checks is this project's own.
use Rattle.std.specs.Prelude.{◌≡◌, ℕ, ◌+◌, ◌/◌, ◌==◌, ◌&&◌, ◌||◌, nat_lt, nat_le, if◌then◌else◌, Bool, true, List, [], ◌∷◌, ◌++◌, length, map, take, drop, Some}
use Rattle.std.specs.Option.{is_some}
use Rattle.std.specs.Simd.{first_chunks}
use Rattle.st_base.specs.ByteOrder.{is_big}
use Rattle.st_base.specs.Number.{number_at}
use Rattle.st_base.specs.Faults.{Check, check, fault_at, first_fault}
use Rattle.st_base.specs.declared.fault.Fault.{Fault}
use Rattle.st_base.specs.declared.fault.TheConstants.{TRUNCATED, TRAILING, LENGTH, KIND, INSIDE, PAST, NO_END}
use Rattle.st_base.specs.declared.sizes.TheConstants.{HEADER_SIZE, RELOC_SIZE}
use Rattle.aout_layout.specs.declared.header.Header.{Header}
use Rattle.aout_layout.specs.Headers.{header_of, has_magic, header_checks}
use Rattle.nlist_codec.specs.declared.entry.Entry.{Entry}
use Rattle.nlist_codec.specs.Entries.{entries_in}
use Rattle.reloc.specs.Relocs.{reloc_checks}
use Rattle.strtab.specs.StringTable.{name_in}
use Rattle.aout_object.specs.Objects.{is_accepted_kind}

-- ---- places in a file with this header, and what lies there

-- where data begins, after the header and text
abbrev pub data_at : Header → ℕ
data_at h = HEADER_SIZE + h.text

-- where the text relocations begin
abbrev pub text_relocs_at : Header → ℕ
text_relocs_at h = data_at h + h.data_part

-- where the data relocations begin
abbrev pub data_relocs_at : Header → ℕ
data_relocs_at h = text_relocs_at h + h.text_relocs

-- where the entries begin
abbrev pub entries_at : Header → ℕ
entries_at h = data_relocs_at h + h.data_relocs

-- where the string table begins, or the file ends where it has none
abbrev pub table_at : Header → ℕ
table_at h = entries_at h + h.symbols

-- the bytes of a part
abbrev pub part : List ℕ → ℕ → ℕ → List ℕ
part bytes at size = take size (drop at bytes)

-- bytes cut into those of one relocation each
abbrev pub reloc_pieces : List ℕ → List (List ℕ)
reloc_pieces bytes = first_chunks RELOC_SIZE (length bytes / RELOC_SIZE) bytes

-- the bytes of the text relocations
abbrev pub text_relocs_part : Header → List ℕ → List ℕ
text_relocs_part h bytes = part bytes (text_relocs_at h) h.text_relocs

-- the bytes of the data relocations
abbrev pub data_relocs_part : Header → List ℕ → List ℕ
data_relocs_part h bytes = part bytes (data_relocs_at h) h.data_relocs

-- the bytes of the entries
abbrev pub entries_part : Header → List ℕ → List ℕ
entries_part h bytes = part bytes (entries_at h) h.symbols

-- the bytes of the string table, with all that stands after it
abbrev pub strings_part : Header → List ℕ → List ℕ
strings_part h bytes = drop (table_at h) bytes

-- ---- the string table

-- there are no entries, and the file ends before the string table
abbrev pub is_absent : Header → List ℕ → Bool
is_absent h bytes = (h.symbols == 0) && (length bytes == table_at h)

-- the first word of the string table
abbrev pub word_in : Header → List ℕ → ℕ
word_in h bytes = number_at (is_big h.order) bytes (table_at h) 4

-- unless it is absent its word is there, is at least 4, and the table is there whole; nothing follows it
abbrev pub table_checks : Header → List ℕ → List Check
table_checks h bytes =
    if is_absent h bytes then []
    else check (nat_le (table_at h + 4) (length bytes)) TRUNCATED (length bytes)
    ∷ check (nat_le 4 (word_in h bytes)) LENGTH (table_at h)
    ∷ check (nat_le (table_at h + word_in h bytes) (length bytes)) TRUNCATED (length bytes)
    ∷ check (nat_le (length bytes) (table_at h + word_in h bytes)) TRAILING (table_at h + word_in h bytes)
    ∷ []

-- ---- relocations

-- a check of a part, with its fault at the part's place
abbrev pub at_place : ℕ → Check → Check
at_place place c = record { holds = c.holds; fault = fault_at c.fault.number place }

-- each relocation, `place` of them standing before: the checks of its eight bytes, at its number
abbrev pub relocs_checks : Bool → ℕ → List (List ℕ) → List Check
relocs_checks big place [] = []
relocs_checks big place (piece ∷ pieces) = map (at_place place) (reloc_checks big piece) ++ relocs_checks big (place + 1) pieces

-- ---- entries

-- an entry: its kind is accepted, and its name, unless it has none, begins after the length word and in the table, and a zero byte ends it
abbrev pub entry_checks : List ℕ → ℕ → Entry → List Check
entry_checks strings place e =
    check (is_accepted_kind e.kind) KIND place
    ∷ check (e.strx == 0 || nat_le 4 e.strx) INSIDE place
    ∷ check (e.strx == 0 || nat_lt e.strx (length strings)) PAST place
    ∷ check (is_some (name_in strings e.strx)) NO_END place
    ∷ []

-- each entry, `place` of them standing before
abbrev pub entries_checks : List ℕ → ℕ → List Entry → List Check
entries_checks strings place [] = []
entries_checks strings place (e ∷ entries) = entry_checks strings place e ++ entries_checks strings (place + 1) entries

-- ---- all checks

-- all parts before the string table are there, and then the string table
abbrev pub place_checks : Header → List ℕ → List Check
place_checks h bytes = check (nat_le (table_at h) (length bytes)) TRUNCATED (length bytes) ∷ table_checks h bytes

-- the relocations of text, those of data, numbered on from them, and the entries
abbrev pub record_checks : Header → List ℕ → List Check
record_checks h bytes =
    relocs_checks (is_big h.order) 0 (reloc_pieces (text_relocs_part h bytes))
    ++ (relocs_checks (is_big h.order) (h.text_relocs / RELOC_SIZE) (reloc_pieces (data_relocs_part h bytes))
    ++ entries_checks (strings_part h bytes) 0 (entries_in (is_big h.order) (entries_part h bytes)))

-- the first bytes of a file, as its header; another, where they are none
abbrev pub header_at_front : List ℕ → Header
header_at_front bytes = header_of (has_magic true (take HEADER_SIZE bytes)) (take HEADER_SIZE bytes)

-- the header is there, then its own checks, and then those of what its sizes say
abbrev pub file_checks : List ℕ → List Check
file_checks bytes =
    check (nat_le HEADER_SIZE (length bytes)) TRUNCATED (length bytes)
    ∷ (header_checks (take HEADER_SIZE bytes) ++ (place_checks (header_at_front bytes) bytes ++ record_checks (header_at_front bytes) bytes))

-- this is the fault of this file: that of the first check which it fails
pub record FileFault (bytes : List ℕ) (fault : Fault) : Type 0 where
  pub first : first_fault (file_checks bytes) ≡ Some fault
