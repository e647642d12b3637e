-- An object made of parts and of entries with their names, and what is wrong with parts and entries that make none. That each
-- distinct name stands once in the string table, in order of first use, and the limits are this project's own.
use Rattle.std.specs.Prelude.{ℕ, ◌+◌, ◌*◌, nat_le, List, [], ◌∷◌, ◌++◌, length, map}
use Rattle.st_base.specs.ByteOrder.{is_big}
use Rattle.st_base.specs.Faults.{Check, check}
use Rattle.st_base.specs.declared.fault.TheConstants.{KIND}
use Rattle.st_base.specs.declared.sizes.TheConstants.{HEADER_SIZE, ENTRY_SIZE, RELOC_SIZE, FILE_LIMIT, GREATEST_ADDRESS}
use Rattle.nlist_codec.specs.declared.entry.Entry.{Entry}
use Rattle.nlist_codec.specs.declared.named.Named.{Named}
use Rattle.strtab.specs.StringTable.{HasNoZero}
use Rattle.strtab.specs.Names.{offset_of, first_uses, table_of}
use Rattle.st_base.specs.declared.fault.TheConstants.{TOO_LARGE}
use Rattle.aout_object.specs.declared.parts.Parts.{Parts}
use Rattle.aout_object.specs.Objects.{Contents, file_of, is_accepted_kind}

-- the names of entries, in order
abbrev pub names_of : List Named → List (List ℕ)
names_of named = map (λ n. n.name) named

-- no zero byte stands in the entry's name
abbrev pub HasWholeName : Named → Type 0
HasWholeName n = HasNoZero n.name

-- an entry with this offset in place of its name
abbrev pub entry_at : Named → ℕ → Entry
entry_at n strx = record { strx = strx; kind = n.kind; other = n.other; desc = n.desc; value = n.value }

-- an entry with the offset of its name in the table of these names
abbrev pub entry_for : List (List ℕ) → Named → Entry
entry_for names n = entry_at n (offset_of names n.name)

-- entries with the offsets of their names
abbrev pub entries_for : List (List ℕ) → List Named → List Entry
entries_for names named = map (entry_for names) named

-- the object of parts and entries with names
abbrev pub made : Parts → List Named → Contents
made parts named = record {
  parts = parts;
  entries = entries_for (first_uses (names_of named)) named;
  strings = table_of (is_big parts.order) (first_uses (names_of named));
}

-- ---- the checks of parts and entries that are made into an object

-- the kind of each entry is accepted, `place` of them standing before
abbrev pub kinds_checks : ℕ → List Named → List Check
kinds_checks place [] = []
kinds_checks place (n ∷ named) = check (is_accepted_kind n.kind) KIND place ∷ kinds_checks (place + 1) named

-- the end of bss is an address
abbrev pub addresses_check : Parts → Check
addresses_check parts = check (nat_le (parts.entry + length parts.text + length parts.data_part + parts.bss) GREATEST_ADDRESS) TOO_LARGE GREATEST_ADDRESS

-- a file of so many bytes is within the limit
abbrev pub size_check : ℕ → Check
size_check size = check (nat_le size FILE_LIMIT) TOO_LARGE FILE_LIMIT

-- all of them
abbrev pub make_checks : Parts → List Named → List Check
make_checks parts named = kinds_checks 0 named ++ (addresses_check parts ∷ size_check (length (file_of (made parts named))) ∷ [])

-- ---- what the code keeps on its way

-- the size of a file of these parts, so many entries and a string table of so many bytes
abbrev pub size_with : Parts → ℕ → ℕ → ℕ
size_with parts entries table =
    HEADER_SIZE + length parts.text + length parts.data_part + (length parts.text_relocs + length parts.data_relocs) * RELOC_SIZE + entries * ENTRY_SIZE + table
