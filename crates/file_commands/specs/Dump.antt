-- The text of a dump: the header, the bytes of text and data, the relocations and the entries, a line each. This is this project's own.
use Rattle.std.specs.Prelude.{ℕ, zero, suc, ◌+◌, ◌/◌, Bool, true, false, List, [], ◌∷◌, ◌++◌, length, take, drop, codes, decimal, flat_map, Option, Some, None}
use Rattle.std.specs.List.{enumerate_from}
use Rattle.hex.specs.Hex.{encode_lower}
use Rattle.st_base.specs.declared.order.Order.{Order}
use Rattle.st_base.specs.declared.order.Order.TheVariants.{Little, Big}
use Rattle.st_base.specs.Numerals.{hex2, hex4, hex8}
use Rattle.st_base.specs.Shown.{shown}
use Rattle.nlist_codec.specs.declared.named.Named.{Named}
use Rattle.reloc.specs.declared.reloc.Reloc.{Reloc}
use Rattle.aout_object.specs.declared.parts.Parts.{Parts}
use Rattle.aout_object.specs.Objects.{Contents, named_of}
use Rattle.stab_codes.specs.Table.{code_name}
use Rattle.file_commands.specs.declared.dump.TheConstants.{ROW}

-- ---- the header

abbrev pub order_word : Order → List ℕ
order_word Little = codes "little"
order_word Big = codes "big"

-- `order O machine M entry E`
unfoldable pub order_line : Parts → List ℕ
order_line p = codes "order " ++ order_word p.order ++ codes " machine " ++ hex4 p.machine ++ codes " entry " ++ hex8 p.entry ++ 10 ∷ []

-- `text T data D bss B`, the sizes in bytes
unfoldable pub sizes_line : Parts → List ℕ
sizes_line p =
    codes "text " ++ decimal (length p.text) ++ codes " data " ++ decimal (length p.data_part) ++ codes " bss " ++ decimal p.bss ++ 10 ∷ []

-- ---- the bytes of a segment

-- `ADDRESS BYTES`
unfoldable pub row_line : ℕ → List ℕ → List ℕ
row_line address bytes = hex8 address ++ 32 ∷ [] ++ encode_lower bytes ++ 10 ∷ []

-- so many rows, each of 16 bytes as far as there are so many, the first at this address
abbrev pub rows_from : ℕ → ℕ → List ℕ → List ℕ
rows_from zero address bytes = []
rows_from (suc rows) address bytes = row_line address (take ROW bytes) ++ rows_from rows (address + ROW) (drop ROW bytes)

-- all rows of the bytes at an address
abbrev pub rows_text : ℕ → List ℕ → List ℕ
rows_text address bytes = rows_from ((length bytes + 15) / ROW) address bytes

-- ---- relocations

-- 1 where it is so, else 0
abbrev pub bit : Bool → List ℕ
bit true = codes "1"
bit false = codes "0"

-- `reloc SEG I ADDRESS SYMBOL P L E` of the relocation with this number, in the segment of this name
unfoldable pub reloc_line : List ℕ → ℕ → Reloc → List ℕ
reloc_line segment number r =
    codes "reloc " ++ segment ++ 32 ∷ [] ++ decimal number ++ 32 ∷ [] ++ hex8 r.address ++ 32 ∷ [] ++ decimal r.symbol ++ 32 ∷ []
    ++ bit r.pcrel ++ 32 ∷ [] ++ decimal r.length ++ 32 ∷ [] ++ bit r.external ++ 10 ∷ []

-- the lines of relocations, the first of which has this number
abbrev pub relocs_text : List ℕ → ℕ → List Reloc → List ℕ
relocs_text segment number relocs = flat_map (λ p. reloc_line segment p.0 p.1) (enumerate_from number relocs)

-- ---- entries

-- the name of the code of a stab, else the kind in two digits
abbrev pub kind_or : ℕ → Option (List ℕ) → List ℕ
kind_or kind None = hex2 kind
kind_or kind (Some name) = name

-- `I KIND OTHER DESC VALUE NAME` of the entry with this number
unfoldable pub entry_line : ℕ → Named → List ℕ
entry_line number e =
    decimal number ++ 32 ∷ [] ++ kind_or e.kind (code_name e.kind) ++ 32 ∷ [] ++ hex2 e.other ++ 32 ∷ [] ++ hex4 e.desc ++ 32 ∷ []
    ++ hex8 e.value ++ 32 ∷ [] ++ shown e.name ++ 10 ∷ []

abbrev pub entries_text : List Named → List ℕ
entries_text entries = flat_map (λ p. entry_line p.0 p.1) (enumerate_from 0 entries)

-- ---- the dump

abbrev pub segments_text : Parts → List ℕ
segments_text p = codes "text\n" ++ rows_text p.entry p.text ++ codes "data\n" ++ rows_text (p.entry + length p.text) p.data_part

abbrev pub all_relocs_text : Parts → List ℕ
all_relocs_text p = relocs_text (codes "text") 0 p.text_relocs ++ relocs_text (codes "data") (length p.text_relocs) p.data_relocs

-- the dump of an object
abbrev pub dump_text : Contents → List ℕ
dump_text o = order_line o.parts ++ sizes_line o.parts ++ segments_text o.parts ++ all_relocs_text o.parts ++ entries_text (named_of o)
