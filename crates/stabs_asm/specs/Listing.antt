-- The lines that list an object, and that they are read back.
use Rattle.std.specs.Prelude.{◌≡◌, None, Ok, ℕ, zero, suc, ◌+◌, ◌*◌, ◌/◌, ◌%◌, ◌==◌, ◌||◌, if◌then◌else◌, List, [], ◌∷◌, ◌++◌, flat_map, map, codes, decimal, length}
use Rattle.st_base.specs.Number.{IsBytes}
use Rattle.st_base.specs.Numerals.{hex2, hex8}
use Rattle.nlist_codec.specs.declared.entry.Entry.{Entry}
use Rattle.nlist_codec.specs.declared.named.Named.{Named}
use Rattle.reloc.specs.declared.reloc.Reloc.{Reloc}
use Rattle.st_base.specs.Faults.{checked}
use Rattle.aout_object.specs.Making.{made, size_check}
use Rattle.aout_object.specs.Objects.{file_of, Contents, named_of}
use Rattle.aout_object.specs.declared.parts.Parts.{Parts}
use Rattle.asm_statements.specs.Tokens.{is_within}
use Rattle.asm_statements.specs.SourceLines.{read_source}
use Rattle.asm_objects.specs.Meaning.{first_fault_of}
use Rattle.asm_objects.specs.SourceMaking.{parts_of, entries_of}
use Rattle.stabs_asm.specs.Assembling.{assembled}
use Rattle.asm_statements.specs.declared.statement.Part.{Part}
use Rattle.asm_statements.specs.declared.statement.Part.TheVariants as part
use Rattle.asm_statements.specs.declared.statement.Statement.{Statement}

-- `0x` and the digits of a byte, of a number of 32 bits
abbrev pub hex_byte : ℕ → List ℕ
hex_byte n = 48 ∷ 120 ∷ hex2 n

abbrev pub hex_word : ℕ → List ℕ
hex_word n = 48 ∷ 120 ∷ hex8 n

-- a byte of a string
abbrev pub escaped : ℕ → List ℕ
escaped b =
    if b == 34 || b == 92 then 92 ∷ b ∷ []
    else (if is_within 32 126 b then b ∷ [] else 92 ∷ (48 + b / 64) ∷ (48 + b / 8 % 8) ∷ (48 + b % 8) ∷ [])

-- the bytes after the first of a row
abbrev pub bytes_on : List ℕ → List ℕ
bytes_on [] = []
bytes_on (b ∷ bs) = 44 ∷ (hex_byte b ++ bytes_on bs)

-- a row of bytes, of which there is one at least
abbrev pub byte_line : ℕ → List ℕ → List ℕ
byte_line b bs = codes ".byte " ++ (hex_byte b ++ bytes_on bs)

-- the numbers of an entry
abbrev pub numbers_of : Named → List ℕ
numbers_of n = decimal n.kind ++ (44 ∷ (decimal n.other ++ (44 ∷ (decimal n.desc ++ (44 ∷ hex_word n.value)))))

abbrev pub stabn_line : Named → List ℕ
stabn_line n = codes ".stabn " ++ numbers_of n

abbrev pub stabs_line : Named → List ℕ
stabs_line n = codes ".stabs " ++ (34 ∷ (flat_map escaped n.name ++ (34 ∷ 44 ∷ numbers_of n)))

abbrev pub line_for : List ℕ → Named → List ℕ
line_for [] n = stabn_line n
line_for (b ∷ bs) n = stabs_line n

abbrev pub entry_line : Named → List ℕ
entry_line n = line_for n.name n

-- an entry with this name in place of the name's offset
abbrev pub entry_named : List ℕ → Entry → Named
entry_named name e = record { kind = e.kind; other = e.other; desc = e.desc; value = e.value; name = name }

-- each line with its line feed
abbrev pub text_of : List (List ℕ) → List ℕ
text_of [] = []
text_of (l ∷ ls) = l ++ (10 ∷ text_of ls)

-- ---- the lines of an object

-- rows of at most 16 bytes, each by its first byte and the others: what is left of a row that has room for k more, and the rows after it
abbrev pub cut_rows : ℕ → List ℕ → List ℕ × List (ℕ × List ℕ)
cut_rows k [] = ([], [])
cut_rows zero (b ∷ bs) = ([], (b, (cut_rows 15 bs).0) ∷ (cut_rows 15 bs).1)
cut_rows (suc k) (b ∷ bs) = (b ∷ (cut_rows k bs).0, (cut_rows k bs).1)

abbrev pub rows_of : List ℕ → List (ℕ × List ℕ)
rows_of bytes = (cut_rows 0 bytes).1

abbrev pub byte_lines : List (ℕ × List ℕ) → List (List ℕ)
byte_lines rows = map (λ r. byte_line r.0 r.1) rows

abbrev pub part_word : Part → List ℕ
part_word part.Text = codes "text"
part_word part.Data = codes "data"

abbrev pub flags_of : Reloc → ℕ
flags_of r = (if r.pcrel then 1 else 0) + 2 * r.length + (if r.external then 8 else 0)

abbrev pub rel_line : Part → Reloc → List ℕ
rel_line q r = codes ".rel " ++ (part_word q ++ (44 ∷ (decimal r.address ++ (44 ∷ (decimal r.symbol ++ (44 ∷ decimal (flags_of r)))))))

abbrev pub lines_for : Parts → List Named → List (List ℕ)
lines_for o named =
    (codes ".machine " ++ decimal o.machine) ∷ (codes ".entry " ++ hex_word o.entry) ∷ (codes ".bsize " ++ decimal o.bss) ∷ codes ".text"
    ∷ (byte_lines (rows_of o.text) ++ (codes ".data" ∷ (byte_lines (rows_of o.data_part)
    ++ (map (rel_line part.Text) o.text_relocs ++ (map (rel_line part.Data) o.data_relocs ++ map entry_line named)))))

-- the text of an object
abbrev pub listing : Contents → List ℕ
listing o = text_of (lines_for o.parts (named_of o))

-- the texts of an object hold bytes, as those of every object that a program holds do
pub record HoldsBytes (o : Contents) : Type 0 where
  pub text : IsBytes o.parts.text
  pub data_part : IsBytes o.parts.data_part
  pub strings : IsBytes o.strings

-- the text of an object is read as statements without a fault, and they give its parts and its entries
pub record IsListed (o : Contents) : Type 0 where
  pub statements : List Statement
  pub reads : read_source (listing o) ≡ Ok statements
  pub faultless : first_fault_of statements ≡ None
  pub parts : parts_of o.parts.order statements ≡ o.parts
  pub entries : entries_of statements ≡ named_of o

-- the text of an object assembles, in its byte order, to the object of its parts and its entries; it is refused only where the file of that
-- object would be too large
abbrev pub IsAssembledAgain : Contents → Type 0
IsAssembledAgain o =
    assembled o.parts.order (read_source (listing o))
    ≡ checked (size_check (length (file_of (made o.parts (named_of o)))) ∷ []) (made o.parts (named_of o))
