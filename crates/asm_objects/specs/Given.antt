-- Where in an object stands what each statement gives: bytes at the statement's place, its entry after those of the statements before
-- it, its relocation after theirs, and the undefined names in order of first use after all entries.
use Rattle.std.specs.Prelude.{◌≡◌, ℕ, ◌+◌, max, List, [], ◌∷◌, ◌++◌, length, take, slice_get, Contains, ◌↔◌, Option, Some, None}
use Rattle.st_base.specs.ByteOrder.{is_big}
use Rattle.st_base.specs.declared.order.Order.{Order}
use Rattle.nlist_codec.specs.declared.named.Named.{Named as Named'}
use Rattle.reloc.specs.declared.reloc.Reloc.{Reloc}
use Rattle.aout_object.specs.declared.parts.Parts.{Parts}
use Rattle.asm_objects.specs.Layout.{offset_in}
use Rattle.asm_objects.specs.Meaning.{bytes_in, entries_in, ext, reloc_part, relocs_in, undefined_entry}
use Rattle.asm_objects.specs.Positions.{IsGlobal, IsNowhere, IsPlace, IsSum, IsTable}
use Rattle.asm_statements.specs.declared.statement.Name.{Name}
use Rattle.asm_statements.specs.declared.statement.Name.TheVariants.{Here, Named}
use Rattle.asm_statements.specs.declared.statement.Part.{Part}
use Rattle.asm_statements.specs.declared.statement.Part.TheVariants as part
use Rattle.asm_statements.specs.declared.statement.What.{What}
use Rattle.asm_statements.specs.declared.statement.What.TheVariants as what
use Rattle.asm_statements.specs.declared.statement.Statement.{Statement}
use Rattle.asm_objects.specs.declared.table.Places.{Places}
use Rattle.asm_objects.specs.declared.table.Table.{Table}

-- items stand in a list from this place on
pub record StandsAt {X : Type 0} (xs : List X) (at : ℕ) (items : List X) : Type 0 where
  pub before : List X
  pub after : List X
  pub whole : xs ≡ before ++ (items ++ after)
  pub place : length before ≡ at

-- ---- undefined names

-- the name that is added alone in a field
abbrev pub alone : List Name → List Name → Option (List ℕ)
alone (Named name ∷ []) [] = Some name
alone (Here ∷ []) [] = None
alone [] ys = None
alone (x ∷ []) (y ∷ ys) = None
alone (x ∷ z ∷ xs) ys = None

abbrev pub used_name : What → Option (List ℕ)
used_name (what.Field width sum) = alone sum.added sum.taken
used_name _ = None

-- a field of these statements uses a name
abbrev pub Uses : List Statement → List ℕ → Type 0
Uses ss name = (n : ℕ) × (s : Statement) × (slice_get ss n ≡ Some s) × (used_name s.what ≡ Some name)

-- the names that fields use and no statement defines, each once, in order of first use: those that the first n statements use are a front
pub record AreUndefined (ss : List Statement) (names : List (List ℕ)) : Type 0 where
  pub used : (name : List ℕ) → Contains names name → Uses ss name × IsNowhere ss name
  pub once : (i j : ℕ) (name : List ℕ) → slice_get names i ≡ Some name → slice_get names j ≡ Some name → i ≡ j
  pub fronts : (n : ℕ) → (k : ℕ) × ((name : List ℕ) → Contains (take k names) name ↔ (Uses (take n ss) name × IsNowhere ss name))

-- ---- relocations

-- one relocation in the first segment, where the second is the same
abbrev pub one_in : Part → Part → ℕ
one_in part.Text part.Text = 1
one_in part.Text part.Data = 0
one_in part.Data part.Text = 0
one_in part.Data part.Data = 1

abbrev pub one_alone : List Name → List Name → ℕ → ℕ
one_alone (x ∷ []) [] one = one
one_alone [] ys one = 0
one_alone (x ∷ []) (y ∷ ys) one = 0
one_alone (x ∷ z ∷ xs) ys one = 0

-- how many relocations of the first segment a statement of the second gives: a field with one added name and no other, and `.rel`
abbrev pub relocs_given : Part → Part → What → ℕ
relocs_given q r (what.Field width sum) = one_alone sum.added sum.taken (one_in q r)
relocs_given q r (what.Rel rel) = one_in q rel.part
relocs_given q r _ = 0

-- how many relocations of a segment these statements give
abbrev pub AreRelocs : Part → List Statement → ℕ → Type 0
AreRelocs q before count = IsSum (λ r w place given. given ≡ relocs_given q r w) before count

-- ---- the object

abbrev pub bytes_of : Parts → Part → List ℕ
bytes_of parts part.Text = parts.text
bytes_of parts part.Data = parts.data_part

abbrev pub relocs_of : Parts → Part → List Reloc
relocs_of parts part.Text = parts.text_relocs
relocs_of parts part.Data = parts.data_relocs

-- each statement, with those before it and at its places
abbrev pub EachStands : List Statement → (List Statement → Places → What → Type 0) → Type 0
EachStands ss Holds = (n : ℕ) (s : Statement) → slice_get ss n ≡ Some s → (p : Places) × IsPlace (take n ss) p × Holds (take n ss) p s.what

-- the parts and entries of an object that statements without a fault make
pub record IsMade (order : Order) (ss : List Statement) (parts : Parts) (named : List Named') : Type 0 where
  pub table : Table
  pub tabled : IsTable ss table
  pub names : List (List ℕ)
  pub undefined : AreUndefined ss names
  pub in_order : parts.order ≡ order
  pub machine : parts.machine ≡ table.machine
  pub entry : parts.entry ≡ table.entry
  pub bss : parts.bss ≡ max table.bsize table.end.bss
  pub text : length parts.text ≡ table.end.text
  pub datum : length parts.data_part ≡ table.end.datum
  pub bytes : EachStands ss (λ before p w. StandsAt (bytes_of parts p.part) (offset_in p) (bytes_in (is_big parts.order) table p w))
  pub text_relocs : AreRelocs part.Text ss (length parts.text_relocs)
  pub data_relocs : AreRelocs part.Data ss (length parts.data_relocs)
  pub relocs : EachStands ss (λ before p w.
      (at : ℕ) × AreRelocs (reloc_part p w) before at × StandsAt (relocs_of parts (reloc_part p w)) at (relocs_in table names p w))
  pub entries : EachStands ss (λ before p w. StandsAt named p.entries (entries_in table p w))
  pub external : (name : List ℕ) → (ext table name ≡ 1) ↔ IsGlobal ss name
  pub internal : (name : List ℕ) → (IsGlobal ss name → ⊥) → ext table name ≡ 0
  pub count : length named ≡ table.end.entries + length names
  pub others : (j : ℕ) (name : List ℕ) → slice_get names j ≡ Some name → slice_get named (table.end.entries + j) ≡ Some (undefined_entry name)
