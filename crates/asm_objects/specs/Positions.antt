-- Where the statements of a source stand, by counts and sums over the statements before them: each segment has a counter of its own.
-- After the manual of GNU as on sections and on `.p2align`.
use Rattle.std.specs.Prelude.{◌≡◌, ◌≢◌, ◌≤◌, ◌<◌, ℕ, ◌+◌, ◌-◌, ◌*◌, ◌^◌, Bool, true, false, not, List, [], ◌∷◌, length, take, sum, count_by, flat_map, slice_get, Contains, ◌↔◌, Option, None, Some, unwrap_or}
use Rattle.std.specs.Map.{lookup}
use Rattle.std.specs.Str.{bytes_eq}
use Rattle.asm_statements.specs.Directives.{size_of_width}
use Rattle.asm_objects.specs.declared.limits.TheConstants.{GREATEST_POWER}
use Rattle.asm_objects.specs.Layout.{bss_size, entry_word, home_of, is_local, machine_word, offset_in}
use Rattle.asm_statements.specs.declared.statement.Part.{Part}
use Rattle.asm_statements.specs.declared.statement.Part.TheVariants as part
use Rattle.asm_statements.specs.declared.statement.What.{What}
use Rattle.asm_statements.specs.declared.statement.What.TheVariants as what
use Rattle.asm_statements.specs.declared.statement.Statement.{Statement}
use Rattle.asm_objects.specs.declared.table.Home.TheVariants as home
use Rattle.asm_objects.specs.declared.table.Places.{Places}
use Rattle.asm_objects.specs.declared.table.Definition.{Definition}
use Rattle.asm_objects.specs.declared.table.Table.{Table}

-- ---- segments

-- the last item of a list; this one where it is empty
abbrev pub last_or : {X : Type 0} → X → List X → X
last_or none xs = unwrap_or (slice_get xs (length xs - 1)) none

-- the segment that `.text` or `.data` names
abbrev pub switched : What → List Part
switched (what.Switch q) = q ∷ []
switched _ = []

-- the segment after these statements: that of the last `.text` or `.data` among them, and text where there is none
abbrev pub segment : List Statement → Part
segment before = last_or part.Text (flat_map (λ s. switched s.what) before)

-- ---- sizes

-- the least multiple of this unit that is not below a place
pub record IsLeastMultiple (unit place multiple : ℕ) : Type 0 where
  pub times : ℕ
  pub is : multiple ≡ times * unit
  pub reaches : place ≤ multiple
  pub least : (k : ℕ) → place ≤ k * unit → multiple ≤ k * unit

-- `.p2align` takes what leads to the next multiple of this power of two; a power over the greatest is a fault, and takes nothing
abbrev pub Pads : ℕ → ℕ → ℕ → Type 0
Pads power place size = (power ≤ GREATEST_POWER → IsLeastMultiple (2 ^ power) place (place + size)) × (GREATEST_POWER < power → size ≡ 0)

-- a statement that stands at this place of its segment takes so many bytes of it
abbrev pub Takes : What → ℕ → ℕ → Type 0
Takes (what.Field width sum) place size = size ≡ size_of_width width
Takes (what.Space n) place size = size ≡ n
Takes (what.Bytes bytes) place size = size ≡ length bytes
Takes (what.Align power) place size = Pads power place size
Takes _ place size = size ≡ 0

-- a statement of the second segment takes so many bytes of the first: none where they are two
abbrev pub TakesIn : Part → Part → What → ℕ → ℕ → Type 0
TakesIn part.Text part.Text w place size = Takes w place size
TakesIn part.Text part.Data w place size = size ≡ 0
TakesIn part.Data part.Text w place size = size ≡ 0
TakesIn part.Data part.Data w place size = Takes w place size

-- `.lcomm` takes its bytes of bss from the next multiple of four on
abbrev pub Reserves : What → ℕ → ℕ → Type 0
Reserves (what.Lcomm name n) place size = (from : ℕ) × IsLeastMultiple 4 place from × (place + size ≡ from + n)
Reserves _ place size = size ≡ 0

-- the sum of the sizes of these statements, where each has its size at the sum of those before it
pub record IsSum (Size : Part → What → ℕ → ℕ → Type 0) (before : List Statement) (total : ℕ) : Type 0 where
  pub sizes : List ℕ
  pub as_many : length sizes ≡ length before
  pub each : (n : ℕ) (s : Statement) (size : ℕ) → slice_get before n ≡ Some s → slice_get sizes n ≡ Some size
      → Size (segment (take n before)) s.what (sum (take n sizes)) size
  pub is : total ≡ sum sizes

-- ---- places

-- labels and `.lcomm` have an entry unless their names begin with `L`; `.comm` and stabs have one
abbrev pub gives_entry : What → Bool
gives_entry (what.Label name) = not (is_local name)
gives_entry (what.Comm name n) = true
gives_entry (what.Lcomm name n) = not (is_local name)
gives_entry (what.Stab s) = true
gives_entry _ = false

-- the places of a statement that has these before it
pub record IsPlace (before : List Statement) (p : Places) : Type 0 where
  pub stands_in : p.part ≡ segment before
  pub text : IsSum (TakesIn part.Text) before p.text
  pub datum : IsSum (TakesIn part.Data) before p.datum
  pub bss : IsSum (λ q w. Reserves w) before p.bss
  pub entries : p.entries ≡ count_by (λ s. gives_entry s.what) before
  pub number : p.number ≡ length before

-- ---- names

-- the name that a statement defines
abbrev pub defined_name : What → Option (List ℕ)
defined_name (what.Label name) = Some name
defined_name (what.Comm name n) = Some name
defined_name (what.Lcomm name n) = Some name
defined_name _ = None

-- a statement at these places defines its name so: a label at its place, a common by its entry, `.lcomm` where its bytes begin
abbrev pub Defines : What → Places → Definition → Type 0
Defines (what.Label name) p d = (d.home ≡ home_of p.part) × (d.offset ≡ offset_in p)
Defines (what.Comm name n) p d = (d.home ≡ home.Common) × (d.offset ≡ p.entries)
Defines (what.Lcomm name n) p d = (d.home ≡ home.Bss) × IsLeastMultiple 4 p.bss d.offset
Defines _ p d = ⊥

-- no statement defines this name
abbrev pub IsNowhere : List Statement → List ℕ → Type 0
IsNowhere ss name = (n : ℕ) (s : Statement) → slice_get ss n ≡ Some s → defined_name s.what ≢ Some name

-- the definition of a name is that of the first statement that defines it
pub record IsDefinition (ss : List Statement) (name : List ℕ) (d : Definition) : Type 0 where
  pub statement : Statement
  pub at : slice_get ss d.number ≡ Some statement
  pub named : defined_name statement.what ≡ Some name
  pub first : IsNowhere (take d.number ss) name
  pub places : Places
  pub placed : IsPlace (take d.number ss) places
  pub defines : Defines statement.what places d

-- a `.globl` of these statements names it: the name is for all objects
abbrev pub IsGlobal : List Statement → List ℕ → Type 0
IsGlobal ss name = (n : ℕ) × (s : Statement) × (slice_get ss n ≡ Some s) × (s.what ≡ what.Globl name)

-- the table of a source: each name that is defined with its definition, the names that `.globl` gives, the places at the end, and the
-- last word of each kind
pub record IsTable (ss : List Statement) (t : Table) : Type 0 where
  pub end : IsPlace ss t.end
  pub defined : (name : List ℕ) (d : Definition) → lookup (bytes_eq name) t.names ≡ Some d → IsDefinition ss name d
  pub undefined : (name : List ℕ) → lookup (bytes_eq name) t.names ≡ None → IsNowhere ss name
  pub globals : (name : List ℕ) → Contains t.globals name ↔ IsGlobal ss name
  pub entry : t.entry ≡ last_or 0 (flat_map (λ s. entry_word s.what) ss)
  pub machine : t.machine ≡ last_or 0 (flat_map (λ s. machine_word s.what) ss)
  pub bsize : t.bsize ≡ last_or 0 (flat_map (λ s. bss_size s.what) ss)
