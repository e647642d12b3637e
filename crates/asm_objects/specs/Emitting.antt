-- What the passes keep on their way: how far the places have come, what makes the numbers of a table and of an object fit, and what
-- holds of the statements that are left.
use Rattle.std.specs.Prelude.{◌≡◌, ◌≢◌, ℕ, ◌+◌, ◌*◌, ◌≤◌, ◌<◌, ◌^◌, nat_le, max, List, [], ◌∷◌, None}
use Rattle.std.specs.List.{AllByRecursion}
use Rattle.st_base.specs.Faults.{Check, check}
use Rattle.st_base.specs.declared.fault.TheConstants.{TOO_LARGE}
use Rattle.aout_layout.specs.declared.header.TheConstants.{TWO_ORDERS}
use Rattle.st_base.specs.declared.sizes.TheConstants.{ENTRY_SIZE, FILE_LIMIT, GREATEST_ADDRESS}
use Rattle.asm_statements.specs.Fits.{StatementFits, AllFit}
use Rattle.asm_objects.specs.Layout.{Room, moved, end_of, start, table_of}
use Rattle.asm_objects.specs.Meaning.{fault_of, faults, undefined_of}
use Rattle.asm_statements.specs.declared.statement.Statement.{Statement}
use Rattle.asm_statements.specs.declared.statement.What.{What}
use Rattle.asm_objects.specs.declared.table.Home.{Home}
use Rattle.asm_objects.specs.declared.table.Home.TheVariants as home
use Rattle.asm_objects.specs.declared.table.Places.{Places}
use Rattle.asm_objects.specs.declared.table.Definition.{Definition}
use Rattle.asm_objects.specs.declared.table.Table.{Table}

-- ---- the table

-- the second places are after one statement that stands at the first: no size is more than 2^65 greater
pub record Grows (p q : Places) : Type 0 where
  pub text : q.text ≤ p.text + 2 ^ 65
  pub datum : q.datum ≤ p.datum + 2 ^ 65
  pub bss : q.bss ≤ p.bss + 2 ^ 65
  pub entries : q.entries ≤ p.entries + 1

-- the offset of each definition has room
abbrev pub OffsetsFit : List (List ℕ × Definition) → Type 0
OffsetsFit [] = Unit {0}
OffsetsFit (e ∷ es) = (e.1.offset < 2 ^ 124) × OffsetsFit es

-- addresses in this table have room
pub record TableFits (t : Table) : Type 0 where
  pub end : Room t.end 0
  pub names : OffsetsFit t.names

-- ---- the limits

-- what is checked of a table with so many undefined names before anything is made: the end of bss is an address, and segments and
-- entries alone are within the limit of a file
abbrev pub limit_checks : Table → ℕ → List Check
limit_checks t names =
    check (nat_le (t.entry + t.end.text + t.end.datum + max t.bsize t.end.bss) GREATEST_ADDRESS) TOO_LARGE GREATEST_ADDRESS
    ∷ check (nat_le (t.end.text + t.end.datum + (t.end.entries + names) * ENTRY_SIZE) FILE_LIMIT) TOO_LARGE FILE_LIMIT
    ∷ []

-- the entry of a common is at most this one
abbrev pub CommonBelow : ℕ → Home → ℕ → Type 0
CommonBelow most home.Common offset = offset ≤ most
CommonBelow most home.Text offset = Unit {0}
CommonBelow most home.Data offset = Unit {0}
CommonBelow most home.Bss offset = Unit {0}

abbrev pub CommonsBelow : ℕ → List (List ℕ × Definition) → Type 0
CommonsBelow most es = AllByRecursion (λ e. CommonBelow most e.1.home e.1.offset) es

-- text, data and bss end at an address
abbrev pub EndsInMemory : Table → Type 0
EndsInMemory t = t.entry + t.end.text + t.end.datum + max t.bsize t.end.bss < 2 ^ 32

-- the numbers of a table with so many undefined names fit an object: its addresses, its symbols, and its machine word, which is none
-- that hides the byte order
pub record Within (t : Table) (names : ℕ) : Type 0 where
  pub addresses : EndsInMemory t
  pub entries : t.end.entries + names < 2 ^ 24
  pub commons : CommonsBelow t.end.entries t.names
  pub machine : t.machine < 2 ^ 16
  pub told : t.machine ≢ TWO_ORDERS

-- ---- statements that are left

-- a statement of the table's source that stands at these places: it has no fault, and nothing of it is past the end
pub record Stands (t : Table) (p : Places) (w : What) : Type 0 where
  pub no_fault : fault_of t p w ≡ None
  pub fits : StatementFits w
  pub text : p.text ≤ t.end.text
  pub datum : p.datum ≤ t.end.datum
  pub bss : (moved p w).bss ≤ t.end.bss
  pub entries : p.entries ≤ t.end.entries

-- the statements of the table's source from these places on
pub record Left (t : Table) (p : Places) (ss : List Statement) : Type 0 where
  pub no_fault : faults t p ss ≡ None
  pub fits : AllFit ss
  pub end : end_of p ss ≡ t.end

-- the table and the undefined names of statements without a fault
pub record Passed (ss : List Statement) (t : Table) (undefined : List (List ℕ)) : Type 0 where
  pub table : t ≡ table_of ss
  pub names : undefined ≡ undefined_of t ss
  pub left : Left t start ss
