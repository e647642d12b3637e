-- Where statements stand, and what they define. The place of a statement is the sum of the sizes of those before it in its
-- segment.
use Rattle.std.specs.Prelude.{ℕ, ◌+◌, ◌*◌, ◌/◌, ◌%◌, ◌-◌, nat_le, ◌<◌, ◌^◌, ◌==◌, Bool, true, false, if◌then◌else◌, List, [], ◌∷◌, ◌++◌, fold, length}
use Rattle.st_base.specs.Multiples.{aligned}
use Rattle.asm_statements.specs.Directives.{size_of_width}
use Rattle.std.specs.Str.{bytes_eq}
use Rattle.st_base.specs.FirstUses.{first_uses}
use Rattle.asm_objects.specs.declared.limits.TheConstants.{GREATEST_POWER}
use Rattle.asm_objects.specs.DefinedNames.{same_name}
use Rattle.asm_statements.specs.declared.statement.Part.{Part}
use Rattle.asm_statements.specs.declared.statement.Part.TheVariants as part
use Rattle.asm_statements.specs.declared.statement.What.{What}
use Rattle.asm_statements.specs.declared.statement.What.TheVariants as what
use Rattle.asm_statements.specs.declared.statement.Statement.{Statement}
use Rattle.asm_objects.specs.declared.table.Home.{Home}
use Rattle.asm_objects.specs.declared.table.Home.TheVariants as home
use Rattle.asm_objects.specs.declared.table.Places.{Places}
use Rattle.asm_objects.specs.declared.table.Definition.{Definition}
use Rattle.asm_objects.specs.declared.table.Table.{Table}

-- a name that begins with `L`
abbrev pub is_local : List ℕ → Bool
is_local [] = false
is_local (b ∷ bytes) = b == 76

-- the offset that a segment has reached
abbrev pub reached : Part → Places → ℕ
reached part.Text p = p.text
reached part.Data p = p.datum

abbrev pub offset_in : Places → ℕ
offset_in p = reached p.part p

abbrev pub home_of : Part → Home
home_of part.Text = home.Text
home_of part.Data = home.Data

-- so many bytes more in a segment
abbrev pub grown_in : Part → Places → ℕ → Places
grown_in part.Text p n = record p { text = p.text + n }
grown_in part.Data p n = record p { datum = p.datum + n }

abbrev pub grown : Places → ℕ → Places
grown p n = grown_in p.part p n

-- one more entry, unless there is none
abbrev pub listed : Places → Bool → Places
listed p true = p
listed p false = record p { entries = p.entries + 1 }

-- so many bytes of bss at the next multiple of four
abbrev pub reserved : Places → ℕ → Places
reserved p n = record p { bss = aligned p.bss + n }

-- two to this power; one where the power is over the greatest
abbrev pub unit_of : ℕ → ℕ
unit_of n = if nat_le n GREATEST_POWER then 2 ^ n else 1

-- how many bytes are missing to the next multiple
abbrev pub padding : ℕ → ℕ → ℕ
padding n offset = (unit_of n - offset % unit_of n) % unit_of n

-- what a statement adds to the places
abbrev pub moved : Places → What → Places
moved p (what.Label name) = listed p (is_local name)
moved p (what.Switch q) = record p { part = q }
moved p (what.Field width sum) = grown p (size_of_width width)
moved p (what.Space n) = grown p n
moved p (what.Globl name) = p
moved p (what.Comm name n) = listed p false
moved p (what.Lcomm name n) = listed (reserved p n) (is_local name)
moved p (what.Stab s) = listed p false
moved p (what.Bytes bytes) = grown p (length bytes)
moved p (what.Align n) = grown p (padding n (offset_in p))
moved p (what.Entry n) = p
moved p (what.Machine n) = p
moved p (what.Bsize n) = p
moved p (what.Rel r) = p

-- the places after a statement
abbrev pub after : Places → Statement → Places
after p s = record (moved p s.what) { number = p.number + 1 }

-- the places at the first statement
abbrev pub start : Places
start = record { part = part.Text; text = 0; datum = 0; bss = 0; entries = 0; number = 0 }

-- the places after a list of statements
abbrev pub end_of : Places → List Statement → Places
end_of p [] = p
end_of p (s ∷ ss) = end_of (after p s) ss

-- what each statement gives at its places, in order
abbrev pub each : {X : Type 0} → (Places → What → List X) → Places → List Statement → List X
each f p [] = []
each f p (s ∷ ss) = f p s.what ++ each f (after p s) ss

-- the definition that a statement gives
abbrev pub defined : Places → What → List (List ℕ × Definition)
defined p (what.Label name) = (name, record { home = home_of p.part; offset = offset_in p; number = p.number }) ∷ []
defined p (what.Comm name n) = (name, record { home = home.Common; offset = p.entries; number = p.number }) ∷ []
defined p (what.Lcomm name n) = (name, record { home = home.Bss; offset = aligned p.bss; number = p.number }) ∷ []
defined p _ = []

-- the name that a statement makes global
abbrev pub global : What → List (List ℕ)
global (what.Globl name) = name ∷ []
global _ = []

-- the entry word that a statement gives
abbrev pub entry_word : What → List ℕ
entry_word (what.Entry n) = n ∷ []
entry_word _ = []

abbrev pub machine_word : What → List ℕ
machine_word (what.Machine n) = n ∷ []
machine_word _ = []

abbrev pub bss_size : What → List ℕ
bss_size (what.Bsize n) = n ∷ []
bss_size _ = []

abbrev pub last : ℕ → ℕ → ℕ
last old new = new

-- the names of a source with their first definitions, its global names, and the places at its end
abbrev pub table_of : List Statement → Table
table_of ss = record {
  names = first_uses same_name (each defined start ss);
  globals = first_uses bytes_eq (each (λ p. global) start ss);
  end = end_of start ss;
  entry = fold last 0 (each (λ p. entry_word) start ss);
  machine = fold last 0 (each (λ p. machine_word) start ss);
  bsize = fold last 0 (each (λ p. bss_size) start ss);
}

-- ---- that the sums fit

-- so many statements more have room in each counter: none of them adds more than 2^65 to a size, nor more than one to a number
pub record Room (p : Places) (n : ℕ) : Type 0 where
  pub text : p.text + n * 2 ^ 65 < 2 ^ 124
  pub datum : p.datum + n * 2 ^ 65 < 2 ^ 124
  pub bss : p.bss + n * 2 ^ 65 < 2 ^ 124
  pub entries : p.entries + n < 2 ^ 60
  pub number : p.number + n < 2 ^ 60
