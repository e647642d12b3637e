-- Statements as they are read from a source that a memory holds: the sums of their numbers have room, and their names hold no zero byte.
use Rattle.std.specs.Prelude.{◌<◌, ◌^◌, List, [], ◌∷◌}
use Rattle.strtab.specs.StringTable.{HasNoZero}
use Rattle.asm_statements.specs.declared.statement.Name.{Name}
use Rattle.asm_statements.specs.declared.statement.Name.TheVariants.{Here, Named}
use Rattle.asm_statements.specs.declared.statement.Sum.{Sum}
use Rattle.asm_statements.specs.declared.statement.What.{What}
use Rattle.asm_statements.specs.declared.statement.What.TheVariants as what
use Rattle.asm_statements.specs.declared.statement.Statement.{Statement}

abbrev pub NameFits : Name → Type 0
NameFits Here = Unit {0}
NameFits (Named w) = HasNoZero w

abbrev pub NamesFit : List Name → Type 0
NamesFit [] = Unit {0}
NamesFit (x ∷ xs) = NameFits x × NamesFit xs

-- an expression: its sums have room, and its added names are names
pub record SumFits (s : Sum) : Type 0 where
  pub more : s.more < 2 ^ 100
  pub less : s.less < 2 ^ 100
  pub added : NamesFit s.added

-- a statement; the string of a stab may hold any byte, since the fault of a zero byte there is reported
abbrev pub StatementFits : What → Type 0
StatementFits (what.Label name) = HasNoZero name
StatementFits (what.Comm name n) = HasNoZero name
StatementFits (what.Lcomm name n) = HasNoZero name
StatementFits (what.Field width sum) = SumFits sum
StatementFits (what.Stab s) = SumFits s.value
StatementFits _ = Unit {0}

abbrev pub AllFit : List Statement → Type 0
AllFit [] = Unit {0}
AllFit (s ∷ ss) = StatementFits s.what × AllFit ss
