-- That a fault is the first of a source: no other stands at a smaller line, nor at its line with a smaller number.
use Rattle.std.specs.Prelude.{◌≡◌, ◌⊎◌, false, List, [], ◌∷◌, Some}
use Rattle.st_base.specs.declared.fault.Fault.{Fault}
use Rattle.asm_objects.specs.Layout.{after, start, table_of}
use Rattle.asm_objects.specs.Meaning.{at_line, fault_of, is_later}
use Rattle.asm_statements.specs.declared.statement.Statement.{Statement}
use Rattle.asm_objects.specs.declared.table.Places.{Places}
use Rattle.asm_objects.specs.declared.table.Table.{Table}

-- a statement has this fault
abbrev pub HasFault : Table → Places → List Statement → Fault → Type 0
HasFault t p [] f = ⊥
HasFault t p (s ∷ ss) f = (at_line s.line (fault_of t p s.what) ≡ Some f) ⊎ HasFault t (after p s) ss f

-- no fault stands at a smaller line, nor at its line with a smaller number
pub record IsFirst (ss : List Statement) (f : Fault) : Type 0 where
  pub has : HasFault (table_of ss) start ss f
  pub first : (g : Fault) → HasFault (table_of ss) start ss g → is_later f g ≡ false
