-- Which expression and which number a value of the code is.
use Rattle.std.specs.Prelude.{ℕ, List, [], false}
use Rattle.asm_statements.specs.declared.statement.Name.{Name}
use Rattle.asm_statements.specs.declared.statement.Sum.{Sum}
use Rattle.asm_statements.specs.declared.statement.Plain.{Plain}
use Rattle.asm_statements.specs.declared.number.Kept.{Kept}
use Rattle.asm_statements.specs.declared.number.Kept.TheVariants as kept
use Rattle.asm_statements.specs.declared.expression.Form.{Form}
use Rattle.asm_statements.specs.declared.expression.Form.TheVariants as form

-- an expression of these names and numbers
abbrev pub sum_with : List Name → List Name → ℕ → ℕ → Sum
sum_with added taken more less = record { added = added; taken = taken; more = more; less = less; over = false }

abbrev pub sum_in : Form → Sum
sum_in (form.More n) = sum_with [] [] n 0
sum_in (form.Less n) = sum_with [] [] 0 n
sum_in (form.Single s) = sum_with s.added [] s.more s.less
sum_in (form.Pair p) = sum_with p.added p.taken p.more p.less
sum_in (form.Whole s) = s

abbrev pub plain_in : Kept → Plain
plain_in (kept.More n) = record { more = n; less = 0 }
plain_in (kept.Less n) = record { more = 0; less = n }
plain_in kept.MostMore = record { more = 4294967296; less = 0 }
plain_in kept.MostLess = record { more = 0; less = 4294967296 }
