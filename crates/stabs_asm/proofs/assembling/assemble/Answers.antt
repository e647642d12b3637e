use Rattle.std.proofs.Common.{◌≡◌, List, Result, Ok, Err, ℕ, subst, sym, ap, ◌∙◌}
use Rattle.st_base.specs.declared.fault.Fault.{Fault}
use Rattle.st_base.specs.declared.fault.Refused.{Refused}
use Rattle.st_base.specs.declared.fault.Refused.TheVariants as refused
use Rattle.st_base.specs.declared.order.Order.{Order}
use Rattle.aout_object.specs.Objects.{Contents}
use Rattle.aout_object.specs.Decoding.{Gives}
use Rattle.asm_objects.specs.SourceMaking.{object_of}
use Rattle.asm_statements.specs.SourceLines.{ReadsSource}
use Rattle.stabs_asm.specs.Assembling.{assembled}
use Rattle.asm_statements.specs.SourceLines.{read_source}
use Rattle.asm_statements.specs.declared.statement.Statement.{Statement}
use Rattle.stabs_asm.proofs.assembling.assemble.Goals as goal

-- what the statements that were read make
by_statements : (order : Order) (ss : List Statement) (read : Result (List Statement) ℕ) (result : Result Contents Refused) → read ≡ Ok ss
    → Gives result (object_of order ss) → Gives result (assembled order read)
by_statements order ss read result is gives = subst (λ (z : Result (List Statement) ℕ). Gives result (assembled order z)) (sym is) gives

-- the fault of the first line that does not parse
by_line : (order : Order) (f : Fault) (read : Result (List Statement) ℕ) → ReadsSource (Err (refused.At f)) read → assembled order read ≡ Err f
by_line order f read h = ap (assembled order) h.1 ∙ ap Err (sym h.2)

pub returns-in-Ok : goal.returns-in-Ok
returns-in-Ok c =
    by_statements c.args.order c.in-Ok.statements _ c.assemble_statements.result c.in-Ok.ensures c.assemble_statements.ensures

pub returns-in-Err-At : goal.returns-in-Err-At
returns-in-Err-At c =
    by_line c.args.order c.in-Err-At.fault _ (subst (λ (r : Refused). ReadsSource (Err r) (read_source c.args.source.now)) c.in-Err-At.field-0-is c.in-Err-At.ensures)
    ∙ ap Err (sym c.in-Err-At.fault-is)
