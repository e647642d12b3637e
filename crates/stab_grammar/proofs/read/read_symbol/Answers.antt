use Rattle.std.proofs.Common.{Ok, Err, sym, subst}
use Rattle.readers.specs.declared.fault.Unread.{Unread}
use Rattle.stab_grammar.proofs.Whole.{Answers, answers_ok, answers_err, may_tell, by_found, by_only, by_fault, by_first}
use Rattle.stab_grammar.proofs.read.read_symbol.Goals as goal

-- the call answers what reading the whole string gives

pub told-requires : goal.told-requires
told-requires c = may_tell c.args.text.now _ c.in-Err.ensures

pub returns-in-Ok-clause-found : goal.returns-in-Ok-clause-found
returns-in-Ok-clause-found c = by_found c.args.text.now (Ok c.in-Ok.symbol) (answers_ok c.args.text.now c.in-Ok.symbol c.in-Ok.ensures)

pub returns-in-Ok-clause-only : goal.returns-in-Ok-clause-only
returns-in-Ok-clause-only c = by_only c.args.text.now (Ok c.in-Ok.symbol) (answers_ok c.args.text.now c.in-Ok.symbol c.in-Ok.ensures)

pub returns-in-Ok-clause-first : goal.returns-in-Ok-clause-first
returns-in-Ok-clause-first c = by_first c.args.text.now (Ok c.in-Ok.symbol) (answers_ok c.args.text.now c.in-Ok.symbol c.in-Ok.ensures)

pub returns-in-Err-clause-only : goal.returns-in-Err-clause-only
returns-in-Err-clause-only c = by_only c.args.text.now (Err c.told.result) (subst (λ (z : Unread). Answers c.args.text.now (Err z)) (sym c.told.ensures) (answers_err c.args.text.now _ c.in-Err.ensures))

pub returns-in-Err-clause-fault : goal.returns-in-Err-clause-fault
returns-in-Err-clause-fault c = by_fault c.args.text.now (Err c.told.result) (subst (λ (z : Unread). Answers c.args.text.now (Err z)) (sym c.told.ensures) (answers_err c.args.text.now _ c.in-Err.ensures))

pub returns-in-Err-clause-first : goal.returns-in-Err-clause-first
returns-in-Err-clause-first c = by_first c.args.text.now (Err c.told.result) (subst (λ (z : Unread). Answers c.args.text.now (Err z)) (sym c.told.ensures) (answers_err c.args.text.now _ c.in-Err.ensures))
