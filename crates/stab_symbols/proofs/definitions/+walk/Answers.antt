use Rattle.std.proofs.Common.{Err, arith}
use Rattle.std.proofs.lemmas.Result.{err_from_is_err_and}
use Rattle.stab_symbols.proofs.WalkLemmas.{visited_both, visited_stopped}
use Rattle.stab_symbols.proofs.definitions.+walk.Goals as goal

-- where it stops in the first of two, it stops in what is left
pub returns-in_err-walk-in-Two : goal.returns-in_err-walk-in-Two
returns-in_err-walk-in-Two g t c =
    let p = err_from_is_err_and c.from_residual.result c.from_residual.ensures.1 in
    rw (p.1, p.2) (c.loop-inner.invariant.all c.walk.new.visitor (Err c.in_err-walk-in-Two.field-0.0) (rw c.in-Two.ensures.0 (visited_stopped g.V.DefinitionVisitor.visits _ _ _ _ _ c.in_err-walk-in-Two.ensures)))

-- after the first of two the second is left
pub loop-inner-preserved-in-Two : goal.loop-inner-preserved-in-Two
loop-inner-preserved-in-Two g t c = record {
  smaller = let first = c.in-Two.ensures.2 in omega arith;
  all = λ new result second. c.loop-inner.invariant.all new result (rw c.in-Two.ensures.0 (visited_both g.V.DefinitionVisitor.visits _ _ _ _ _ _ c.in_ok-walk-in-Two.ensures second));
}
