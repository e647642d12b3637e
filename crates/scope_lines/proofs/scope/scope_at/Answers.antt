use Rattle.std.proofs.Common.{Some, None, arith}
use Rattle.scope_lines.proofs.NoneLemmas.{no_scope_of}
use Rattle.scope_lines.proofs.scope.scope_at.Goals as goal

-- the answer is the scope of the address, so it is there where a unit is
pub returns-in-None-clause-none : goal.returns-in-None-clause-none
returns-in-None-clause-none c = no_scope_of c.args.world.now c.args.address None (grind arith)

pub returns-in_ok-scope-in-Some-clause-none : goal.returns-in_ok-scope-in-Some-clause-none
returns-in_ok-scope-in-Some-clause-none c = no_scope_of c.args.world.now c.args.address (Some c.in_ok-scope-in-Some.scope) (grind arith)
