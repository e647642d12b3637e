use Rattle.std.proofs.Common.{None, arith}
use Rattle.scope_lines.proofs.NoneLemmas.{no_line_of}
use Rattle.scope_lines.proofs.line.line_at.Goals as goal

-- the answer is the line of the address, so it is there where a unit with such an entry is
pub returns-in-None-clause-none : goal.returns-in-None-clause-none
returns-in-None-clause-none c = no_line_of c.args.world.now c.args.address None (grind arith)

pub returns-in-Some-clause-none : goal.returns-in-Some-clause-none
returns-in-Some-clause-none c = no_line_of c.args.world.now c.args.address c.line_in.result (grind arith)
