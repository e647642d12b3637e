use Rattle.c_tokens.proofs.NumberLemmas.{over_here}
use Rattle.std.proofs.Common.{arith}
use Rattle.c_tokens.proofs.front.number_of.Goals as goal

-- digits behind it make the number no smaller
pub returns-then-number-gt-LARGEST : goal.returns-then-number-gt-LARGEST
returns-then-number-gt-LARGEST c =
    over_here c.loop-digit.number c.loop-digit.digit-index _ c.args.digits.now c.loop-digit.invariant.value (omega arith) (omega arith)
