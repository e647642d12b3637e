use Rattle.std.proofs.Common.{◌≡◌, length}
use Rattle.asm_statements.specs.Tokens as spec
use Rattle.asm_statements.specs.Scanning.{with_front}
use Rattle.asm_statements.proofs.scan.read_tokens.Given as goal

abbrev pub invariant-loop-rest : goal.invariant-loop-rest
invariant-loop-rest l = with_front l.tokens (spec.tokens l.rest) ≡ spec.tokens l.line

abbrev pub decreases-loop-rest : goal.decreases-loop-rest
decreases-loop-rest l = length l.rest
