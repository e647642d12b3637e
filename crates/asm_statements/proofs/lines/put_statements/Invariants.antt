use Rattle.std.proofs.Common.{◌≡◌, length}
use Rattle.asm_statements.specs.SourceLines as spec
use Rattle.asm_statements.specs.Scanning.{with_whats}
use Rattle.asm_statements.proofs.lines.put_statements.Given as goal

abbrev pub invariant-loop-rest : goal.invariant-loop-rest
invariant-loop-rest l = with_whats l.out (spec.statements_of l.rest) ≡ with_whats l.initial.out (spec.statements_of l.tokens)

abbrev pub decreases-loop-rest : goal.decreases-loop-rest
decreases-loop-rest l = length l.rest
