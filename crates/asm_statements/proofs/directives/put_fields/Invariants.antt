use Rattle.std.proofs.Common.{◌≡◌, ◌+◌, ◌*◌, ◌≤◌, length}
use Rattle.asm_statements.specs.Directives as spec
use Rattle.asm_statements.specs.Operands.{pieces}
use Rattle.asm_statements.specs.Scanning.{with_whats}
use Rattle.asm_statements.proofs.directives.put_fields.Given as goal

abbrev pub invariant-loop-at : goal.invariant-loop-at
invariant-loop-at l = record {
  read : with_whats l.out (spec.fields l.width l.back (pieces l.rest)) ≡ with_whats l.initial.out (spec.fields l.width 0 (pieces l.tokens));
  back : l.back + 4 * length l.rest ≤ 4 * length l.tokens;
}

abbrev pub decreases-loop-at : goal.decreases-loop-at
decreases-loop-at l = length l.rest
