use Rattle.std.proofs.Common.{◌≡◌, ◌+◌, ◌*◌, ◌≤◌, length}
use Rattle.asm_statements.specs.Fits.{NamesFit}
use Rattle.asm_statements.specs.Operands as spec
use Rattle.asm_statements.proofs.operands.put_terms.Given as goal

abbrev pub invariant-loop-rest : goal.invariant-loop-rest
invariant-loop-rest l = record {
  read : spec.terms l.sum l.rest ≡ spec.terms l.initial.sum l.tokens;
  more : l.sum.more + 4294967296 * length l.rest ≤ l.initial.sum.more + 4294967296 * length l.tokens;
  less : l.sum.less + 4294967296 * length l.rest ≤ l.initial.sum.less + 4294967296 * length l.tokens;
  added : NamesFit l.sum.added;
}

abbrev pub decreases-loop-rest : goal.decreases-loop-rest
decreases-loop-rest l = length l.rest
