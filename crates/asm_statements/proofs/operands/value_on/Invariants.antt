use Rattle.std.proofs.Common.{◌≡◌, ◌≤◌, drop}
use Rattle.asm_statements.specs.Operands as spec
use Rattle.asm_statements.proofs.operands.value_on.Given as goal

abbrev pub invariant-loop-b : goal.invariant-loop-b
invariant-loop-b l = record {
  value : spec.value_on l.base l.value (drop l.b-index l.bytes) ≡ spec.value_on l.base 0 l.bytes;
  small : l.value ≤ 4294967296;
}
