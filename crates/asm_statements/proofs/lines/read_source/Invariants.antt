use Rattle.std.proofs.Common.{◌≡◌, ◌≤◌, ◌+◌, length}
use Rattle.asm_statements.specs.SourceLines as spec
use Rattle.asm_statements.specs.Scanning.{with_statements}
use Rattle.asm_statements.proofs.lines.read_source.Given as goal

abbrev pub invariant-loop-tokens : goal.invariant-loop-tokens
invariant-loop-tokens l = record {
  read : with_statements l.out.statements (spec.read_lines l.out.number (spec.lines_of l.rest)) ≡ spec.read_lines 1 (spec.lines_of l.source);
  within : l.out.number + length l.rest ≤ 1 + length l.source;
}

abbrev pub decreases-loop-tokens : goal.decreases-loop-tokens
decreases-loop-tokens l = length l.rest
