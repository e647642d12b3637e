use Rattle.std.proofs.Common.{◌≡◌, ◌≤◌, length}
use Rattle.asm_statements.specs.Scanning.{with_text}
use Rattle.asm_statements.specs.Tokens as spec
use Rattle.asm_statements.proofs.scan.string_at.Given as goal

abbrev pub invariant-loop-rest : goal.invariant-loop-rest
invariant-loop-rest l = record {
  read : with_text l.text (spec.read_in (spec.within l.quoted) l.rest) ≡ spec.read_in spec.inside l.bytes;
  shorter : length l.rest ≤ length l.bytes;
}

abbrev pub decreases-loop-rest : goal.decreases-loop-rest
decreases-loop-rest l = length l.rest
