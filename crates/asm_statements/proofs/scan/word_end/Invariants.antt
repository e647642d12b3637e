use Rattle.std.proofs.Common.{◌≡◌, ◌+◌, drop}
use Rattle.std.specs.List.{prefix_len}
use Rattle.asm_statements.specs.Tokens as spec
use Rattle.asm_statements.proofs.scan.word_end.Given as goal

abbrev pub invariant-loop-i : goal.invariant-loop-i
invariant-loop-i l = l.i + prefix_len spec.in_word (drop l.i l.bytes) ≡ prefix_len spec.in_word l.bytes
