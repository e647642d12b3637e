use Rattle.std.proofs.Common.{◌≡◌, ◌++◌, length}
use Rattle.stabs_asm.specs.Listing as spec
use Rattle.stabs_asm.proofs.printed.put_rows.Given as goal

abbrev pub invariant-loop-rest : goal.invariant-loop-rest
invariant-loop-rest l = l.out ++ spec.text_of (spec.byte_lines (spec.rows_of l.rest)) ≡ l.initial.out ++ spec.text_of (spec.byte_lines (spec.rows_of l.bytes))

abbrev pub decreases-loop-rest : goal.decreases-loop-rest
decreases-loop-rest l = length l.rest
