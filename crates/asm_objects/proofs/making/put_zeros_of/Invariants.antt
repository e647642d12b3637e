use Rattle.std.proofs.Common.{◌≡◌, ◌++◌, replicate}
use Rattle.asm_objects.proofs.making.put_zeros_of.Given as goal

abbrev pub invariant-loop-left : goal.invariant-loop-left
invariant-loop-left l = l.out ++ replicate l.left 0 ≡ l.initial.out ++ replicate l.size 0

abbrev pub decreases-loop-left : goal.decreases-loop-left
decreases-loop-left l = l.left
