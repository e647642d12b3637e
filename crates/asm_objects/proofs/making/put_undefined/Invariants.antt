use Rattle.std.proofs.Common.{◌≡◌, ◌++◌, drop, map}
use Rattle.asm_objects.specs.Meaning as spec
use Rattle.asm_objects.proofs.making.put_undefined.Given as goal

abbrev pub invariant-loop-at : goal.invariant-loop-at
invariant-loop-at l = l.out ++ map spec.undefined_entry (drop l.at l.undefined) ≡ l.initial.out ++ map spec.undefined_entry l.undefined
