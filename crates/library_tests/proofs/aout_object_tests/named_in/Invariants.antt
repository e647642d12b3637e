use Rattle.std.proofs.Common.{All}
use Rattle.aout_object.specs.Making.{HasWholeName}
use Rattle.library_tests.proofs.aout_object_tests.named_in.Given as goal

abbrev pub invariant-loop-spelled : goal.invariant-loop-spelled
invariant-loop-spelled l = All HasWholeName l.named
