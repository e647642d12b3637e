use Rattle.bincl_match.specs.Owning.{AreTrue}
use Rattle.bincl_match.proofs.owning.all_true.Given as goal

-- the flags so far
abbrev pub invariant-loop-made : goal.invariant-loop-made
invariant-loop-made l = AreTrue l.made l.flags
