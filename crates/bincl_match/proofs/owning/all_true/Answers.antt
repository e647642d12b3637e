use Rattle.bincl_match.proofs.OwnLemmas.{true_more}
use Rattle.bincl_match.proofs.owning.all_true.Goals as goal

-- one flag more
pub loop-made-preserved : goal.loop-made-preserved
loop-made-preserved c = true_more c.loop-made.made c.loop-made.flags c.push.new.self c.in_ok-push.ensures.ok c.loop-made.invariant
