use Rattle.bincl_match.specs.Crowding.{CrowdedSoFar, has_pair}
use Rattle.bincl_match.proofs.crowd.twice.Given as goal

abbrev pub invariant-loop-i : goal.invariant-loop-i
invariant-loop-i l = CrowdedSoFar l.ranges l.groups l.i (λ u k. has_pair l.met u k) l.bad
