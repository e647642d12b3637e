use Rattle.bincl_match.proofs.PrepareLemmas.{PreparedSoFar}
use Rattle.bincl_match.proofs.prepare.prepare_all.Given as goal

-- the ranges so far
abbrev pub invariant-loop-place : goal.invariant-loop-place
invariant-loop-place l = PreparedSoFar l.ranges l.place l.prepared
