use Rattle.bincl_match.proofs.InstanceLemmas.{ArePlaces}
use Rattle.bincl_match.proofs.instances.places.Given as goal

-- the places so far
abbrev pub invariant-loop-place : goal.invariant-loop-place
invariant-loop-place l = ArePlaces l.place l.kept
