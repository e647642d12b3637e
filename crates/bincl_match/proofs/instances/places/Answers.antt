use Rattle.bincl_match.proofs.InstanceLemmas.{places_more}
use Rattle.bincl_match.proofs.instances.places.Goals as goal

-- one place more
pub loop-place-preserved : goal.loop-place-preserved
loop-place-preserved c = places_more c.loop-place.place c.loop-place.kept c.push.new.self c.in_ok-push.ensures.ok c.loop-place.invariant
