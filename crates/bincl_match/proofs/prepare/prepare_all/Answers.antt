use Rattle.std.proofs.Common.{◌+◌, List, subst, sym}
use Rattle.bincl_match.specs.declared.prepared.Prepared.{Prepared}
use Rattle.bincl_match.proofs.PrepareLemmas.{PreparedSoFar, prepared_more}
use Rattle.bincl_match.proofs.prepare.prepare_all.Goals as goal

-- one range more
pub loop-place-preserved : goal.loop-place-preserved
loop-place-preserved c =
    subst (λ (z : List Prepared). PreparedSoFar c.args.ranges.now (c.loop-place.place + 1) z) (sym c.in_ok-push.ensures.ok)
    (prepared_more c.args.ranges.now c.loop-place.place c.loop-place.prepared c.in_ok-one.one c.in_ok-one.ensures c.loop-place.invariant)
