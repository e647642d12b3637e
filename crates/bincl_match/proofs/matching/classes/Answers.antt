use Rattle.bincl_match.proofs.ClassLemmas.{classes_from}
use Rattle.bincl_match.proofs.matching.classes.Goals as goal

-- the groups at the end, and their instances
pub returns : goal.returns
returns c =
    classes_from c.args.ranges.now c.items-2.result.now c.items-4.result.now c.items-3.result.now c.in_ok-kept.kept c.items-5.result.now c.in_ok-instance.instance c.items-2.ensures c.items-4.ensures c.items-5.ensures
    c.in_ok-kept.ensures.refined c.in_ok-kept.ensures.settled c.in_ok-instance.ensures.count c.in_ok-instance.ensures.own c.in_ok-instance.ensures.shared
