use Rattle.bincl_match.proofs.InstanceLemmas.{alone_of}
use Rattle.bincl_match.proofs.instances.own_instances.Goals as goal

-- each range has an instance of its own
pub returns : goal.returns
returns c =
    alone_of c.args.ranges.now c.args.kept c.items.result.now c.in_ok-instance.instance c.items.ensures c.requires.count c.requires.own
    c.in_ok-instance.ensures.count c.in_ok-instance.ensures.own c.in_ok-instance.ensures.apart
