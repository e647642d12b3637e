use Rattle.std.proofs.Common.{None, Some}
use Rattle.header_merge.proofs.ListLemmas.{index_is}
use Rattle.header_merge.proofs.merging.instance_at.Goals as goal

-- no instance stands at the place
pub returns-in-None : goal.returns-in-None
returns-in-None c = index_is c.args.grouping.now.instance c.args.place 0 None c.in-None.ensures.value

-- one does
pub returns-in-Some : goal.returns-in-Some
returns-in-Some c = index_is c.args.grouping.now.instance c.args.place 0 (Some c.in-Some.instance.now) c.in-Some.ensures.value
