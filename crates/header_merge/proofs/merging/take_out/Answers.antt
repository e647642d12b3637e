use Rattle.header_merge.proofs.ListLemmas.{taken_out}
use Rattle.header_merge.proofs.merging.take_out.Goals as goal

pub returns-clause-left : goal.returns-clause-left
returns-clause-left c = taken_out c.args.entries.now c.replace.new.self c.args.at c.replace.result _ c.requires c.replace.ensures.old c.replace.ensures.new
