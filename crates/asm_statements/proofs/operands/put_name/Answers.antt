use Rattle.asm_statements.proofs.FitLemmas.{added_grows}
use Rattle.asm_statements.proofs.operands.put_name.Goals as goal

pub returns-else-minus-clause-grows : goal.returns-else-minus-clause-grows
returns-else-minus-clause-grows c = added_grows c.push-else-minus.result c.args.sum.now c.push-else-minus.new.self c.args.name c.requires c.push-else-minus.ensures.ok
