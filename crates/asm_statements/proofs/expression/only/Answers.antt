use Rattle.asm_statements.proofs.ExpressionLemmas.{only_item}
use Rattle.asm_statements.proofs.expression.only.Goals as goal

pub returns : goal.returns
returns c = only_item c.args.names c.replace.result c.replace.ensures.old c.requires
