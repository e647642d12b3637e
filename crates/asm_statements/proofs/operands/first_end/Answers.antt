use Rattle.asm_statements.proofs.OperandLemmas.{comma_cuts}
use Rattle.asm_statements.proofs.operands.first_end.Goals as goal

pub returns-clause-value : goal.returns-clause-value
returns-clause-value c = comma_cuts c.args.tokens.now c.comma_at.result c.comma_at.ensures.value
