use Rattle.asm_statements.proofs.LineLemmas.{no_feed, at_feed}
use Rattle.asm_statements.proofs.lines.cut_line.Goals as goal

pub returns-in-None-clause-value : goal.returns-in-None-clause-value
returns-in-None-clause-value c = no_feed c.args.bytes.now c.in-None.ensures.value

pub returns-in-Some-clause-value : goal.returns-in-Some-clause-value
returns-in-Some-clause-value c = at_feed c.args.bytes.now c.in-Some.at c.in-Some.ensures.value
