use Rattle.std.proofs.Common.{sym, ◌∙◌}
use Rattle.command_line.specs.Commands.{asked}
use Rattle.stabs_tool.proofs.CallLemmas.{decides_memory, decides_wrong}
use Rattle.stabs_tool.proofs.Decisions.{by_usage}
use Rattle.stabs_tool.proofs.decide.decide.Goals as goal

pub returns-in-Wrong-clause-answer : goal.returns-in-Wrong-clause-answer
returns-in-Wrong-clause-answer g c = by_usage _ _ _ c.in-Wrong.at _ (sym c.in-Wrong.is ∙ c.in_ok-asked.ensures) c.usage.ensures

pub returns-in-Wrong-clause-called : goal.returns-in-Wrong-clause-called
returns-in-Wrong-clause-called g c = decides_wrong _ c.in-Wrong.at _ _ (sym c.in-Wrong.is ∙ c.in_ok-asked.ensures) c.usage.ensures

-- words that could not be read call nothing
pub returns-in_err-asked-clause-called : goal.returns-in_err-asked-clause-called
returns-in_err-asked-clause-called g c = decides_memory (asked c.args.words.now) _ c.from_residual.result c.from_residual.ensures.0
