use Rattle.std.proofs.Common.{◌∙◌}
use Rattle.stabs_tool.proofs.CallLemmas.{decides_of}
use Rattle.stabs_tool.proofs.Decisions.{decided_of, placed_of}
use Rattle.stabs_tool.proofs.decide.perform.Goals as goal

pub returns-clause-answer : goal.returns-clause-answer
returns-clause-answer g c =
    decided_of c.args.command.now _ _ _ _ (c.items.ensures ∙ c.in_ok-names.ensures) c.most_of.ensures c.in_ok-inputs.inputs c.reply.result
    c.in_ok-inputs.ensures.loaded.told c.in_ok-inputs.ensures.loaded.causes c.reply.ensures

-- what was called is what its inputs came to
pub returns-clause-called : goal.returns-clause-called
returns-clause-called g c =
    decides_of c.args.command.now _ _ _ _ (c.items.ensures ∙ c.in_ok-names.ensures) c.most_of.ensures c.in_ok-inputs.inputs c.reply.result
    c.in_ok-inputs.ensures.called (placed_of _ _ _ _ _ _ c.in_ok-inputs.ensures.loaded.causes) c.reply.ensures
