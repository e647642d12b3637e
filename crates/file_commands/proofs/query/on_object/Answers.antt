use Rattle.std.proofs.Common.{ap, Err}
use Rattle.file_commands.specs.QueryOutcomes.{RepliesOnWorld}
use Rattle.file_commands.proofs.ReplyLemmas.{by_world_fault}
use Rattle.file_commands.proofs.query.on_object.Goals as goal

-- the refusal of an object, by the fault of its stabs
pub returns-in-Err-At : goal.returns-in-Err-At
returns-in-Err-At c =
    by_world_fault c.args.name.now c.args.object (RepliesOnWorld c.args.query.now) c.in-Err-At.fault c.refused.result
    (c.in-Err-At.ensures.refused c.in-Err-At.fault (ap Err c.in-Err-At.field-0-is)) c.refused.ensures
