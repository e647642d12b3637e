use Rattle.std.proofs.Common.{ℕ, List, ap, Err, ◌∙◌}
use Rattle.file_commands.specs.declared.outcome.TheConstants.{DONE}
use Rattle.file_commands.specs.Outcomes.{printed}
use Rattle.file_commands.specs.QueryOutcomes.{Counts}
use Rattle.file_commands.proofs.ReplyLemmas.{by_counted, by_world_fault, world_fault}
use Rattle.file_commands.proofs.check.check_object.Goals as goal

-- how much the entries have that were named
pub returns-in-Ok : goal.returns-in-Ok
returns-in-Ok c =
    by_counted c.args.name.now c.args.object c.in_ok-entries.entries.text_end c.in_ok-entries.entries.named c.in-Ok.world _ c.in_ok-entries.ensures.text_end
    c.in_ok-entries.ensures.named c.in-Ok.ensures.found
    (c.printed.ensures ∙ ap (λ (z : List ℕ). printed DONE z) c.in_ok-check_text-in-Ok.ensures)

-- the refusal of an object, by the fault of its stabs
pub returns-in-Err-At : goal.returns-in-Err-At
returns-in-Err-At c =
    by_world_fault c.args.name.now c.args.object (Counts c.args.object) c.in-Err-At.fault c.refused.result
    (world_fault c.args.object c.in_ok-entries.entries.text_end c.in_ok-entries.entries.named c.in-Err-At.fault c.in_ok-entries.ensures.text_end c.in_ok-entries.ensures.named
    (c.in-Err-At.ensures.refused c.in-Err-At.fault (ap Err c.in-Err-At.field-0-is)))
    c.refused.ensures
