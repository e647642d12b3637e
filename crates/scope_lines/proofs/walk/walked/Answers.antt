use Rattle.std.proofs.Common.{◌∙◌, ap}
use Rattle.scope_lines.specs.declared.role.Role.{Role}
use Rattle.scope_lines.specs.Walks.{stepped}
use Rattle.scope_lines.proofs.WalkLemmas.{Walking_more}
use Rattle.scope_lines.proofs.walk.walked.Goals as goal

pub loop-at-preserved : goal.loop-at-preserved
loop-at-preserved c = Walking_more c.args.asked c.args.body.now c.loop-at.at c.index-body-at.result c.loop-at.found.items c.taken-behind.new.found.items c.taken-behind.result c.loop-at.walk c.step.new.walk
    c.loop-at-test.true c.index-body-at.is c.taken-behind.ensures
    (c.in_ok-step.ensures ∙ ap (λ (r : Role). stepped c.args.asked c.loop-at.walk c.loop-at.at r c.taken-behind.result) c.item_role.ensures) c.loop-at.invariant
