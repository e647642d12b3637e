use Rattle.std.proofs.Common.{ap, subst, ◌∙◌}
use Rattle.c_items.specs.Steps.{start}
use Rattle.c_items.specs.Acting.{Did, all_acted, acts_from}
use Rattle.c_items.proofs.ActLemmas.{item_acts_from}
use Rattle.c_items.proofs.acting.walk.Goals as goal

-- the roles that the machine gives are those of the item
pub returns-clause-of_item : goal.returns-clause-of_item
returns-clause-of_item g c = λ it rest begins.
    subst (λ ws. Did (all_acted g.A.Actor.acts ws c.args.actor.now) c.walk_tokens.new.actor c.walk_tokens.result) (ap (λ ts. acts_from start ts) begins ∙ item_acts_from it rest)
    c.walk_tokens.ensures
