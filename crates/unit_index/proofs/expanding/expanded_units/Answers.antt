use Rattle.std.proofs.Common.{subst, sym, ◌∙◌}
use Rattle.unit_index.specs.Indexes.{AsMany}
use Rattle.unit_index.specs.Filling.{AreLists}
use Rattle.unit_index.proofs.FillLemmas.{lists_are}
use Rattle.unit_index.proofs.expanding.expanded_units.Goals as goal

-- there is a list for each header of each unit
pub filled_units-requires-clause-lists : goal.filled_units-requires-clause-lists
filled_units-requires-clause-lists c =
    let spans = c.items-outlines.ensures ∙ c.outlines.ensures in
    let owners = c.items.ensures ∙ c.owners.ensures in
    subst (λ z. AreLists c.items-outlines.result.now z) (sym c.in_ok-lists.ensures)
    (lists_are c.items.result.now c.items-2.result.now c.items-outlines.result.now c.items.result.now
    (subst (λ z. AsMany z c.items.result.now) (sym spans) (subst (λ z. AsMany c.args.index.now.outlines z) (sym owners) c.requires.many)))
