use Rattle.std.proofs.Common.{subst, ◌∙◌}
use Rattle.stab_units.specs.Units.{AreUnitsOf}
use Rattle.unit_index.proofs.ExpandLemmas.{index_many, index_full, is_expanded}
use Rattle.unit_index.proofs.expanding.expand.Goals as goal

pub expanded_units-requires-clause-many : goal.expanded_units-requires-clause-many
expanded_units-requires-clause-many g c = index_many c.args.text_end c.args.entries.now c.in-Ok.index c.in-Ok.ensures.found

pub expanded_units-requires-clause-full : goal.expanded_units-requires-clause-full
expanded_units-requires-clause-full g c =
    index_full c.args.text_end c.args.entries.now c.in-Ok.index c.in-Ok.ensures.found c.in-Ok-read_spans.units
    (subst (λ z. AreUnitsOf c.args.entries.now z c.in-Ok-read_spans.units) (c.items.ensures ∙ c.outlines.ensures) c.in-Ok-read_spans.ensures.found)

pub returns-clause-found : goal.returns-clause-found
returns-clause-found g c =
    is_expanded c.args.text_end c.args.entries.now c.in-Ok.index c.in-Ok.ensures.found c.in-Ok-read_spans.units c.in_ok-expanded_units.field-0 c.in_ok-externals.field-0
    (subst (λ z. AreUnitsOf c.args.entries.now z c.in-Ok-read_spans.units) (c.items.ensures ∙ c.outlines.ensures) c.in-Ok-read_spans.ensures.found)
    c.in_ok-expanded_units.ensures c.in_ok-externals.ensures
