use Rattle.std.proofs.Common.{◌+◌, sym, ap, ◌∙◌, length}
use Rattle.unit_outlines.specs.declared.outline_types.UnitSpan.{UnitSpan}
use Rattle.unit_index.specs.Filling.{units_with}
use Rattle.unit_index.proofs.FillLemmas.{units_start, units_next, full_at, lists_at}
use Rattle.unit_index.proofs.filling.filled_units.Goals as goal

-- none is filled yet
pub loop-at-init : goal.loop-at-init
loop-at-init c = units_start c.args.units c.args.outlines.now c.args.lists c.requires.full c.requires.lists

-- the unit has a file for each header
pub filled_unit-filled-requires-clause-files : goal.filled_unit-filled-requires-clause-files
filled_unit-filled-requires-clause-files c =
    let h = c.items.ensures ∙ ap (λ (z : UnitSpan). z.headers) (sym c.index-outlines-at.is) in
    (full_at c.args.outlines.now c.loop-at.units c.loop-at.at c.index-outlines-at.result c.replace-unit.result c.loop-at-test.true c.index-outlines-at.is c.replace-unit.ensures.old c.loop-at.invariant.full).0
    ∙ ap (λ z. length z + 1) (sym h)

-- and there is a list for each
pub filled_unit-filled-requires-clause-lists : goal.filled_unit-filled-requires-clause-lists
filled_unit-filled-requires-clause-lists c =
    let h = c.items.ensures ∙ ap (λ (z : UnitSpan). z.headers) (sym c.index-outlines-at.is) in
    (lists_at c.args.outlines.now c.loop-at.lists c.loop-at.at c.index-outlines-at.result c.replace-taken.result c.loop-at-test.true c.index-outlines-at.is c.replace-taken.ensures.old c.loop-at.invariant.many).0
    ∙ ap length (sym h)

-- one unit more
pub loop-at-preserved : goal.loop-at-preserved
loop-at-preserved c =
    let h = c.items.ensures ∙ ap (λ (z : UnitSpan). z.headers) (sym c.index-outlines-at.is) in
    units_next (units_with c.args.outlines.now c.args.units c.args.lists) c.loop-at.units c.replace-unit.new.self c.replace-blank.new.self c.args.outlines.now c.loop-at.lists c.replace-taken.new.self c.loop-at.at
    c.replace-unit.result c.filled_unit-filled.result c.blank_unit.result c.replace-taken.result c.new.result c.index-outlines-at.result c.items.result.now
    c.loop-at-test.true c.replace-unit.ensures.old c.replace-taken.ensures.old c.index-outlines-at.is h c.replace-unit.ensures.new c.replace-blank.ensures.new c.replace-taken.ensures.new c.filled_unit-filled.ensures
    c.loop-at.invariant
