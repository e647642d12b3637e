use Rattle.std.proofs.Common.{◌+◌, ◌++◌, drop, sym, ap, ◌∙◌}
use Rattle.std.proofs.lemmas.Result.{err_from_is_err_and}
use Rattle.unit_outlines.specs.declared.outline_types.UnitSpan.{UnitSpan}
use Rattle.unit_index.specs.Owners.{rows_of}
use Rattle.unit_index.specs.Indexes.{owners_by}
use Rattle.unit_index.proofs.WalkLemmas.{fault_next, owners_next, refused_here}
use Rattle.unit_index.proofs.index.owners_of.Goals as goal

-- a unit is refused
pub returns-in_err-owners : goal.returns-in_err-owners
returns-in_err-owners c =
    let p = err_from_is_err_and c.from_residual-in_err-owners.result c.from_residual-in_err-owners.ensures.1 in
    let h = c.items.ensures ∙ ap (λ (z : UnitSpan). z.headers) (sym c.index-outlines-unit.is) in
    refused_here c.args.outlines.now c.loop-unit.unit c.index-outlines-unit.result c.items.result.now c.from_residual-in_err-owners.result c.in_err-owners.field-0.0 p.0
    c.loop-unit-test.true c.index-outlines-unit.is h p.1 p.2 c.in_err-owners.ensures c.loop-unit.invariant.0

-- one unit more
pub loop-unit-preserved : goal.loop-unit-preserved
loop-unit-preserved c =
    let s = c.index-outlines-unit.result in
    let h = c.items.ensures ∙ ap (λ (z : UnitSpan). z.headers) (sym c.index-outlines-unit.is) in
    let rows = rows_of c.args.outlines.now in (
      fault_next rows c.args.outlines.now c.loop-unit.unit s c.items.result.now _ c.loop-unit-test.true c.index-outlines-unit.is h c.in_ok-owners.ensures.0 c.loop-unit.invariant.0,
      ap (λ z. z ++ owners_by rows (c.loop-unit.unit + 1) (drop (c.loop-unit.unit + 1) c.args.outlines.now)) c.in_ok-push.ensures.ok
          ∙ owners_next rows c.args.outlines.now c.loop-unit.unit s c.items.result.now c.loop-unit.all _ c.in_ok-owners.owners c.loop-unit-test.true c.index-outlines-unit.is h c.in_ok-owners.ensures.1 c.loop-unit.invariant.1,
    )
