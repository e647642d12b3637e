use Rattle.std.proofs.Common.{◌+◌, ◌++◌, ◌&&◌, [], drop, refl, sym, ap, ◌∙◌, ℕ, List, subst}
use Rattle.std.specs.Prelude.{nat_eq}
use Rattle.std.specs.Cmp.Lexicographic.{pointwise}
use Rattle.std.specs.Map.{lookup}
use denote.Ref.{Bor}
use Rattle.unit_outlines.specs.declared.outline_types.UnitSpan.{UnitSpan}
use Rattle.unit_index.specs.Owners.{unit_rows, rows_from, rows_of}
use Rattle.unit_index.specs.LookingUp.{Sees}
use Rattle.unit_index.proofs.WalkLemmas.{units_step, units_end}
use Rattle.unit_index.proofs.index.seen_headers.Goals as goal

-- an empty map has no headers
pub loop-unit-init : goal.loop-unit-init
loop-unit-init c = ([], (λ name v. ap (lookup (λ (k : Bor (List ℕ) × ℕ). pointwise nat_eq name k.0.now && nat_eq v k.1)) c.new-seen.ensures.empty), refl)

-- one unit more
pub loop-unit-preserved : goal.loop-unit-preserved
loop-unit-preserved c =
    let b = c.loop-unit.invariant in
    let s = c.index-outlines-unit.result in
    let h = c.items.ensures ∙ ap (λ (z : UnitSpan). z.headers) (sym c.index-outlines-unit.is) in (
      b.0 ++ unit_rows c.loop-unit.unit 1 c.items.result.now,
      c.in_ok-note_all.ensures b.0 b.1,
      ap (λ z. (b.0 ++ unit_rows c.loop-unit.unit 1 z) ++ rows_from (c.loop-unit.unit + 1) (drop (c.loop-unit.unit + 1) c.args.outlines.now)) h
          ∙ units_step (rows_of c.args.outlines.now) b.0 c.args.outlines.now c.loop-unit.unit s c.loop-unit-test.true c.index-outlines-unit.is b.2,
    )

-- none is left
pub returns : goal.returns
returns c =
    let b = c.loop-unit.invariant in
    subst (λ z. Sees c.loop-unit.seen z) (units_end (rows_of c.args.outlines.now) b.0 c.args.outlines.now c.loop-unit.unit c.loop-unit-test.false b.2) b.1
