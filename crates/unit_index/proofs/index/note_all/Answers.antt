use Rattle.std.proofs.Common.{◌+◌, ◌++◌, ◌∷◌, [], subst}
use Rattle.unit_index.specs.Owners.{row_at, unit_rows}
use Rattle.unit_index.specs.LookingUp.{Sees}
use Rattle.unit_index.proofs.WalkLemmas.{rows_step, rows_end}
use Rattle.unit_index.proofs.index.note_all.Goals as goal

-- one header more
pub loop-at-preserved : goal.loop-at-preserved
loop-at-preserved c = λ rows sees.
    let b = c.loop-at.invariant rows sees in
    let h = c.index-headers-at.result in (
      b.0 ++ row_at c.args.unit (c.loop-at.at + 1) h ∷ [],
      c.in_ok-note.ensures b.0 b.1,
      rows_step (rows ++ unit_rows c.args.unit 1 c.args.headers.now) b.0 c.args.unit c.loop-at.at c.args.headers.now h c.loop-at-test.true c.index-headers-at.is b.2,
    )

-- none is left
pub returns : goal.returns
returns c = λ rows sees.
    let b = c.loop-at.invariant rows sees in
    subst (λ z. Sees c.loop-at.seen z) (rows_end (rows ++ unit_rows c.args.unit 1 c.args.headers.now) b.0 c.args.unit c.loop-at.at c.args.headers.now c.loop-at-test.false b.2) b.1
