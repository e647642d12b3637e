use Rattle.std.proofs.Common.{◌≡◌, ◌+◌, List, ◌++◌, drop}
use Rattle.unit_index.specs.Owners.{Row, unit_rows}
use Rattle.unit_index.specs.LookingUp.{Sees}
use Rattle.unit_index.proofs.index.note_all.Given as goal

-- the headers so far are noted after those that were
abbrev pub invariant-loop-at : goal.invariant-loop-at
invariant-loop-at l = (rows : List Row) → Sees l.initial.seen rows
    → (before : List Row) × Sees l.seen before × (before ++ unit_rows l.unit (l.at + 1) (drop l.at l.headers) ≡ rows ++ unit_rows l.unit 1 l.headers)
