use Rattle.std.proofs.Common.{◌≡◌, List, ◌++◌, drop}
use Rattle.unit_index.specs.Owners.{Row, rows_from, rows_of}
use Rattle.unit_index.specs.LookingUp.{Sees}
use Rattle.unit_index.proofs.index.seen_headers.Given as goal

-- the headers of the units so far are noted
abbrev pub invariant-loop-unit : goal.invariant-loop-unit
invariant-loop-unit l = (before : List Row) × Sees l.seen before × (before ++ rows_from l.unit (drop l.unit l.outlines) ≡ rows_of l.outlines)
