use Rattle.std.proofs.Common.{◌≡◌, ◌+◌, drop}
use Rattle.unit_outlines.specs.Sweeps.{Closed}
use Rattle.unit_outlines.proofs.closings.range_ends.Given as goal

-- what is kept is that of the entries from the place on
abbrev pub invariant-loop-at : goal.invariant-loop-at
invariant-loop-at l = record {
  counted : l.behind ≡ l.first + l.at;
  closed : Closed l.behind (drop l.at l.entries) l.closings;
}
