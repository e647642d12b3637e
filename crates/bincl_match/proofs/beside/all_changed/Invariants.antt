use Rattle.std.proofs.Common.{◌≡◌, ◌++◌, drop, length}
use Rattle.bincl_match.specs.Reading.{beside}
use Rattle.bincl_match.proofs.beside.all_changed.Given as goal

-- the ranges so far, and those left, are all
abbrev pub invariant-loop-at : goal.invariant-loop-at
invariant-loop-at g l = record {
  count : length l.ranges ≡ length l.changes;
  whole : l.out ++ beside g.B.Beside.changes (drop l.at l.ranges) (drop l.at l.changes) ≡ beside g.B.Beside.changes l.fn.ranges l.changes;
}
