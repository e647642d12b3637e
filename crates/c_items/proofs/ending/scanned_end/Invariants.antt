use Rattle.std.proofs.Common.{◌≡◌, ◌≤◌, ◌+◌, length}
use Rattle.c_items.specs.Steps.{scan, start}
use Rattle.c_items.specs.Ends.{behind}
use Rattle.c_items.proofs.ending.scanned_end.Given as goal

-- what is left has the rest that all has; no more is open than tokens are read
abbrev pub invariant-loop-token : goal.invariant-loop-token
invariant-loop-token l = record {
  whole : behind (scan l.state l.left) ≡ behind (scan start l.from);
  bodies : l.state.bodies + length l.left ≤ length l.from;
  blocks : l.state.blocks + length l.left ≤ length l.from;
}

abbrev pub decreases-loop-token : goal.decreases-loop-token
decreases-loop-token l = length l.left
