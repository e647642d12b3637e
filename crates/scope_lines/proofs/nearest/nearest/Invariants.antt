use Rattle.std.proofs.Common.{map, take}
use Rattle.scope_lines.specs.Nearest.{value_of}
use Rattle.scope_lines.proofs.NearestLemmas.{Best}
use Rattle.scope_lines.proofs.nearest.nearest.Given as goal

-- the best of what was read
abbrev pub invariant-loop-at : goal.invariant-loop-at
invariant-loop-at l = Best l.address (map (value_of l.sought) (take l.at l.body)) l.found
