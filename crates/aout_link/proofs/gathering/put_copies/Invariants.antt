use Rattle.std.proofs.Common.{◌≡◌, ◌++◌, take}
use Rattle.aout_link.proofs.gathering.put_copies.Given as goal

-- those so far stand behind the old ones
abbrev pub invariant-loop-range : goal.invariant-loop-range
invariant-loop-range l = l.out ≡ l.fn.out ++ take l.range-index l.ranges
