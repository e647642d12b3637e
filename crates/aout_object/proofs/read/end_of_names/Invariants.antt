use Rattle.std.proofs.Common.{ℕ, ◌≤◌, ◌<◌, ◌≢◌, length, get_or}
use Rattle.aout_object.proofs.read.end_of_names.Given as goal

-- no zero byte stands after the place
abbrev pub invariant-loop-end : goal.invariant-loop-end
invariant-loop-end l = (l.end ≤ length l.strings) × ((place : ℕ) → l.end ≤ place → place < length l.strings → get_or l.strings place 0 ≢ 0)

-- the place goes down
abbrev pub decreases-loop-end : goal.decreases-loop-end
decreases-loop-end l = l.end
