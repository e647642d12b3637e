use Rattle.std.proofs.Common.{◌≡◌, ◌+◌, drop}
use Rattle.unit_outlines.specs.Outlines.{past_of}
use Rattle.unit_outlines.proofs.spans.past_count.Given as goal

-- all entries so far belong to the unit
abbrev pub invariant-loop-at : goal.invariant-loop-at
invariant-loop-at l = l.at + past_of (drop l.at l.rest) ≡ past_of l.rest
