use Rattle.std.proofs.Common.{◌≡◌, ◌+◌, drop, length}
use Rattle.unit_outlines.specs.Outlines.{inside}
use Rattle.unit_outlines.proofs.spans.inner_count.Given as goal

-- all entries so far stand inside
abbrev pub invariant-loop-at : goal.invariant-loop-at
invariant-loop-at l = l.at + length (inside (drop l.at l.rest)) ≡ length (inside l.rest)
