use Rattle.std.proofs.Common.{◌≡◌, ◌++◌, drop}
use Rattle.unit_outlines.specs.Runs.{joined}
use Rattle.stab_units.proofs.joined.push_joined.Given as goal

-- what is joined so far, and the rest, make the whole string
abbrev pub invariant-loop-at : goal.invariant-loop-at
invariant-loop-at l = l.text ++ joined (drop l.at l.rest) ≡ l.fn.text ++ joined l.rest
