use Rattle.std.proofs.Common.{◌≡◌, drop}
use Rattle.unit_outlines.specs.Outlines.{end_of}
use Rattle.unit_outlines.proofs.spans.end_value.Given as goal

-- no entry so far ends the unit
abbrev pub invariant-loop-at : goal.invariant-loop-at
invariant-loop-at l = end_of l.fn.text_end (drop l.at l.rest) ≡ end_of l.fn.text_end l.rest
