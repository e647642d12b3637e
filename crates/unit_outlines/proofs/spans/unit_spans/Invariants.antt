use Rattle.std.proofs.Common.{◌≡◌, ◌++◌, drop}
use Rattle.unit_outlines.specs.Outlines.{units_from, units_of}
use Rattle.unit_outlines.proofs.spans.unit_spans.Given as goal

-- the units so far, and those of the entries left, are all
abbrev pub invariant-loop-at : goal.invariant-loop-at
invariant-loop-at l = l.units ++ units_from l.fn.text_end l.directory l.at (drop l.at l.entries) ≡ units_of l.fn.text_end l.entries
