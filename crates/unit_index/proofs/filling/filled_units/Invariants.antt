use Rattle.unit_index.specs.Filling.{units_with}
use Rattle.unit_index.proofs.FillLemmas.{UnitsUpTo}
use Rattle.unit_index.proofs.filling.filled_units.Given as goal

-- the units so far are filled
abbrev pub invariant-loop-at : goal.invariant-loop-at
invariant-loop-at l = UnitsUpTo l.units l.outlines l.lists l.at (units_with l.outlines l.fn.units l.fn.lists)
