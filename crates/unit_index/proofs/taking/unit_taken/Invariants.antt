use Rattle.std.proofs.Common.{◌≡◌, ◌++◌, drop}
use Rattle.unit_index.specs.Filling.{taken_from, AreTables}
use Rattle.unit_index.proofs.taking.unit_taken.Given as goal

-- the tables so far are right, and so are the lists
abbrev pub invariant-loop-at : goal.invariant-loop-at
invariant-loop-at l = AreTables l.all l.owners l.tables
    × (l.lists ++ taken_from l.all l.units l.owners (drop l.at l.headers) (drop l.at l.owners) ≡ taken_from l.all l.units l.owners l.headers l.owners)
