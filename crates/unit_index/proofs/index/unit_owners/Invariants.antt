use Rattle.std.proofs.Common.{◌≡◌, ◌+◌, ◌++◌, drop, map}
use Rattle.unit_index.specs.Owners.{unit_rows, rows_of, owner_in, fault_among}
use Rattle.unit_index.proofs.index.unit_owners.Given as goal

-- the fault, and the owners, of what is left are those of all
abbrev pub invariant-loop-at : goal.invariant-loop-at
invariant-loop-at l =
    (fault_among (rows_of l.outlines) (unit_rows l.unit (l.at + 1) (drop l.at l.headers)) ≡ fault_among (rows_of l.outlines) (unit_rows l.unit 1 l.headers))
    × (l.owners ++ map (owner_in (rows_of l.outlines)) (unit_rows l.unit (l.at + 1) (drop l.at l.headers)) ≡ map (owner_in (rows_of l.outlines)) (unit_rows l.unit 1 l.headers))
