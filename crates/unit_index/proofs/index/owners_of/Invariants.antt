use Rattle.std.proofs.Common.{◌≡◌, ◌++◌, drop}
use Rattle.unit_index.specs.Owners.{rows_from, rows_of, fault_among}
use Rattle.unit_index.specs.Indexes.{owners_by}
use Rattle.unit_index.proofs.index.owners_of.Given as goal

-- the fault, and the owners, of the units that are left are those of all
abbrev pub invariant-loop-unit : goal.invariant-loop-unit
invariant-loop-unit l =
    (fault_among (rows_of l.outlines) (rows_from l.unit (drop l.unit l.outlines)) ≡ fault_among (rows_of l.outlines) (rows_of l.outlines))
    × (l.all ++ owners_by (rows_of l.outlines) l.unit (drop l.unit l.outlines) ≡ owners_by (rows_of l.outlines) 0 l.outlines)
