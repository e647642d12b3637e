use Rattle.std.proofs.Common.{◌≡◌, ◌++◌, drop}
use Rattle.unit_index.specs.Indexes.{AsMany}
use Rattle.unit_index.specs.Filling.{all_taken}
use Rattle.unit_index.proofs.taking.all_taken.Given as goal

-- the lists so far, and those of the units that are left
abbrev pub invariant-loop-unit : goal.invariant-loop-unit
invariant-loop-unit l = AsMany (drop l.unit l.outlines) (drop l.unit l.all)
    × (l.lists ++ all_taken l.all l.units (drop l.unit l.outlines) (drop l.unit l.all) ≡ all_taken l.all l.units l.outlines l.all)
