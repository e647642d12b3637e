use Rattle.std.proofs.Common.{◌≡◌, ◌++◌, drop, map}
use Rattle.unit_index.specs.Filling.{number_of, numbers_of}
use Rattle.unit_index.proofs.tables.numbers.Given as goal

-- the table so far, and the numbers of the files that are left
abbrev pub invariant-loop-owner : goal.invariant-loop-owner
invariant-loop-owner l = l.table ++ map (number_of l.owners) (drop l.owner-index l.kept) ≡ numbers_of l.owners l.kept
