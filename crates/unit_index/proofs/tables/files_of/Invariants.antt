use Rattle.std.proofs.Common.{take}
use Rattle.unit_index.specs.Filling.{Finds}
use Rattle.unit_index.proofs.tables.files_of.Given as goal

-- the headers so far are noted
abbrev pub invariant-loop-owner : goal.invariant-loop-owner
invariant-loop-owner l = Finds l.files (take l.owner-index l.owners)
