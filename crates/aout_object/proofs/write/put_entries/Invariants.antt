use Rattle.std.proofs.Common.{◌≡◌, ◌++◌, take}
use Rattle.aout_object.specs.Objects.{entries_bytes}
use Rattle.aout_object.specs.contracts.write.put_entries.{BIG-type}
use denote.Param.{number}
use Rattle.aout_object.proofs.write.put_entries.Given as goal

-- the entries so far were put
abbrev pub invariant-loop-entry : goal.invariant-loop-entry
invariant-loop-entry g l = l.out ≡ l.initial.out ++ entries_bytes (BIG-type (number g.row.BIG)) (take l.entry-index l.entries)
