use Rattle.std.proofs.Common.{◌≡◌, drop}
use Rattle.aout_object.specs.Decoding.{entries_fault}
use Rattle.aout_object.proofs.read.check_entries.Given as goal

-- what is left has the fault of the whole
abbrev pub invariant-loop-place : goal.invariant-loop-place
invariant-loop-place l = entries_fault l.strings l.place (drop l.place l.entries) ≡ entries_fault l.strings 0 l.entries
