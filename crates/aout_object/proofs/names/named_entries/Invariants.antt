use Rattle.std.proofs.Common.{◌≡◌, take}
use Rattle.aout_object.specs.Objects.{all_named}
use Rattle.aout_object.proofs.names.named_entries.Given as goal

-- the entries so far
abbrev pub invariant-loop-entry : goal.invariant-loop-entry
invariant-loop-entry l = l.named ≡ all_named l.strings (take l.entry-index l.entries)
