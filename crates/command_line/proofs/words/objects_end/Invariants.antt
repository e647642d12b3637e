use Rattle.std.proofs.Common.{◌≡◌, drop}
use Rattle.command_line.specs.CommandWords as spec
use Rattle.command_line.proofs.words.objects_end.Given as goal

-- objects end from here on where all do
abbrev pub invariant-loop-at : goal.invariant-loop-at
invariant-loop-at l = spec.objects_end l.at (drop l.at l.words) ≡ spec.objects_end l.from (drop l.from l.words)
