use Rattle.std.proofs.Common.{◌≡◌, drop}
use Rattle.command_line.specs.CommandWords as spec
use Rattle.command_line.proofs.words.first_no_text.Given as goal

-- the words from here on have the first that all have
abbrev pub invariant-loop-at : goal.invariant-loop-at
invariant-loop-at l = spec.first_no_text l.at (drop l.at l.words) ≡ spec.first_no_text l.from (drop l.from l.words)
