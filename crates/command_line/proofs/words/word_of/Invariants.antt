use Rattle.std.proofs.Common.{◌≡◌, drop}
use Rattle.command_line.specs.CommandWords as spec
use Rattle.command_line.proofs.words.word_of.Given as goal

-- the operand is among the places and words from here on
abbrev pub invariant-loop-at : goal.invariant-loop-at
invariant-loop-at l = spec.word_of l.operand (drop l.at l.places) (drop l.at l.words) ≡ spec.word_of l.operand l.places l.words
