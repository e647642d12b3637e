use Rattle.std.proofs.Common.{◌≡◌, ◌++◌, drop}
use Rattle.command_line.proofs.command.put_words.Given as goal

-- the words so far and those from here on are all words
abbrev pub invariant-loop-at : goal.invariant-loop-at
invariant-loop-at l = l.out ++ drop l.at l.words ≡ l.initial.out ++ drop l.from l.words
