use Rattle.std.proofs.Common.{◌≡◌}
use Rattle.readers.specs.Words as words
use Rattle.readers.proofs.Turns.{name_from}
use Rattle.readers.proofs.read.name_at.Given as goal

-- what reading from here gives, after the bytes before, is what reading from the start gives
abbrev pub invariant-loop-at : goal.invariant-loop-at
invariant-loop-at l = name_from (words.not_in_name l.barred) l.end l.at l.bytes ≡ words.name_at (words.not_in_name l.barred) l.end l.bytes
