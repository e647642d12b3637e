use Rattle.std.proofs.Common.{◌≡◌, ◌≤◌, ◌+◌, ◌-◌, length}
use Rattle.readers.specs.Words as words
use Rattle.readers.proofs.Turns.{run_from}
use Rattle.readers.proofs.read.digits_at.Given as goal

-- what reading from here gives, after the bytes before, is what reading from the start gives
abbrev pub invariant-loop-at : goal.invariant-loop-at
invariant-loop-at l = record { some : 1 ≤ l.at; few : l.at ≤ l.more + 1; within : l.at ≤ length l.bytes; same : run_from words.is_digit (l.more + 1 - l.at) l.at l.bytes ≡ words.run_at words.is_digit l.more l.bytes }

abbrev pub decreases-loop-at : goal.decreases-loop-at
decreases-loop-at l = l.more + 1 - l.at
