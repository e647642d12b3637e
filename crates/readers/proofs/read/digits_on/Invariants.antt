use Rattle.std.proofs.Common.{◌≡◌, ◌≤◌, length}
use Rattle.readers.specs.Words as words
use Rattle.readers.proofs.read.digits_on.Given as goal

abbrev pub invariant-loop-rest : goal.invariant-loop-rest
invariant-loop-rest l = record { small : l.value ≤ l.limit; same : words.digits_on l.limit l.value l.rest ≡ words.digits_on l.limit l.first l.bytes }

abbrev pub decreases-loop-rest : goal.decreases-loop-rest
decreases-loop-rest l = length l.rest
