use Rattle.std.proofs.Common.{◌≡◌, ◌++◌, drop}
use Rattle.bincl_match.proofs.range.copy_numbers.Given as goal

-- those so far, and those that are left, are all
abbrev pub invariant-loop-number : goal.invariant-loop-number
invariant-loop-number l = l.copied ++ drop l.number-index l.numbers ≡ l.fn.numbers
