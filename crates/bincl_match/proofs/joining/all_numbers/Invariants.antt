use Rattle.std.proofs.Common.{◌≡◌, ◌++◌, drop}
use Rattle.bincl_match.specs.Reading.{unit_numbers}
use Rattle.bincl_match.proofs.joining.all_numbers.Given as goal

-- the numbers so far, and those of the spans that are left, are all
abbrev pub invariant-loop-number : goal.invariant-loop-number
invariant-loop-number l = l.out ++ unit_numbers l.number (drop l.number l.spans) ≡ unit_numbers 0 l.spans
