use Rattle.std.proofs.Common.{◌≡◌, ◌++◌, drop}
use Rattle.bincl_match.proofs.unit_ranges.put_numbers.Given as goal

-- the files so far, and those left, are all
abbrev pub invariant-loop-file : goal.invariant-loop-file
invariant-loop-file l = l.out ++ drop l.file-index l.files ≡ l.fn.out ++ l.files
