use Rattle.std.proofs.Common.{◌≡◌, ◌++◌, drop}
use Rattle.unit_outlines.specs.EntryWords.{behind_first}
use Rattle.bincl_match.specs.Reading.{ready_ranges}
use Rattle.bincl_match.proofs.unit_ranges.put_headers.Given as goal

-- the ranges so far, and those of the files left, are all
abbrev pub invariant-loop-file : goal.invariant-loop-file
invariant-loop-file l = l.out ++ ready_ranges l.unit l.file (drop l.file l.files) l.ready ≡ l.fn.out ++ ready_ranges l.unit 1 (behind_first l.files) l.ready
