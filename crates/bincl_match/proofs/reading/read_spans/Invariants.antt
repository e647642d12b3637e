use Rattle.std.proofs.Common.{drop}
use Rattle.bincl_match.specs.Reading.{HaveRanges}
use Rattle.bincl_match.proofs.reading.read_spans.Given as goal

-- the spans so far are read
abbrev pub invariant-loop-number : goal.invariant-loop-number
invariant-loop-number g l = HaveRanges l.entries l.spans (drop l.number l.spans) l.number l.fn.steps l.ranges l.steps
