use Rattle.std.proofs.Common.{take}
use Rattle.bincl_match.specs.Refining.{AreMarks}
use Rattle.bincl_match.proofs.prepare.prepare.Given as goal

-- the marks so far
abbrev pub invariant-loop-number : goal.invariant-loop-number
invariant-loop-number l = AreMarks l.ranges l.range.unit (take l.number-index l.range.numbers) l.marks
