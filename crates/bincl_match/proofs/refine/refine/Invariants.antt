use Rattle.bincl_match.specs.Refining.{AreRefined, room}
use Rattle.bincl_match.proofs.refine.refine.Given as goal

-- no pair of a matching was split
abbrev pub invariant-loop-groups : goal.invariant-loop-groups
invariant-loop-groups l = AreRefined l.ranges l.prepared l.groups

abbrev pub decreases-loop-groups : goal.decreases-loop-groups
decreases-loop-groups l = room l.groups
