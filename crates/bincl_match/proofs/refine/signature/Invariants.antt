use Rattle.std.proofs.Common.{◌≡◌, ◌∷◌, map, take, get_or}
use Rattle.bincl_match.specs.Refining.{group_of}
use Rattle.bincl_match.proofs.refine.signature.Given as goal

-- what the marks so far are
abbrev pub invariant-loop-mark : goal.invariant-loop-mark
invariant-loop-mark l = l.key ≡ get_or l.groups l.place 0 ∷ map (group_of l.groups) (take l.mark-index l.marks)
