use Rattle.std.proofs.Common.{List, ◌++◌, drop}
use Rattle.bincl_match.specs.declared.range.RangeOf.{RangeOf}
use Rattle.aout_link.specs.Gathering.{AreAllFound}
use Rattle.aout_link.proofs.gathering.gather.Given as goal

-- with those of the objects that are left, whatever they are, these are all
abbrev pub invariant-loop-object : goal.invariant-loop-object
invariant-loop-object l = (more : List RangeOf) → AreAllFound (drop l.object-index l.objects) more → AreAllFound l.objects (l.out ++ more)
