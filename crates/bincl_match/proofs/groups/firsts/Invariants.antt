use Rattle.std.proofs.Common.{ℕ, List}
use Rattle.bincl_match.specs.Crowding.{look}
use Rattle.bincl_match.proofs.FirstsLemmas.{FirstsSoFar}
use Rattle.bincl_match.proofs.groups.firsts.Given as goal

abbrev pub invariant-loop-i : goal.invariant-loop-i
invariant-loop-i l = FirstsSoFar l.keys (λ (q : List ℕ). look l.seen q) l.i l.out
