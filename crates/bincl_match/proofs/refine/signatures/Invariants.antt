use Rattle.std.proofs.Common.{ℕ}
use Rattle.bincl_match.specs.declared.prepared.Prepared.{Prepared}
use Rattle.bincl_match.specs.Refining.{signature}
use Rattle.bincl_match.proofs.KeyLemmas.{Keyed}
use Rattle.bincl_match.proofs.RefineLemmas.{KeyBy}
use Rattle.bincl_match.proofs.refine.signatures.Given as goal

-- the signatures so far
abbrev pub invariant-loop-i : goal.invariant-loop-i
invariant-loop-i l = Keyed (KeyBy (λ (i : ℕ) (p : Prepared). signature l.groups i p.marks) l.prepared) l.i l.keys
