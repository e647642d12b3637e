use Rattle.std.proofs.Common.{ℕ}
use Rattle.bincl_match.specs.declared.prepared.Prepared.{Prepared}
use Rattle.bincl_match.specs.Refining.{start_key}
use Rattle.bincl_match.proofs.KeyLemmas.{Keyed}
use Rattle.bincl_match.proofs.RefineLemmas.{KeyBy}
use Rattle.bincl_match.proofs.refine.start_keys.Given as goal

-- the keys so far
abbrev pub invariant-loop-i : goal.invariant-loop-i
invariant-loop-i l = Keyed (KeyBy (λ (i : ℕ) (p : Prepared). start_key l.groups i p.lone) l.prepared) l.i l.keys
