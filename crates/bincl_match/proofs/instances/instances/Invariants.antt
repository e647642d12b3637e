use Rattle.std.proofs.Common.{ℕ, List}
use Rattle.std.specs.HashSet.{hash_set_len}
use Rattle.bincl_match.specs.Crowding.{has_instance, look_sum}
use Rattle.bincl_match.proofs.FreeLemmas.{KnowsTried}
use Rattle.bincl_match.proofs.InstanceLemmas.{InstancesSoFar}
use Rattle.bincl_match.proofs.instances.instances.Given as goal

-- the instances so far
abbrev pub invariant-loop-i : goal.invariant-loop-i
invariant-loop-i l = record {
  so_far : InstancesSoFar l.ranges l.kept l.i l.out (λ (n : List ℕ) (v : ℕ). has_instance l.taken n v) (hash_set_len l.taken);
  knows : KnowsTried (λ (n : List ℕ) (v : ℕ). has_instance l.taken n v) (λ (n : List ℕ) (s : ℕ). look_sum l.tried n s);
}
