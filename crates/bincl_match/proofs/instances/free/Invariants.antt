use Rattle.std.proofs.Common.{ℕ, ◌+◌, ◌-◌, ◌≤◌}
use Rattle.std.specs.HashSet.{hash_set_len}
use Rattle.bincl_match.specs.Crowding.{AreTried, has_instance}
use Rattle.bincl_match.proofs.instances.free.Given as goal

-- the numbers so far are taken
abbrev pub invariant-tries : goal.invariant-tries
invariant-tries l = record {
  room : l.tries ≤ hash_set_len l.taken;
  tried : AreTried (λ (v : ℕ). has_instance l.taken l.name v) l.sum l.tries;
}

abbrev pub decreases-tries : goal.decreases-tries
decreases-tries l = (hash_set_len l.taken + 1) - l.tries
