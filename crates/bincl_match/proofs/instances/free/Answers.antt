use Rattle.std.proofs.Common.{◌≡◌, ◌+◌, ◌≤◌, ◌%◌, ◌^◌, arith, true, below_more, sym, ◌∙◌}
use Rattle.std.specs.HashSet.{hash_set_len}
use Rattle.bincl_match.specs.Crowding.{has_instance}
use Rattle.bincl_match.proofs.FreeLemmas.{tries_within}
use Rattle.bincl_match.proofs.instances.free.Goals as goal

-- no more numbers are taken than the set has
pub tries-init : goal.tries-init
tries-init c = record {
  room = tries_within c.args.taken.now.keys c.args.name.now c.args.sum c.args.first (omega arith) c.requires.tried;
  tried = c.requires.tried;
}

-- one number more is taken
pub overflow_add-tries : goal.overflow_add-tries
overflow_add-tries c =
    let all = below_more (λ e. has_instance c.args.taken.now c.args.name.now ((c.args.sum + e) % 2 ^ 32) ≡ true) c.tries.tries c.tries.invariant.tried (sym c.contains.ensures ∙ c.if-not-contains.false) in
    let n : c.tries.tries + 1 ≤ hash_set_len c.args.taken.now = tries_within c.args.taken.now.keys c.args.name.now c.args.sum (c.tries.tries + 1) (omega arith) all in
    omega arith

pub tries-preserved : goal.tries-preserved
tries-preserved c =
    let all = below_more (λ e. has_instance c.args.taken.now c.args.name.now ((c.args.sum + e) % 2 ^ 32) ≡ true) c.tries.tries c.tries.invariant.tried (sym c.contains.ensures ∙ c.if-not-contains.false) in
    let n : c.tries.tries + 1 ≤ hash_set_len c.args.taken.now = tries_within c.args.taken.now.keys c.args.name.now c.args.sum (c.tries.tries + 1) (omega arith) all in
    record { room = n; tried = all }
