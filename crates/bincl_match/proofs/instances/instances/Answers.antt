use Rattle.std.proofs.Common.{◌≡◌, ℕ, List, ◌+◌, ◌%◌, ◌^◌, refl, ap, get_or, arith}
use Rattle.std.specs.HashSet.{hash_set_len}
use Rattle.bincl_match.specs.Crowding.{has_instance, look_sum}
use Rattle.bincl_match.proofs.FreeLemmas.{first_free, tried_by, tried_more}
use Rattle.bincl_match.proofs.InstanceLemmas.{one_more, other_more, own_step}
use Rattle.bincl_match.proofs.instances.instances.Goals as goal

-- a range that is not kept
pub loop-i-preserved-then-first-i : goal.loop-i-preserved-then-first-i
loop-i-preserved-then-first-i c =
    let h = other_more c.args.ranges.now c.args.kept.now c.loop-i.i c.loop-i.out (λ n v. has_instance c.loop-i.taken n v) (hash_set_len c.loop-i.taken)
    (get_or c.items.result.now (get_or c.args.kept.now c.loop-i.i 0) 0) c.requires.low c.if-first-i.true (ap (λ z. get_or z (get_or c.args.kept.now c.loop-i.i 0) 0) c.items.ensures) c.loop-i.invariant.so_far in
    record { so_far = rw c.in_ok-push.ensures.ok h; knows = c.loop-i.invariant.knows }

-- what was tried for the name and the sum is taken
pub free-tries-requires-clause-tried : goal.free-tries-requires-clause-tried
free-tries-requires-clause-tried c =
    tried_by (λ n v. has_instance c.loop-i.taken n v) (λ n s. look_sum c.loop-i.tried n s) c.bytes-name.result.now c.index-ranges-i.result.sum _ c.first_try-first_try.result
    c.loop-i.invariant.knows refl c.first_try-first_try.ensures

-- a kept range
pub loop-i-preserved : goal.loop-i-preserved
loop-i-preserved c =
    let rs = c.args.ranges.now in
    let x = c.index-ranges-i.result in
    let key = c.bytes-name.result.now in
    let d = c.free-tries.result in
    let w = (x.sum + d) % 2 ^ 32 in
    let found = λ (n : List ℕ) (v : ℕ). has_instance c.loop-i.taken n v in
    let new = λ (n : List ℕ) (v : ℕ). has_instance c.insert.new.self n v in
    let k : get_or c.args.kept.now c.loop-i.i 0 ≡ c.loop-i.i = omega (arith, c.requires.low c.loop-i.i) in
    let news = λ (n : List ℕ) (v : ℕ). c.in_ok-insert.ensures.updates.0 (record { ref_ptr = (0, 0); now = n }, v) in
    let h = own_step rs c.args.kept.now c.loop-i.i c.loop-i.out found new (hash_set_len c.loop-i.taken) (hash_set_len c.insert.new.self) w x key c.bytes-name.ensures c.requires.low k c.loop-i-test.true c.index-ranges-i.is
    (first_free (found key) x.sum d w refl c.free-tries.ensures.free c.free-tries.ensures.tried) news (one_more _ _ _ c.in_ok-insert.ensures.len) c.loop-i.invariant.so_far in
    record {
      so_far = rw c.in_ok-push-2.ensures.ok h;
      knows = tried_more found new (λ n s. look_sum c.loop-i.tried n s) (λ n s. look_sum c.insert-in-loop-i.new.self n s) key x.sum d w c.loop-i.invariant.knows c.free-tries.ensures.tried news
          (λ n s. c.in_ok-insert-2.ensures.updates.0 (record { ref_ptr = (0, 0); now = n }, s));
    }
