use Rattle.std.proofs.Common.{◌≡◌, ◌+◌, ℕ, List, arith, length, subst, sym}
use Rattle.std.specs.HashMap.{hash_map_len}
use Rattle.bincl_match.specs.Crowding.{look}
use Rattle.bincl_match.proofs.KeyLemmas.{KeyAt, Keyed, key_here, keyed_more, keyed_on, keys_all}
use Rattle.bincl_match.proofs.groups.keys_of.Goals as goal

-- one key more
pub loop-i-preserved : goal.loop-i-preserved
loop-i-preserved c =
    let rs = c.args.ranges.now in
    let old = λ (t : List ℕ). look c.loop-i.seen t in
    let new = λ (t : List ℕ). look c.key_of.new.seen t in
    record {
      numbering = c.in_ok-key.ensures.numbering;
      keyed = subst (λ (z : List (List ℕ)). Keyed (KeyAt rs new) (c.loop-i.i + 1) z) (sym c.in_ok-push.ensures.ok)
          (keyed_more (KeyAt rs new) c.loop-i.i c.loop-i.keys c.in_ok-key.key (keyed_on rs old new c.loop-i.i c.loop-i.keys c.in_ok-key.ensures.grows c.loop-i.invariant.keyed)
          (key_here rs new c.loop-i.i c.in_ok-key.key c.index-ranges-i.result c.loop-i-test.true c.index-ranges-i.is c.in_ok-key.ensures.key));
    }

-- a key for each range
pub returns : goal.returns
returns c =
    let e : c.loop-i.i ≡ length c.args.ranges.now = omega arith in
    let find = λ (t : List ℕ). look c.loop-i.seen t in
    keys_all c.args.ranges.now find (hash_map_len c.loop-i.seen) c.loop-i.keys c.loop-i.invariant.numbering
    (subst (λ (n : ℕ). Keyed (KeyAt c.args.ranges.now find) n c.loop-i.keys) e c.loop-i.invariant.keyed)
