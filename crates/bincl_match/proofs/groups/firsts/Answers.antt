use Rattle.std.proofs.Common.{◌≡◌, sym, ℕ, List, get_or, subst}
use Rattle.bincl_match.specs.Crowding.{look}
use Rattle.bincl_match.proofs.FirstsLemmas.{firsts_step, FirstsSoFar}
use Rattle.bincl_match.proofs.groups.firsts.Goals as goal

pub loop-i-preserved : goal.loop-i-preserved
loop-i-preserved c =
    let before = λ (q : List ℕ). look c.loop-i.seen q in
    let after = λ (q : List ℕ). look c.first_seen.new.seen q in
    let is : c.items.result.now ≡ get_or c.args.keys.now c.loop-i.i c.items.result.now = let R : List ℕ → Type 0 = λ x. x ≡ get_or c.args.keys.now c.loop-i.i x in subst R (sym c.items.ensures) c.index-keys-i.is in
    let h : FirstsSoFar c.args.keys.now after _ _ = firsts_step c.args.keys.now before after c.loop-i.i c.loop-i.out c.in_ok-first.first c.items.result.now c.loop-i.invariant c.loop-i-test.true is c.in_ok-first.ensures.noted c.in_ok-first.ensures.found in
    rw c.in_ok-push.ensures.ok h
