use Rattle.std.proofs.Common.{◌+◌, ℕ, List, ◌∷◌, take, sym, subst}
use Rattle.bincl_match.specs.Crowding.{Numbered, look}
use Rattle.bincl_match.proofs.KeyLemmas.{numbered_on, texts_more}
use Rattle.bincl_match.proofs.groups.key_of.Goals as goal

-- one text more
pub loop-text-preserved : goal.loop-text-preserved
loop-text-preserved c =
    let inv = c.loop-text.invariant in
    let old = λ (t : List ℕ). look c.loop-text.seen t in
    let new = λ (t : List ℕ). look c.number_of-in-loop-text.new.seen t in
    let name = c.args.range.now.name in
    record {
      numbering = c.in_ok-number.ensures.numbering;
      grows = λ t k e. c.in_ok-number.ensures.grows t k (inv.grows t k e);
      numbered = subst (λ (z : List ℕ). Numbered new (name ∷ take (c.loop-text.text-index + 1) c.args.range.now.shape) z) (sym c.in_ok-push-2.ensures.ok)
          (texts_more new name c.args.range.now.shape c.items-text-items.result.now c.loop-text.text-index c.loop-text.key c.text-item.result c.bytes-in-loop-text.result.now c.in_ok-number.number
          c.items-text-items.ensures c.loop-text-test.true c.text-item.is c.bytes-in-loop-text.ensures
          (numbered_on old new c.in_ok-number.ensures.grows (name ∷ take c.loop-text.text-index c.args.range.now.shape) c.loop-text.key inv.numbered) c.in_ok-number.ensures.found);
    }
