use Rattle.std.proofs.Common.{ℕ, List, subst, sym}
use Rattle.bincl_match.specs.Crowding.{AreFirsts, AreGroups}
use Rattle.bincl_match.proofs.RefineLemmas.{refined_start}
use Rattle.bincl_match.proofs.refine.start.Goals as goal

-- the first places of first keys
pub returns : goal.returns
returns c =
    refined_start c.args.ranges.now c.args.prepared.now c.items.result.now c.in_ok-keys.keys c.in_ok-start.start c.requires.prepared (subst (AreGroups c.args.ranges.now) (sym c.items.ensures) c.in_ok-groups.ensures) c.in_ok-keys.ensures
    (subst (λ (z : List (List ℕ)). AreFirsts z c.in_ok-start.start) c.items-2.ensures c.in_ok-start.ensures)
