use Rattle.std.proofs.Common.{List, ℕ, subst}
use Rattle.bincl_match.specs.Crowding.{AreFirsts}
use Rattle.bincl_match.proofs.CrowdLemmas.{are_groups}
use Rattle.bincl_match.proofs.groups.groups_of.Goals as goal

-- the first place of each key
pub returns : goal.returns
returns c =
    are_groups c.args.ranges.now c.in_ok-keys.keys c.in_ok-groups.groups c.in_ok-keys.ensures
    (subst (λ (z : List (List ℕ)). AreFirsts z c.in_ok-groups.groups) c.items.ensures c.in_ok-groups.ensures)
