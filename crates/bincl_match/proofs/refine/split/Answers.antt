use Rattle.std.proofs.Common.{ℕ, List, ◌∙◌, subst, sym}
use Rattle.bincl_match.specs.Crowding.{AreFirsts}
use Rattle.bincl_match.proofs.RefineLemmas.{refined_next, room_falls}
use Rattle.bincl_match.proofs.SettleLemmas.{settled}
use Rattle.bincl_match.proofs.refine.split.Goals as goal

-- no pair of a matching is split
pub returns-clause-refined : goal.returns-clause-refined
returns-clause-refined c =
    refined_next c.args.ranges.now c.args.prepared.now c.args.groups.now c.in_ok-keys.keys c.in_ok-next.next c.requires.lawful c.requires.prepared c.requires.refined c.in_ok-keys.ensures
    (subst (λ (z : List (List ℕ)). AreFirsts z c.in_ok-next.next) c.items.ensures c.in_ok-next.ensures)

-- a number rises, and none falls
pub returns-clause-falls : goal.returns-clause-falls
returns-clause-falls c =
    room_falls c.args.prepared.now c.args.groups.now c.in_ok-keys.keys c.in_ok-next.next c.requires.refined.low (c.requires.refined.count ∙ sym c.requires.prepared.count) c.in_ok-keys.ensures
    (subst (λ (z : List (List ℕ)). AreFirsts z c.in_ok-next.next) c.items.ensures c.in_ok-next.ensures)

-- the ranges of a group have one signature
pub returns-clause-settled : goal.returns-clause-settled
returns-clause-settled c =
    settled c.args.ranges.now c.args.prepared.now c.in_ok-keys.keys c.args.groups.now c.in_ok-next.next c.requires.lawful c.requires.prepared c.requires.refined c.in_ok-keys.ensures
    (subst (λ (z : List (List ℕ)). AreFirsts z c.in_ok-next.next) c.items.ensures c.in_ok-next.ensures)
