use Rattle.std.proofs.Common.{◌≡◌, ap, ◌∙◌, List, ℕ, subst, Bool, Some, length, get_or}
use Rattle.std.specs.Prelude.{slice_get}
use Rattle.bincl_match.specs.Crowding.{Tells, Twice}
use Rattle.bincl_match.proofs.CrowdLemmas.{are_crowded}
use Rattle.bincl_match.proofs.crowd.crowded.Goals as goal

-- the flag of its group for each range
pub returns : goal.returns
returns c =
    let P : List ℕ → Type 0 = λ z. (k : ℕ) (b : Bool) → slice_get c.in_ok-bad.bad k ≡ Some b → Tells b (Twice c.args.ranges.now z (length c.args.ranges.now) k) in
    let Q : List Bool → Type 0 = λ z. (i : ℕ) (b : Bool) → slice_get c.in_ok-out.out i ≡ Some b → slice_get z (get_or c.items-3.result.now i 0) ≡ Some b in
    let R : List ℕ → Type 0 = λ z. (i : ℕ) (b : Bool) → slice_get c.in_ok-out.out i ≡ Some b → slice_get c.in_ok-bad.bad (get_or z i 0) ≡ Some b in
    are_crowded c.args.ranges.now c.in_ok-groups.groups c.in_ok-bad.bad c.in_ok-out.out c.in_ok-groups.ensures
    (subst P c.items.ensures c.in_ok-bad.ensures.tells) (c.in_ok-out.ensures.count ∙ ap length c.items-3.ensures ∙ c.in_ok-groups.ensures.count)
    (subst R c.items-3.ensures (subst Q c.items-2.ensures c.in_ok-out.ensures.each))
