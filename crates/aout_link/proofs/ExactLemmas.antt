-- Where the end of bss is an address, no place of a common is cut.
use Rattle.std.proofs.Common.{◌≡◌, ℕ, ◌+◌, ◌%◌, ◌^◌, ◌<◌, List, [], ◌∷◌, ◌++◌, map, refl, ap, ◌∙◌, arith}
use Rattle.std.proofs.lemmas.List.Sums.{sum_by-cons, sum_by_push}
use Rattle.aout_link.specs.declared.definitions.Known.{Known}
use Rattle.aout_link.specs.Sources.{Source}
use Rattle.st_base.specs.Multiples.{aligned}
use Rattle.aout_link.specs.Moves.{fronts}
use Rattle.aout_link.specs.NameTables.{common_at, commons_total, placed_commons}
use Rattle.aout_link.specs.Accepted.{Accepted, exact_commons, HasExactCommons}

-- commons behind others
exact_from : (start : ℕ) (before ss : List (List ℕ × ℕ)) → start + commons_total before + commons_total ss < 2 ^ 32
    → map {B = List ℕ × Known} (λ p. (p.1.0, common_at start p.0)) (fronts before ss) ≡ map {B = List ℕ × Known} (λ p. (p.1.0, record { kind = 9; value = start + commons_total p.0 })) (fronts before ss)
exact_from start before [] low = refl
exact_from start before (e ∷ ss) low =
    let push = sum_by_push (λ x. aligned x.1) before e in
    let cons = sum_by-cons (λ x. aligned x.1) e ss in
    let here : (start + commons_total before) % 2 ^ 32 ≡ start + commons_total before = omega arith in
    ap (λ (v : ℕ). (e.0, record { kind = 9; value = v }) ∷ map {B = List ℕ × Known} (λ p. (p.1.0, common_at start p.0)) (fronts (before ++ e ∷ []) ss)) here
    ∙ ap (λ (r : List (List ℕ × Known)). (e.0, record { kind = 9; value = start + commons_total before }) ∷ r) (exact_from start (before ++ e ∷ []) ss (omega (arith, push, cons)))

-- all commons
exact_places : (start : ℕ) (ss : List (List ℕ × ℕ)) → start + commons_total ss < 2 ^ 32 → placed_commons start ss ≡ exact_commons start ss
exact_places start ss low = exact_from start [] ss (omega arith)

-- those of an accepted list
pub exact_commons_accepted : (base : ℕ) (os : List Source) → Accepted base os → HasExactCommons base os
exact_commons_accepted base os accepted = let low = accepted.addresses in exact_places _ _ (omega (arith, low))
