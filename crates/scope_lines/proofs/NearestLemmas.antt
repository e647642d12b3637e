-- The nearest so far: the greatest value, and the last place that has it.
use Rattle.std.proofs.Common.{◌≡◌, ℕ, ◌+◌, ◌<◌, ◌≤◌, List, [], ◌∷◌, ◌++◌, length, take, map, get_or, Bool, true, false, cond, Option, Some, None, refl, sym, ap, ◌∙◌, arith, subst, ⊎_elim, max, length-take}
use Rattle.std.specs.Prelude.{nat_lt, nat_le}
use Rattle.std.proofs.lemmas.Bool.{cases_lt, lt-leb, le-leb, lt-ltb, le-ltb, ne_eqb, eq-eqb}
use Rattle.std.proofs.lemmas.List.{length-map, length-take-le}
use Rattle.stab_units.specs.declared.unit.Item.{Item}
use Rattle.scope_lines.specs.declared.nearest.Sought.{Sought}
use Rattle.scope_lines.specs.ListPlaces.{last_place}
use Rattle.scope_lines.specs.Nearest.{greatest, or_max, is_value, value_of}
use Rattle.scope_lines.specs.Walks.{better, better_than}
use Rattle.scope_lines.proofs.PlaceLemmas.{last_place-push, map_take_more, IsBelow, last_place_below}

-- the nearest of a list, with its value
abbrev pub Best : ℕ → List (Option ℕ) → Option (ℕ × ℕ) → Type 0
Best address vs None = greatest address vs ≡ None
Best address vs (Some p) = (greatest address vs ≡ Some p.1) × (last_place (is_value p.1) vs ≡ Some p.0) × (p.1 ≤ address)

abbrev more : ℕ → Option ℕ → Option ℕ → Option ℕ
more address g None = g
more address g (Some w) = cond (nat_le w address) (Some (or_max w g)) g

-- ---- the greatest, one value more

max_swap : (u w : ℕ) (g : Option ℕ) → or_max u (Some (or_max w g)) ≡ or_max w (Some (or_max u g))
max_swap u w None = let e : max u w ≡ max w u = omega arith in e
max_swap u w (Some m) = let e : max u (max w m) ≡ max w (max u m) = omega arith in e

more_under : (address u : ℕ) (g v : Option ℕ) → Some (or_max u (more address g v)) ≡ more address (Some (or_max u g)) v
more_under address u g None = refl
more_under address u g (Some w) = pick (nat_le w address)
  where
    pick : (b : Bool) → Some (or_max u (cond b (Some (or_max w g)) g)) ≡ cond b (Some (or_max w (Some (or_max u g)))) (Some (or_max u g))
    pick true = ap Some (max_swap u w g)
    pick false = refl

greatest-push : (address : ℕ) (vs : List (Option ℕ)) (v : Option ℕ) → greatest address (vs ++ v ∷ []) ≡ more address (greatest address vs) v
greatest-push address [] None = refl
greatest-push address [] (Some w) = refl
greatest-push address (None ∷ vs) v = greatest-push address vs v
greatest-push address (Some u ∷ vs) v = pick (nat_le u address) (greatest-push address vs v)
  where
    pick : (b : Bool) → greatest address (vs ++ v ∷ []) ≡ more address (greatest address vs) v → cond b (Some (or_max u (greatest address (vs ++ v ∷ [])))) (greatest address (vs ++ v ∷ [])) ≡ more address (cond b (Some (or_max u (greatest address vs))) (greatest address vs)) v
    pick true e = ap (λ (g : Option ℕ). Some (or_max u g)) e ∙ more_under address u (greatest address vs) v
    pick false e = e

-- ---- the best, one value more

above : (address : ℕ) (vs : List (Option ℕ)) (found : Option (ℕ × ℕ)) (w : ℕ) → address < w → Best address vs found → Best address (vs ++ Some w ∷ []) found
above address vs None w high best =
    greatest-push address vs (Some w) ∙ ap (λ (b : Bool). cond b (Some (or_max w (greatest address vs))) (greatest address vs)) (lt-leb w address high) ∙ best
above address vs (Some p) w high best = (
  greatest-push address vs (Some w) ∙ ap (λ (b : Bool). cond b (Some (or_max w (greatest address vs))) (greatest address vs)) (lt-leb w address high) ∙ best.0,
  last_place-push (is_value p.1) vs (Some w) ∙ ap (λ (b : Bool). cond b (Some (length vs)) (last_place (is_value p.1) vs)) (ne_eqb w p.1 (λ e. omega (arith, best.2))) ∙ best.1,
  best.2,
)

-- the new one is greatest
taken : (address : ℕ) (vs : List (Option ℕ)) (w : ℕ) → w ≤ address → or_max w (greatest address vs) ≡ w → Best address (vs ++ Some w ∷ []) (Some (length vs, w))
taken address vs w low top = (
  greatest-push address vs (Some w) ∙ ap (λ (b : Bool). cond b (Some (or_max w (greatest address vs))) (greatest address vs)) (le-leb w address low) ∙ ap Some top,
  last_place-push (is_value w) vs (Some w) ∙ ap (λ (b : Bool). cond b (Some (length vs)) (last_place (is_value w) vs)) (eq-eqb w w refl),
  low,
)

below : (address : ℕ) (vs : List (Option ℕ)) (found : Option (ℕ × ℕ)) (w : ℕ) → w ≤ address → Best address vs found → Best address (vs ++ Some w ∷ []) (better_than found (length vs) w)
below address vs None w low best = taken address vs w low (ap (or_max w) best)
below address vs (Some p) w low best = ⊎_elim less more_or_same (cases_lt w p.1)
  where
    less : w < p.1 → Best address (vs ++ Some w ∷ []) (cond (nat_lt w p.1) (Some p) (Some (length vs, w)))
    less h = subst (λ (b : Bool). Best address (vs ++ Some w ∷ []) (cond b (Some p) (Some (length vs, w)))) (sym (lt-ltb w p.1 h)) (
      greatest-push address vs (Some w) ∙ ap (λ (b : Bool). cond b (Some (or_max w (greatest address vs))) (greatest address vs)) (le-leb w address low)
          ∙ ap (λ (g : Option ℕ). Some (or_max w g)) best.0 ∙ ap Some (let e : max w p.1 ≡ p.1 = omega arith in e),
      last_place-push (is_value p.1) vs (Some w) ∙ ap (λ (b : Bool). cond b (Some (length vs)) (last_place (is_value p.1) vs)) (ne_eqb w p.1 (λ e. omega arith)) ∙ best.1,
      best.2,
    )

    more_or_same : p.1 ≤ w → Best address (vs ++ Some w ∷ []) (cond (nat_lt w p.1) (Some p) (Some (length vs, w)))
    more_or_same h = subst (λ (b : Bool). Best address (vs ++ Some w ∷ []) (cond b (Some p) (Some (length vs, w)))) (sym (le-ltb w p.1 h))
        (taken address vs w low (ap (or_max w) best.0 ∙ (let e : max w p.1 ≡ w = omega arith in e)))

Best-push : (address : ℕ) (vs : List (Option ℕ)) (found : Option (ℕ × ℕ)) (v : Option ℕ) → Best address vs found → Best address (vs ++ v ∷ []) (better address found (length vs) v)
Best-push address vs None None best = greatest-push address vs None ∙ best
Best-push address vs (Some p) None best = (greatest-push address vs None ∙ best.0, last_place-push (is_value p.1) vs None ∙ best.1, best.2)
Best-push address vs found (Some w) best = ⊎_elim
    (λ h. subst (λ (b : Bool). Best address (vs ++ Some w ∷ []) (cond b found (better_than found (length vs) w))) (sym (lt-ltb address w h)) (above address vs found w h best))
    (λ h. subst (λ (b : Bool). Best address (vs ++ Some w ∷ []) (cond b found (better_than found (length vs) w))) (sym (le-ltb address w h)) (below address vs found w h best))
    (cases_lt address w)

-- ---- as the loop has it

pub Best_more : (address : ℕ) (sought : Sought) (body : List Item) (at : ℕ) (item : Item) (found : Option (ℕ × ℕ)) → at < length body → item ≡ get_or body at item
    → Best address (map (value_of sought) (take at body)) found → Best address (map (value_of sought) (take (at + 1) body)) (better address found at (value_of sought item))
Best_more address sought body at item found within is best =
    let vs : List (Option ℕ) = map (value_of sought) (take at body) in
    let long : length vs ≡ at = length-map (take at body) (value_of sought) ∙ length-take-le at body (omega arith) in
    subst (λ (z : List (Option ℕ)). Best address z (better address found at (value_of sought item))) (sym (map_take_more (value_of sought) body at item within is))
    (subst (λ (n : ℕ). Best address (vs ++ value_of sought item ∷ []) (better address found n (value_of sought item))) long (Best-push address vs found (value_of sought item) best))

-- its place is one of the list's
pub best_within : {X : Type 0} (address : ℕ) (f : X → Option ℕ) (xs : List X) (at : ℕ) (found : Option (ℕ × ℕ)) (k v : ℕ) → found ≡ Some (k, v) → Best address (map f (take at xs)) found → k < length xs
best_within address f xs at found k v is best =
    let here : Best address (map f (take at xs)) (Some (k, v)) = subst (Best address (map f (take at xs))) is best in
    let below : IsBelow (Some k) (length (map f (take at xs))) = subst (λ (o : Option ℕ). IsBelow o (length (map f (take at xs)))) here.1
    (last_place_below (is_value v) (map f (take at xs))) in
    omega (arith, length-map (take at xs) f, length-take at xs)
