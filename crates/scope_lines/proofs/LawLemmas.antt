-- The last item that passes, and the greatest value not above an address, in words of places.
use Rattle.std.proofs.Common.{◌≡◌, ℕ, zero, suc, ◌<◌, ◌≤◌, ⊎_elim, List, [], ◌∷◌, Bool, true, false, cond, Option, Some, None, refl, sym, ap, ◌∙◌, arith, subst, max, eqb}
use Rattle.std.specs.Prelude.{slice_get, option_and_then, MatchOption, nat_le}
use Rattle.std.proofs.lemmas.Bool.{cases_Bool, cases_lt, leb-true, leb-false, eqb-true, eqb-false, eq-eqb}
use Rattle.std.proofs.lemmas.Option.{same_Some, none-some}
use Rattle.scope_lines.specs.ListPlaces.{last_place, place_or, IsLast, NonePass}
use Rattle.scope_lines.specs.Nearest.{nearest, greatest, or_max, is_value, IsNearest, AllAbove}

-- ---- the last that passes

none_pass : {X : Type 0} (test : X → Bool) (x : X) (xs : List X) → test x ≡ false → NonePass test xs → NonePass test (x ∷ xs)
none_pass test x xs idle others zero y e = ap test (sym (same_Some x y e)) ∙ idle
none_pass test x xs idle others (suc j) y e = others j y e

first_last : {X : Type 0} (test : X → Bool) (x : X) (xs : List X) → test x ≡ true → NonePass test xs → IsLast test (x ∷ xs) 0
first_last {X = X} test x xs does others = record { item = x; there = refl; passes = does; last = behind }
  where
    behind : (j : ℕ) (y : X) → 0 < j → slice_get (x ∷ xs) j ≡ Some y → test y ≡ false
    behind zero y h e = absurd (omega arith)
    behind (suc j) y h e = others j y e

further_last : {X : Type 0} (test : X → Bool) (x : X) (xs : List X) (k : ℕ) → IsLast test xs k → IsLast test (x ∷ xs) (suc k)
further_last {X = X} test x xs k was = record { item = was.item; there = was.there; passes = was.passes; last = behind }
  where
    behind : (j : ℕ) (y : X) → suc k < j → slice_get (x ∷ xs) j ≡ Some y → test y ≡ false
    behind zero y h e = absurd (omega arith)
    behind (suc j) y h e = was.last j y (omega arith) e

pub last_place_is : {X : Type 0} (test : X → Bool) (xs : List X) → MatchOption (last_place test xs) (NonePass test xs) (IsLast test xs)
last_place_is test [] = λ j x e. absurd (none-some x e)
last_place_is {X = X} test (x ∷ xs) = pick (last_place test xs) (last_place_is test xs)
  where
    pick : (o : Option ℕ) → MatchOption o (NonePass test xs) (IsLast test xs) → MatchOption (place_or o (test x)) (NonePass test (x ∷ xs)) (IsLast test (x ∷ xs))
    pick (Some place) was = further_last test x xs place was
    pick None others = ⊎_elim
        (λ does. subst (λ (b : Bool). MatchOption (place_or None b) (NonePass test (x ∷ xs)) (IsLast test (x ∷ xs))) (sym does) (first_last test x xs does others))
        (λ idle. subst (λ (b : Bool). MatchOption (place_or None b) (NonePass test (x ∷ xs)) (IsLast test (x ∷ xs))) (sym idle) (none_pass test x xs idle others))
        (cases_Bool (test x))

-- ---- the greatest value not above, and the nearest

record IsGreatest (address : ℕ) (vs : List (Option ℕ)) (m : ℕ) : Type 0 where
  place : ℕ
  there : slice_get vs place ≡ Some (Some m)
  low : m ≤ address
  greatest : (j v : ℕ) → slice_get vs j ≡ Some (Some v) → v ≤ address → v ≤ m

no_value : (j v : ℕ) (vs : List (Option ℕ)) → slice_get (None ∷ vs) j ≡ Some (Some v) → (k : ℕ) × (slice_get vs k ≡ Some (Some v))
no_value zero v vs e = absurd (let z : None ≡ Some v = same_Some None (Some v) e in cc)
no_value (suc j) v vs e = (j, e)

greatest_is : (address : ℕ) (vs : List (Option ℕ)) → MatchOption (greatest address vs) (AllAbove address vs) (IsGreatest address vs)
greatest_is address [] = λ j v e. absurd (none-some (Some v) e)
greatest_is address (None ∷ vs) = pick (greatest address vs) (greatest_is address vs)
  where
    pick : (g : Option ℕ) → MatchOption g (AllAbove address vs) (IsGreatest address vs) → MatchOption g (AllAbove address (None ∷ vs)) (IsGreatest address (None ∷ vs))
    pick None above = λ j v e. let p = no_value j v vs e in above p.0 v p.1
    pick (Some m) was = record { place = suc was.place; there = was.there; low = was.low; greatest = λ j v e low. let p = no_value j v vs e in was.greatest p.0 v p.1 low }
greatest_is address (Some u ∷ vs) = pick (nat_le u address) (leb-true u address) (leb-false u address) (greatest address vs) (greatest_is address vs)
  where
    above : address < u → AllAbove address vs → AllAbove address (Some u ∷ vs)
    above high others zero v e = let z : u ≡ v = same_Some u v (same_Some (Some u) (Some v) e) in omega arith
    above high others (suc j) v e = others j v e

    still : address < u → (m : ℕ) → IsGreatest address vs m → (j v : ℕ) → slice_get (Some u ∷ vs) j ≡ Some (Some v) → v ≤ address → v ≤ m
    still high m was zero v e low = let z : u ≡ v = same_Some u v (same_Some (Some u) (Some v) e) in absurd (omega arith)
    still high m was (suc j) v e low = was.greatest j v e low

    alone : AllAbove address vs → (j v : ℕ) → slice_get (Some u ∷ vs) j ≡ Some (Some v) → v ≤ address → v ≤ u
    alone others zero v e low = let z : u ≡ v = same_Some u v (same_Some (Some u) (Some v) e) in omega arith
    alone others (suc j) v e low = absurd (let h = others j v e in omega arith)

    both : (m : ℕ) → IsGreatest address vs m → (j v : ℕ) → slice_get (Some u ∷ vs) j ≡ Some (Some v) → v ≤ address → v ≤ max u m
    both m was zero v e low = let z : u ≡ v = same_Some u v (same_Some (Some u) (Some v) e) in omega arith
    both m was (suc j) v e low = let h = was.greatest j v e low in omega arith

    place_of : (m : ℕ) → IsGreatest address vs m → (k : ℕ) × (slice_get (Some u ∷ vs) k ≡ Some (Some (max u m)))
    place_of m was = ⊎_elim
        (λ (h : u < m). (suc was.place, was.there ∙ ap (λ (z : ℕ). Some (Some z)) (let e : m ≡ max u m = omega arith in e)))
        (λ (h : m ≤ u). (0, ap (λ (z : ℕ). Some (Some z)) (let e : u ≡ max u m = omega arith in e)))
        (cases_lt u m)

    pick : (b : Bool) → (b ≡ true → u ≤ address) → (b ≡ false → address < u) → (g : Option ℕ) → MatchOption g (AllAbove address vs) (IsGreatest address vs)
        → MatchOption (cond b (Some (or_max u g)) g) (AllAbove address (Some u ∷ vs)) (IsGreatest address (Some u ∷ vs))
    pick true low high None others = record { place = 0; there = refl; low = low refl; greatest = alone others }
    pick true low high (Some m) was = record { place = (place_of m was).0; there = (place_of m was).1; low = (let h = low refl in let k = was.low in omega arith); greatest = both m was }
    pick false low high None others = above (high refl) others
    pick false low high (Some m) was = record { place = suc was.place; there = was.there; low = was.low; greatest = still (high refl) m was }

is_value_at : (m : ℕ) (o : Option ℕ) → is_value m o ≡ true → o ≡ Some m
is_value_at m None e = absurd cc
is_value_at m (Some v) e = ap Some (eqb-true v m e)

nearest_of : (address : ℕ) (vs : List (Option ℕ)) (m k : ℕ) → IsGreatest address vs m → IsLast (is_value m) vs k → IsNearest address vs k
nearest_of address vs m k g l = record {
  value = m;
  there = l.there ∙ ap Some (is_value_at m l.item l.passes);
  low = g.low;
  greatest = g.greatest;
  last = λ j v h e low. let n = g.greatest j v e low in let other : eqb v m ≡ false = l.last j (Some v) h e in let d = eqb-false v m other in omega arith;
}

pub nearest_is : (address : ℕ) (vs : List (Option ℕ)) → MatchOption (nearest address vs) (AllAbove address vs) (IsNearest address vs)
nearest_is address vs = pick (greatest address vs) (greatest_is address vs)
  where
    found : (m : ℕ) → IsGreatest address vs m → (o : Option ℕ) → MatchOption o (NonePass (is_value m) vs) (IsLast (is_value m) vs) → MatchOption o (AllAbove address vs) (IsNearest address vs)
    found m g None none = absurd (let e : eqb m m ≡ false = none g.place (Some m) g.there in let t = eq-eqb m m refl in cc)
    found m g (Some k) l = nearest_of address vs m k g l

    pick : (g : Option ℕ) → MatchOption g (AllAbove address vs) (IsGreatest address vs) → MatchOption (option_and_then (λ m. last_place (is_value m) vs) g) (AllAbove address vs) (IsNearest address vs)
    pick None above = above
    pick (Some m) g = found m g (last_place (is_value m) vs) (last_place_is (is_value m) vs)
