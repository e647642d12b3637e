-- Places in a list: one item more at the end, and the first number of a range that passes a test.
use Rattle.std.proofs.Common.{◌≡◌, ℕ, zero, suc, ◌+◌, ◌<◌, ◌≤◌, List, [], ◌∷◌, ◌++◌, length, take, drop, map, get_or, Bool, true, false, cond, Option, Some, None, refl, sym, ap, ◌∙◌, arith, ⊎_elim}
use Rattle.std.specs.Prelude.{⊤}
use Rattle.std.specs.List.{find, range_with_len}
use Rattle.std.proofs.lemmas.Bool.{cases_lt}
use Rattle.std.proofs.lemmas.List.{take_more, drop_more, map-append, length-take-le}
use Rattle.scope_lines.specs.ListPlaces.{last_place, place_or}

-- ---- a list read one item further

pub map_take_more : {X Y : Type 0} (f : X → Y) (xs : List X) (at : ℕ) (x : X) → at < length xs → x ≡ get_or xs at x → map f (take (at + 1) xs) ≡ map f (take at xs) ++ f x ∷ []
map_take_more f xs at x within is = ap (map f) (take_more xs at x within) ∙ map-append f (take at xs) (get_or xs at x ∷ []) ∙ ap (λ z. map f (take at xs) ++ f z ∷ []) (sym is)

pub map_drop_more : {X Y : Type 0} (f : X → Y) (xs : List X) (at : ℕ) (x : X) → at < length xs → x ≡ get_or xs at x → map f (drop at xs) ≡ f x ∷ map f (drop (at + 1) xs)
map_drop_more f xs at x within is = ap (map f) (drop_more xs at x within) ∙ ap (λ z. f z ∷ map f (drop (at + 1) xs)) (sym is)

-- ---- the last that passes

pub last_place-push : {X : Type 0} (test : X → Bool) (xs : List X) (x : X) → last_place test (xs ++ x ∷ []) ≡ cond (test x) (Some (length xs)) (last_place test xs)
last_place-push test [] x = refl
last_place-push test (y ∷ xs) x = ap (λ (o : Option ℕ). place_or o (test y)) (last_place-push test xs x) ∙ pick (test x)
  where
    pick : (b : Bool) → place_or (cond b (Some (length xs)) (last_place test xs)) (test y) ≡ cond b (Some (suc (length xs))) (place_or (last_place test xs) (test y))
    pick true = refl
    pick false = refl

-- the last so far, as a loop has it
pub last_place_more : {X : Type 0} (test : X → Bool) (xs : List X) (at : ℕ) (x : X) (found next : Option ℕ) → at < length xs → x ≡ get_or xs at x → next ≡ cond (test x) (Some at) found
    → found ≡ last_place test (take at xs) → next ≡ last_place test (take (at + 1) xs)
last_place_more test xs at x found next within is next_is found_is =
    next_is
    ∙ ap (cond (test x) (Some at)) found_is
    ∙ ap (λ (n : ℕ). cond (test x) (Some n) (last_place test (take at xs))) (sym (length-take-le at xs (omega arith)))
    ∙ sym (last_place-push test (take at xs) x)
    ∙ ap (λ z. last_place test (take at xs ++ z ∷ [])) is
    ∙ ap (last_place test) (sym (take_more xs at x within))

-- a place that is one of the list's
abbrev pub IsBelow : Option ℕ → ℕ → Type 0
IsBelow None n = ⊤
IsBelow (Some place) n = place < n

pub last_place_below : {X : Type 0} (test : X → Bool) (xs : List X) → IsBelow (last_place test xs) (length xs)
last_place_below test [] = tt
last_place_below test (x ∷ xs) = pick (last_place test xs) (test x) (last_place_below test xs)
  where
    pick : (o : Option ℕ) (b : Bool) → IsBelow o (length xs) → IsBelow (place_or o b) (suc (length xs))
    pick (Some place) b below = omega arith
    pick None true below = omega arith
    pick None false below = tt

-- ---- the first number that passes

pub find_first : (test : ℕ → Bool) (from many least : ℕ) → from ≤ least → least < from + many → test least ≡ true → ((earlier : ℕ) → from ≤ earlier → earlier < least → test earlier ≡ false)
    → find test (range_with_len from many) ≡ Some least
find_first test from zero least low high passes first = absurd (omega arith)
find_first test from (suc many) least low high passes first =
    ⊎_elim (λ lt. further lt (find_first test (from + 1) many least (omega arith) (omega arith) passes (λ earlier a b. first earlier (omega arith) b))) here (cases_lt from least)
  where
    further : from < least → find test (range_with_len (from + 1) many) ≡ Some least → cond (test from) (Some from) (find test (range_with_len (from + 1) many)) ≡ Some least
    further lt rest = ap (λ (b : Bool). cond b (Some from) (find test (range_with_len (from + 1) many))) (first from (omega arith) lt) ∙ rest

    here : least ≤ from → cond (test from) (Some from) (find test (range_with_len (from + 1) many)) ≡ Some least
    here le = let same : least ≡ from = omega arith in
        ap (λ (b : Bool). cond b (Some from) (find test (range_with_len (from + 1) many))) (ap test (sym same) ∙ passes) ∙ ap Some (sym same)

pub find_never : (test : ℕ → Bool) (from many : ℕ) → ((place : ℕ) → test place ≡ false) → find test (range_with_len from many) ≡ None
find_never test from zero never = refl
find_never test from (suc many) never = ap (λ (b : Bool). cond b (Some from) (find test (range_with_len (from + 1) many))) (never from) ∙ find_never test (from + 1) many never
