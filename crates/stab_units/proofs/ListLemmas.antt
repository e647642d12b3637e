-- The items of a list from a place on.
use Rattle.std.proofs.Common.{◌≡◌, ℕ, zero, suc, ◌+◌, ◌-◌, ◌<◌, ◌≤◌, arith, refl, sym, ap, ◌∙◌, List, [], ◌∷◌, length, get_or, take, drop}
use Rattle.std.proofs.lemmas.List.{drop_more, length-drop, take_all}

-- the item at a place, and those after it
pub drop_item : {E : Type 0} (xs : List E) (at : ℕ) (x : E) → at < length xs → x ≡ get_or xs at x → drop at xs ≡ x ∷ drop (at + 1) xs
drop_item xs at x within is = drop_more xs at x within ∙ ap (λ z. z ∷ drop (at + 1) xs) (sym is)

-- there are none past the end
pub drop_past : {E : Type 0} (xs : List E) (at : ℕ) → length xs ≤ at → drop at xs ≡ []
drop_past [] zero past = refl
drop_past [] (suc at) past = refl
drop_past (x ∷ xs) zero past = absurd (omega arith)
drop_past (x ∷ xs) (suc at) past = drop_past xs at (omega arith)

-- the same where the items after are those of a slice
pub drop_item_slice : {E : Type 0} (xs : List E) (at : ℕ) (x : E) → at < length xs → x ≡ get_or xs at x → drop at xs ≡ x ∷ take (length xs - (at + 1)) (drop (at + 1) xs)
drop_item_slice xs at x within is =
    let long : length (drop (at + 1) xs) ≡ length xs - (at + 1) = length-drop (at + 1) xs in
    drop_item xs at x within is ∙ ap (λ z. x ∷ z) (sym (take_all (length xs - (at + 1)) (drop (at + 1) xs) (omega arith)))
