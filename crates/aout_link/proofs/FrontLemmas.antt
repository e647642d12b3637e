-- What stands before each item of a list, when lists are put together.
use Rattle.std.proofs.Common.{◌≡◌, List, [], ◌∷◌, ◌++◌, sym, ap, ◌∙◌, append_assoc, append-nil}
use Rattle.aout_link.specs.Moves.{fronts}

-- group by group: the items of the second list have the first list before them
pub fronts-append : {A : Type 0} (before xs ys : List A) → fronts before (xs ++ ys) ≡ fronts before xs ++ fronts (before ++ xs) ys
fronts-append before [] ys = ap (λ b. fronts b ys) (sym (append-nil before))
fronts-append before (x ∷ xs) ys =
    ap (λ r. (before, x) ∷ r) (fronts-append (before ++ x ∷ []) xs ys ∙ ap (λ b. fronts (before ++ x ∷ []) xs ++ fronts b ys) (append_assoc before (x ∷ []) xs))

-- one item more
pub fronts_push : {A : Type 0} (xs : List A) (y : A) → fronts [] (xs ++ y ∷ []) ≡ fronts [] xs ++ (xs, y) ∷ []
fronts_push xs y = fronts-append [] xs (y ∷ [])
