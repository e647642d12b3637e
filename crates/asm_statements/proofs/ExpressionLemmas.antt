-- The name of a list of one.
use Rattle.std.proofs.Common.{arith, rules, ◌≡◌, ◌∷◌, [], List, length, Some}
use Rattle.std.specs.Prelude.{slice_get}

-- a list of one item is that item
pub only_item : {X : Type 0} (xs : List X) (x : X) → slice_get xs 0 ≡ Some x → length xs ≡ 1 → xs ≡ x ∷ []
only_item [] x is one = grind arith
only_item (y ∷ []) x is one = search rules
only_item (y ∷ z ∷ zs) x is one = grind arith
