-- A stack as a list: its first item is on top.
use Rattle.std.specs.Prelude.{List, [], ◌∷◌, Option, Some, None, Bool, true, false}

-- the item on top, if there is one
abbrev pub top : {A : Type 0} → List A → Option A
top [] = None
top (x ∷ xs) = Some x

abbrev pub is_empty : {A : Type 0} → List A → Bool
is_empty [] = true
is_empty (x ∷ xs) = false

-- what is left without it
abbrev pub below : {A : Type 0} → List A → List A
below [] = []
below (x ∷ xs) = xs
