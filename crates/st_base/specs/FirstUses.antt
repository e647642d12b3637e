-- Things in order of first use: each distinct one once. A test says which two are the same.
use Rattle.std.specs.Prelude.{Bool, if◌then◌else◌, List, [], ◌∷◌, ◌++◌, fold}
use Rattle.std.specs.List.{list_any}

-- the things after one more is used: one that is there changes nothing, and a new one goes last
abbrev pub used : {A : Type 0} → (A → A → Bool) → List A → A → List A
used same items item = if list_any (same item) items then items else items ++ item ∷ []

-- the distinct things of a list of uses, in order of first use
abbrev pub first_uses : {A : Type 0} → (A → A → Bool) → List A → List A
first_uses same uses = fold (used same) [] uses
