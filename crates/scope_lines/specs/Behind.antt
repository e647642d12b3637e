-- What stands after each item of a body, as a walk from the body's end finds it.
use Rattle.std.specs.Prelude.{◌≡◌, ℕ, List, [], ◌∷◌, ◌++◌, Option, None, reverse}
use Rattle.scope_lines.specs.declared.role.Role.{Role}
use Rattle.scope_lines.specs.declared.role.Role.TheVariants.{Opens, Closes}
use Rattle.scope_lines.specs.declared.behind.Behind.{Behind}
use Rattle.scope_lines.specs.declared.behind.Reading.{Reading}
use Rattle.scope_lines.specs.Blocks.{end_value}
use Rattle.scope_lines.specs.Scopes.{opens_next}

-- of an N_LBRAC the value of the N_RBRAC that closes it
abbrev pub end_of : Role → List Role → Option ℕ
end_of (Opens value) behind = end_value (Opens value) behind
end_of _ behind = None

-- what stands after an item
abbrev pub behind_of : Role → List Role → Behind
behind_of x behind = record { opens_next = opens_next behind; end = end_of x behind }

-- of each item, the last one first
abbrev pub behinds : List Role → List Behind
behinds [] = []
behinds (x ∷ xs) = behinds xs ++ behind_of x xs ∷ []

-- all but the first
abbrev pub rest_of : List ℕ → List ℕ
rest_of [] = []
rest_of (value ∷ values) = values

-- the values of the N_RBRAC that close nothing in the list, the first one first
abbrev pub unopened : List Role → List ℕ
unopened [] = []
unopened (Closes value ∷ xs) = value ∷ unopened xs
unopened (Opens value ∷ xs) = rest_of (unopened xs)
unopened (_ ∷ xs) = unopened xs

-- what is kept of the list that was read
pub record Reads (xs : List Role) (r : Reading) : Type 0 where
  pub next_is : r.opens_next ≡ opens_next xs
  pub ends_are : r.ends.items ≡ reverse (unopened xs)
