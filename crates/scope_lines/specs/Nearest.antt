-- The function of an address and the line of an address: the item with the greatest value not above it, the last of equals.
use Rattle.std.specs.Prelude.{◌≡◌, ◌<◌, ◌≤◌, slice_get, ℕ, List, [], ◌∷◌, Bool, false, if◌then◌else◌, nat_le, ◌==◌, Option, Some, None, max, map, option_and_then}
use Rattle.stab_codes.specs.declared.code.TheConstants.{N_SLINE}
use Rattle.stab_units.specs.declared.unit.Item.{Item}
use Rattle.scope_lines.specs.declared.role.Role.{Role}
use Rattle.scope_lines.specs.declared.role.Role.TheVariants.{Function}
use Rattle.scope_lines.specs.declared.nearest.Sought.{Sought}
use Rattle.scope_lines.specs.declared.nearest.Sought.TheVariants as sought
use Rattle.scope_lines.specs.Roles.{role_of}
use Rattle.scope_lines.specs.ListPlaces.{last_place}

-- the value of an item that is a function
abbrev pub function_value : Role → Option ℕ
function_value (Function value) = Some value
function_value _ = None

-- the value of a function, or of an N_SLINE; none for all other items
abbrev pub value_of : Sought → Item → Option ℕ
value_of sought.Function item = function_value (role_of item)
value_of sought.Line item = if item.kind == N_SLINE then Some item.value else None

-- the greater of two, where there are two
abbrev pub or_max : ℕ → Option ℕ → ℕ
or_max v None = v
or_max v (Some w) = max v w

-- the greatest of the values that are not above the address
abbrev pub greatest : ℕ → List (Option ℕ) → Option ℕ
greatest address [] = None
greatest address (None ∷ values) = greatest address values
greatest address (Some v ∷ values) = if nat_le v address then Some (or_max v (greatest address values)) else greatest address values

-- it is this value
abbrev pub is_value : ℕ → Option ℕ → Bool
is_value m None = false
is_value m (Some v) = v == m

-- the last place that has it
abbrev pub nearest : ℕ → List (Option ℕ) → Option ℕ
nearest address values = option_and_then (λ m. last_place (is_value m) values) (greatest address values)

-- the place in a body of what is sought for an address
abbrev pub nearest_item : Sought → List Item → ℕ → Option ℕ
nearest_item what body address = nearest address (map (value_of what) body)

-- ---- in words of places

-- its value is not above the address, none of those is greater, and each later one is lower
pub record IsNearest (address : ℕ) (values : List (Option ℕ)) (place : ℕ) : Type 0 where
  pub value : ℕ
  pub there : slice_get values place ≡ Some (Some value)
  pub low : value ≤ address
  pub greatest : (other v : ℕ) → slice_get values other ≡ Some (Some v) → v ≤ address → v ≤ value
  pub last : (other v : ℕ) → place < other → slice_get values other ≡ Some (Some v) → v ≤ address → v < value

-- all values are above the address
abbrev pub AllAbove : ℕ → List (Option ℕ) → Type 0
AllAbove address values = (other v : ℕ) → slice_get values other ≡ Some (Some v) → address < v
