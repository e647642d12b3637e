-- What is visible at an address: the function, its items, its blocks with their items, the items of the unit. After "The stabs debug
-- format" on block structure, procedures and variables; that an address is in the first unit that holds it is this project's own.
use Rattle.std.specs.Prelude.{◌≡◌, ◌<◌, ◌≤◌, ◌⊎◌, take, drop, slice_get, ℕ, ◌+◌, List, [], ◌∷◌, length, Bool, true, false, not, ◌&&◌, if◌then◌else◌, nat_lt, nat_le, ◌==◌, Option, Some, None, option_map}
use Rattle.std.specs.List.{find, enumerate_from}
use Rattle.stab_units.specs.declared.unit.Unit.{Unit as OneUnit}
use Rattle.type_graph.specs.declared.world.World.{World}
use Rattle.scope_lines.specs.declared.role.Role.{Role}
use Rattle.scope_lines.specs.declared.role.Role.TheVariants.{Function, Opens, Parameter, Local, Static}
use Rattle.scope_lines.specs.declared.nearest.Sought.TheVariants as sought
use Rattle.scope_lines.specs.declared.scope.Block.{Block}
use Rattle.scope_lines.specs.declared.scope.Scope.{Scope}
use Rattle.scope_lines.specs.Roles.{roles}
use Rattle.scope_lines.specs.Blocks.{is_begin, decides, end_value, waiting, block_at, block_of, is_in_block, EndsWith}
use Rattle.scope_lines.specs.ListPlaces.{each, last_place, IsLast}
use Rattle.scope_lines.specs.Nearest.{nearest_item}

-- ---- the unit of an address

-- a unit holds its start and not its end
abbrev pub is_within : ℕ → OneUnit → Bool
is_within address unit = nat_le unit.start address && nat_lt address unit.end

-- the same of a unit with its number
abbrev pub holds : ℕ → ℕ × OneUnit → Bool
holds address numbered = is_within address numbered.1

-- the first unit that holds the address, with its number
abbrev pub unit_at : World → ℕ → Option (ℕ × OneUnit)
unit_at world address = find (holds address) (enumerate_from 0 world.units)

-- ---- the last function before an item

-- an N_FUN with descriptor `f` or `F`
abbrev pub is_function : Role → Bool
is_function (Function value) = true
is_function _ = false

-- both are there and the same
abbrev pub same_place : Option ℕ → Option ℕ → Bool
same_place (Some place) (Some other) = place == other
same_place _ _ = false

-- the last function before is this one; never where there is none
abbrev pub is_in : Option ℕ → List Role → Bool
is_in function before = same_place function (last_place is_function before)

-- ---- the items of a function

-- there is an item, and it is an N_LBRAC
abbrev pub is_opening : Option Role → Bool
is_opening None = false
is_opening (Some x) = is_begin x

-- the first N_LBRAC, N_RBRAC or function is an N_LBRAC
abbrev pub opens_next : List Role → Bool
opens_next behind = is_opening (find decides behind)

-- a parameter belongs to the last function before it; a local does so where no N_LBRAC decides
abbrev pub is_own : Role → Bool → Bool
is_own Parameter opens = true
is_own Local opens = not opens
is_own _ opens = false

-- the place of an item that belongs to this function
abbrev pub own_at : Option ℕ → List Role → Role → List Role → List ℕ
own_at function before x behind = if is_own x (opens_next behind) && is_in function before then length before ∷ [] else []

-- the places of the items that belong to this function
abbrev pub own_of : Option ℕ → List Role → List ℕ
own_of function items = each (own_at function) [] items

-- ---- the blocks of a function

-- the block that an N_LBRAC begins, where it belongs to this function and holds the address
abbrev pub blocks_at : ℕ → Option ℕ → ℕ → List Role → Role → List Role → List Block
blocks_at start function address before (Opens value) behind =
    if is_in function before then block_at start address value (end_value (Opens value) behind) (waiting before) else []
blocks_at start function address before _ behind = []

-- the blocks that belong to this function and hold the address, in body order
abbrev pub blocks_of : ℕ → Option ℕ → ℕ → List Role → List Block
blocks_of start function address items = each (blocks_at start function address) [] items

-- ---- the items of the unit

-- an item with descriptor `G` or `S`
abbrev pub is_static : Role → Bool
is_static Static = true
is_static _ = false

-- its place
abbrev pub static_at : List Role → Role → List Role → List ℕ
static_at before x behind = if is_static x then length before ∷ [] else []

-- the places of the items that belong to the unit
abbrev pub statics_of : List Role → List ℕ
statics_of items = each static_at [] items

-- ---- the scope

-- the function of an address in its unit
abbrev pub function_of : OneUnit → ℕ → Option ℕ
function_of unit address = nearest_item sought.Function unit.body address

-- the scope of an address in the unit of this number
abbrev pub scope_in : ℕ → OneUnit → ℕ → Scope
scope_in number unit address = record {
  unit = number;
  function = function_of unit address;
  own = own_of (function_of unit address) (roles unit.body);
  blocks = blocks_of unit.start (function_of unit address) address (roles unit.body);
  statics = statics_of (roles unit.body);
}

-- the scope of an address in the unit that it is in
abbrev pub scope_at : World → ℕ → Option Scope
scope_at world address = option_map (λ found. scope_in found.0 found.1 address) (unit_at world address)

-- ---- in words of places

-- the unit of this number holds the address, and no unit before it does
pub record IsUnitOf (world : World) (address number : ℕ) (unit : OneUnit) : Type 0 where
  pub there : slice_get world.units number ≡ Some unit
  pub low : unit.start ≤ address
  pub high : address < unit.end
  pub first : (earlier : ℕ) (other : OneUnit) → earlier < number → slice_get world.units earlier ≡ Some other → (address < other.start) ⊎ (other.end ≤ address)

-- no unit holds the address
abbrev pub NoUnit : World → ℕ → Type 0
NoUnit world address = (place : ℕ) (other : OneUnit) → slice_get world.units place ≡ Some other → (address < other.start) ⊎ (other.end ≤ address)

-- the first N_LBRAC, N_RBRAC or function of the list is an N_LBRAC
abbrev pub OpensNext : List Role → Type 0
OpensNext behind =
    (place : ℕ) × (value : ℕ) × (slice_get behind place ≡ Some (Opens value)) × ((earlier : ℕ) (x : Role) → earlier < place → slice_get behind earlier ≡ Some x → decides x ≡ false)

-- the item at a place belongs to the function at another
pub record IsOwn (items : List Role) (function place : ℕ) : Type 0 where
  pub role : Role
  pub there : slice_get items place ≡ Some role
  pub last : IsLast is_function (take place items) function
  pub kind : (role ≡ Parameter) ⊎ ((role ≡ Local) × (OpensNext (drop (place + 1) items) → ⊥))

-- the block is that of the N_LBRAC at a place: the last function before it is this one, it is closed, and the block holds the address
pub record IsBlock (start : ℕ) (items : List Role) (function address place : ℕ) (block : Block) : Type 0 where
  pub low : ℕ
  pub high : ℕ
  pub there : slice_get items place ≡ Some (Opens low)
  pub last : IsLast is_function (take place items) function
  pub closed : EndsWith (drop place items) high
  pub is : block ≡ block_of start low high (waiting (take place items))
  pub holds_it : is_in_block address block ≡ true
