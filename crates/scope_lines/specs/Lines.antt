-- The line of an address, and the addresses of a line. After "The stabs debug format" on line numbers and included files.
use Rattle.std.specs.Prelude.{◌≡◌, ◌<◌, ℕ, List, [], ◌∷◌, take, Bool, ◌&&◌, if◌then◌else◌, ◌==◌, Option, Some, option_map, option_and_then, slice_get, flat_map}
use Rattle.std.specs.Option.{option_map_or}
use Rattle.std.specs.List.{enumerate_from}
use Rattle.std.specs.Str.{bytes_eq}
use Rattle.stab_codes.specs.declared.code.TheConstants.{N_SLINE, N_SOL}
use Rattle.stab_units.specs.declared.unit.Item.{Item}
use Rattle.stab_units.specs.declared.unit.ItemText.{ItemText}
use Rattle.stab_units.specs.declared.unit.ItemText.TheVariants as text
use Rattle.stab_units.specs.declared.unit.Unit.{Unit as OneUnit}
use Rattle.type_graph.specs.declared.world.World.{World}
use Rattle.scope_lines.specs.declared.nearest.Sought.TheVariants as sought
use Rattle.scope_lines.specs.declared.scope.LineAt.{LineAt}
use Rattle.scope_lines.specs.declared.scope.AddressOf.{AddressOf}
use Rattle.scope_lines.specs.ListPlaces.{each, last_place}
use Rattle.scope_lines.specs.Nearest.{nearest_item}
use Rattle.scope_lines.specs.Scopes.{unit_at, IsUnitOf}

-- ---- the file of a line

-- an N_SOL
abbrev pub is_source : Item → Bool
is_source item = item.kind == N_SOL

-- the name in a joined string, or the string itself where it spells no symbol
abbrev pub bytes_of : ItemText → List ℕ
bytes_of (text.Symbol symbol) = symbol.name
bytes_of (text.Raw bytes) = bytes

-- the name that an item carries
abbrev pub text_of : Item → List ℕ
text_of item = bytes_of item.text

-- the name of the item at a place, else the unit's
abbrev pub name_or : List ℕ → List Item → Option ℕ → List ℕ
name_or name items place = option_map_or text_of (option_and_then (slice_get items) place) name

-- the file of what stands after these items: the name of the last N_SOL, else the unit's
abbrev pub file_name : List ℕ → List Item → List ℕ
file_name name before = name_or name before (last_place is_source before)

-- ---- the line of an address

-- the entry at this place as a line: its file is that of the last N_SOL before it
abbrev pub line_of : ℕ → List Item → ℕ → LineAt
line_of number body place = record { unit = number; item = place; file_item = last_place is_source (take place body) }

-- the line of an address in the unit of this number
abbrev pub line_in : ℕ → OneUnit → ℕ → Option LineAt
line_in number unit address = option_map (line_of number unit.body) (nearest_item sought.Line unit.body address)

-- the line of an address in the unit that it is in
abbrev pub line_at : World → ℕ → Option LineAt
line_at world address = option_and_then (λ found. line_in found.0 found.1 address) (unit_at world address)

-- ---- the addresses of a line

-- it is an entry of this line, of whatever file
abbrev pub is_line_of : ℕ → Item → Bool
is_line_of line item = item.kind == N_SLINE && item.desc == line

-- one address or none
abbrev pub address_if : Bool → ℕ → ℕ → List AddressOf
address_if counts number value = if counts then record { unit = number; value = value } ∷ [] else []

-- the address of an item that is an entry of this line of this file
abbrev pub address_at : List ℕ → ℕ → ℕ → List ℕ → List Item → Item → List Item → List AddressOf
address_at file line number name before x behind = address_if (is_line_of line x && bytes_eq (file_name name before) file) number x.value

-- the addresses of a line of a file in the unit of this number
abbrev pub addresses_in : List ℕ → ℕ → ℕ → OneUnit → List AddressOf
addresses_in file line number unit = each (address_at file line number unit.name) [] unit.body

-- the addresses of a line of a file, by units and items in order
abbrev pub addresses : World → List ℕ → ℕ → List AddressOf
addresses world file line = flat_map (λ numbered. addresses_in file line numbered.0 numbered.1) (enumerate_from 0 world.units)

-- ---- in words of places

-- the unit of the address, where there is one, has no N_SLINE at or below it
abbrev pub NoLine : World → ℕ → Type 0
NoLine world address =
    (number : ℕ) (unit : OneUnit) → IsUnitOf world address number unit → (place : ℕ) (item : Item) → slice_get unit.body place ≡ Some item → item.kind ≡ N_SLINE → address < item.value

-- this is an address of the line: the value of an N_SLINE with this desc in a unit, where the file there is this one
pub record IsAddress (world : World) (file : List ℕ) (line : ℕ) (found : AddressOf) : Type 0 where
  pub unit : OneUnit
  pub place : ℕ
  pub item : Item
  pub unit_there : slice_get world.units found.unit ≡ Some unit
  pub there : slice_get unit.body place ≡ Some item
  pub entry : item.kind ≡ N_SLINE
  pub of_line : item.desc ≡ line
  pub of_file : file_name unit.name (take place unit.body) ≡ file
  pub value : found.value ≡ item.value
