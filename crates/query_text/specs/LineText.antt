-- The replies on lines: the line of an address, and the addresses of a line. Names stand in their shown form, and each line ends in
-- a line feed. This is this project's own.
use Rattle.std.specs.Prelude.{ℕ, List, [], ◌∷◌, ◌++◌, decimal, slice_get, flat_map}
use Rattle.std.specs.Option.{option_map_or}
use Rattle.st_base.specs.Shown.{shown}
use Rattle.stab_units.specs.declared.unit.Item.{Item}
use Rattle.stab_units.specs.declared.unit.Unit.{Unit}
use Rattle.scope_lines.specs.declared.scope.LineAt.{LineAt}
use Rattle.scope_lines.specs.declared.scope.AddressOf.{AddressOf}
use Rattle.scope_lines.specs.Lines.{name_or}
use Rattle.st_base.specs.Numerals.{hex8}

-- ---- the line of an address

-- `FILE LINE ADDRESS`
unfoldable pub line_line : List ℕ → Item → List ℕ
line_line file item = shown file ++ 32 ∷ [] ++ decimal item.desc ++ 32 ∷ [] ++ hex8 item.value ++ 10 ∷ []

-- the line that was found in a unit
abbrev pub line_text : Unit → LineAt → List ℕ
line_text unit found = option_map_or (line_line (name_or unit.name unit.body found.file_item)) (slice_get unit.body found.item) []

-- ---- the addresses of a line

-- `U ADDRESS`
unfoldable pub address_line : AddressOf → List ℕ
address_line found = decimal found.unit ++ 32 ∷ [] ++ hex8 found.value ++ 10 ∷ []

-- the addresses that were found, in order
abbrev pub addresses_text : List AddressOf → List ℕ
addresses_text found = flat_map address_line found
