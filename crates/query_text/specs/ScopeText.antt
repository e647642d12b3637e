-- The reply on a scope: the unit, the function with its items, each block with its items, and the items of the whole unit. Names and
-- types stand in their shown form, and each line ends in a line feed. This is this project's own.
use Rattle.std.specs.Prelude.{ℕ, List, [], ◌∷◌, ◌++◌, codes, decimal, Option, Some, None, slice_get, flat_map}
use Rattle.std.specs.Option.{option_map_or}
use Rattle.st_base.specs.Shown.{shown}
use Rattle.stab_units.specs.declared.unit.Item.{Item}
use Rattle.stab_units.specs.declared.unit.Unit.{Unit}
use Rattle.scope_lines.specs.declared.scope.Block.{Block}
use Rattle.scope_lines.specs.declared.scope.Scope.{Scope}
use Rattle.scope_lines.specs.Lines.{text_of}
use Rattle.st_base.specs.Numerals.{hex8}
use Rattle.query_text.specs.Vars.{Values, vars_text}

-- ---- lines

-- `unit U NAME`
unfoldable pub unit_line : ℕ → List ℕ → List ℕ
unit_line number name = codes "unit " ++ decimal number ++ 32 ∷ [] ++ shown name ++ 10 ∷ []

-- `function NAME H8`, with its address
unfoldable pub function_line : Item → List ℕ
function_line item = codes "function " ++ shown (text_of item) ++ 32 ∷ [] ++ hex8 item.value ++ 10 ∷ []

-- the line of the function at a place of a body, where there is one
abbrev pub function_text : List Item → Option ℕ → List ℕ
function_text body None = []
function_text body (Some place) = option_map_or function_line (slice_get body place) []

-- `block LOW HIGH`
unfoldable pub block_line : ℕ → ℕ → List ℕ
block_line low high = codes "block " ++ hex8 low ++ 32 ∷ [] ++ hex8 high ++ 10 ∷ []

-- the line of a block, and those of its items
abbrev pub block_text : Values → List Item → Block → List ℕ
block_text values body block = block_line block.low block.high ++ vars_text values body block.vars

-- the lines of blocks
abbrev pub blocks_text : Values → List Item → List Block → List ℕ
blocks_text values body blocks = flat_map (block_text values body) blocks

-- ---- the scope

-- the lines of a scope in its unit
abbrev pub scope_text : Values → Unit → Scope → List ℕ
scope_text values unit scope =
    unit_line scope.unit unit.name ++ function_text unit.body scope.function ++ vars_text values unit.body scope.own
    ++ blocks_text values unit.body scope.blocks ++ vars_text values unit.body scope.statics
