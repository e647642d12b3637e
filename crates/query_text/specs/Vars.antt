-- The lines of items of a scope: variables and parameters, each with its type as it is spelled and its value. Names and types stand
-- in their shown form, and each line ends in a line feed. This is this project's own.
use Rattle.std.specs.Prelude.{ℕ, List, [], ◌∷◌, ◌++◌, codes, Bool, true, false, if◌then◌else◌, Option, Some, None, slice_get, flat_map}
use Rattle.std.specs.Option.{option_map_or}
use Rattle.st_base.specs.Shown.{shown}
use Rattle.stab_symbols.specs.SymbolSpelling.{letters, print_of}
use Rattle.stab_symbols.specs.declared.tree.Descriptor.{Descriptor}
use Rattle.stab_symbols.specs.declared.tree.Descriptor.TheVariants as descriptors
use Rattle.stab_symbols.specs.declared.tree.Symbol.{Symbol}
use Rattle.stab_units.specs.declared.unit.Item.{Item}
use Rattle.stab_units.specs.declared.unit.ItemText.{ItemText}
use Rattle.stab_units.specs.declared.unit.ItemText.TheVariants as texts
use Rattle.st_base.specs.Numerals.{hex8}

-- the value that a name of the source has for other objects, where it has one
abbrev pub Values : Type 0
Values = List ℕ → Option ℕ

-- letters, or `-` where there are none
abbrev pub or_dash : List ℕ → List ℕ
or_dash [] = codes "-"
or_dash (b ∷ bytes) = b ∷ bytes

-- `G`: a global variable
abbrev pub is_global : Descriptor → Bool
is_global descriptors.Global = true
is_global other = false

-- the number in hexadecimal, or `-` where there is none
abbrev pub hex8_or : Option ℕ → List ℕ
hex8_or None = codes "-"
hex8_or (Some number) = hex8 number

-- `VALUE` of a symbol: that of its item; of a global variable the one that its name has for other objects
abbrev pub value_text : Values → Symbol → ℕ → List ℕ
value_text values symbol value = if is_global symbol.descriptor then hex8_or (values symbol.name) else hex8 value

-- `var D NAME TYPE VALUE`
unfoldable pub var_line : Values → Symbol → ℕ → List ℕ
var_line values symbol value =
    codes "var " ++ or_dash (letters symbol.descriptor) ++ 32 ∷ [] ++ shown symbol.name ++ 32 ∷ [] ++ shown (print_of symbol.tree)
    ++ 32 ∷ [] ++ value_text values symbol value ++ 10 ∷ []

-- the line of an item: none of an item that is no symbol
abbrev pub item_line : Values → ItemText → ℕ → List ℕ
item_line values (texts.Symbol symbol) value = var_line values symbol value
item_line values (texts.Raw text) value = []

-- the line of the item at a place of a body
abbrev pub line_at : Values → List Item → ℕ → List ℕ
line_at values body place = option_map_or (λ item. item_line values item.text item.value) (slice_get body place) []

-- the lines of the items at these places
abbrev pub vars_text : Values → List Item → List ℕ → List ℕ
vars_text values body places = flat_map (line_at values body) places
