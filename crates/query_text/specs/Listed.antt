-- The text of a listing: the number of its keys on a line, and a line for each. Names and bodies stand in their shown form, and each
-- line ends in a line feed. This is this project's own.
use Rattle.std.specs.Prelude.{◌≡◌, ℕ, ◌+◌, List, [], ◌∷◌, ◌++◌, length, codes, decimal, Option, Some, None}
use Rattle.st_base.specs.Shown.{shown}
use Rattle.stab_symbols.specs.declared.tree.Key.{Key}
use Rattle.stab_symbols.specs.declared.tree.TypeTree.{TypeTree}
use Rattle.stab_symbols.specs.declared.tree.Symbol.{Symbol}
use Rattle.stab_symbols.specs.SymbolSpelling.{letters}
use Rattle.stab_symbols.specs.Surface.{placed}
use Rattle.stab_units.specs.declared.unit.Unit.{Unit}
use Rattle.type_graph.specs.Types.{definition_of, name_of}
use Rattle.type_graph.specs.Listings.{IsListing}

-- `CLASS NAME` of a key: the descriptor and the name of the symbol that names it, or `- -`
abbrev pub name_text : Option Symbol → List ℕ
name_text None = codes "- -"
name_text (Some s) = letters s.descriptor ++ 32 ∷ shown s.name

-- `I CLASS NAME`, I the place of a key in the listing
abbrev pub label_text : ℕ → Option Symbol → List ℕ
label_text place name = decimal place ++ 32 ∷ name_text name

-- `BODY` of a key: its definition with places for the keys of the listing, or `undefined`
abbrev pub body_text : List Key → Option TypeTree → List ℕ
body_text keys None = codes "undefined"
body_text keys (Some body) = shown (placed keys body)

-- `I CLASS NAME BODY`, by the place of a key, the symbol that names it and its definition
unfoldable pub node_line : List Key → ℕ → Option Symbol → Option TypeTree → List ℕ
node_line keys place name body = label_text place name ++ 32 ∷ body_text keys body ++ 10 ∷ []

-- the lines of these keys, the first of which has this place in the listing
abbrev pub node_lines : Unit → List Key → ℕ → List Key → List ℕ
node_lines unit keys place [] = []
node_lines unit keys place (key ∷ rest) =
    node_line keys place (name_of unit key) (definition_of unit key) ++ node_lines unit keys (place + 1) rest

-- the number of keys on a line, and then a line for each
unfoldable pub listing_text : Unit → List Key → List ℕ
listing_text unit keys = decimal (length keys) ++ 10 ∷ node_lines unit keys 0 keys

-- the text is that of the listing of the key
abbrev pub IsListingText : Unit → Key → List ℕ → Type 0
IsListingText unit key text = (keys : List Key) × IsListing unit key keys × (text ≡ listing_text unit keys)
