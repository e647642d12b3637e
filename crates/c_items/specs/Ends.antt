-- What is behind the item in front of tokens, if there is one.
use Rattle.std.specs.Prelude.{List, Option, Some, None}
use Rattle.c_tokens.specs.Tokens.{Token}
use Rattle.c_items.specs.Steps.{Scanned}

-- the tokens behind an item that was scanned
abbrev pub behind : Scanned → Option (List Token)
behind None = None
behind (Some x) = Some x.1
