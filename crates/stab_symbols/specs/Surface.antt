-- The keys of the numbers on the surface of a type: of those met from left to right without going into the definition of a
-- number; and the type as it is shown in a listing, where each of them is `#` and the place of its key. Both are this project's own.
use Rattle.std.specs.Prelude.{◌≡◌, ℕ, Bool, true, ◌&&◌, ◌==◌, List, ◌∷◌, decimal, unwrap_or, position, map}
use Rattle.stab_symbols.specs.declared.tree.Num.{Num}
use Rattle.stab_symbols.specs.declared.tree.Key.{Key}
use Rattle.stab_symbols.specs.declared.tree.TypeTree.{TypeTree}
use Rattle.stab_symbols.specs.Keys.{key_of}
use Rattle.stab_symbols.specs.TypeWalks.{surface_numbers}
use Rattle.stab_symbols.specs.Printing.{type_text}

-- ---- the keys on the surface

-- the keys of the numbers on the surface of a type, from left to right
abbrev pub surface_of : TypeTree → List Key
surface_of t = map key_of (surface_numbers t)

-- ---- a type with its places

-- two keys are one
abbrev pub same_key : Key → Key → Bool
same_key k l = k.file == l.file && k.number == l.number

-- `#` and the place of the key in the list
abbrev pub place_text : List Key → Num → List ℕ
place_text keys n = 35 ∷ decimal (unwrap_or (position (same_key (key_of n)) keys) 0)

-- the text of a type in a listing of these keys: a number, with its definition if it has one, is its place; all else is as
-- it is spelled
abbrev pub placed : List Key → TypeTree → List ℕ
placed keys = type_text (place_text keys) true
