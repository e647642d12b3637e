-- Where types begin in a spelling, and how deep: the outermost type has depth 1, and each type directly inside another has
-- one more. For each byte of a spelling there is the depth of the type that begins with it, or 0. Depth is this project's own.
use Rattle.std.specs.Prelude.{ℕ, List, [], ◌∷◌, ◌++◌, decimal}
use Rattle.readers.specs.Spelling.{ended, none, inner, tail}
use Rattle.stab_symbols.specs.declared.tree.Field.{Field}
use Rattle.stab_symbols.specs.declared.tree.TypeTree.{TypeTree}
use Rattle.stab_symbols.specs.declared.tree.TypeTree.TheOpen.{TypeTree-F, Field-F}
use Rattle.stab_symbols.specs.declared.tree.TypeTree.TheFolds.{fold-TypeTree, fold-Field}
use Rattle.stab_symbols.specs.declared.tree.Symbol.{Symbol}
use Rattle.stab_symbols.specs.SymbolSpelling.{num, numeral, choice, same, letters}

-- those of a field: no type begins in its name and its numbers
abbrev pub field_inside : Field-F (List ℕ) (List ℕ) → List ℕ
field_inside f = none (f.name ++ 58 ∷ []) ++ ((inner f.tree ++ 0 ∷ []) ++ ((none (decimal f.bit) ++ 0 ∷ []) ++ (none (decimal f.bits) ++ 0 ∷ [])))

-- those of the types inside one level of a type, in the places of its spelling
abbrev pub inside : TypeTree-F (List ℕ) (List ℕ) → List ℕ
inside (TypeTree-F.Ref n) = none (num n)
inside (TypeTree-F.Def n t) = none (num n) ++ 0 ∷ inner t
inside (TypeTree-F.Pointer t) = 0 ∷ inner t
inside (TypeTree-F.Function t) = 0 ∷ inner t
inside (TypeTree-F.Const t) = 0 ∷ inner t
inside (TypeTree-F.Volatile t) = 0 ∷ inner t
inside (TypeTree-F.Range t low high) = 0 ∷ ((inner t ++ 0 ∷ []) ++ ((none (numeral low) ++ 0 ∷ []) ++ (none (numeral high) ++ 0 ∷ [])))
inside (TypeTree-F.Array i low high t) = 0 ∷ (0 ∷ ((inner i ++ 0 ∷ []) ++ ((none (numeral low) ++ 0 ∷ []) ++ ((none (numeral high) ++ 0 ∷ []) ++ inner t))))
inside (TypeTree-F.Struct size fields) = 0 ∷ (none (decimal size) ++ ended same (0 ∷ []) fields)
inside (TypeTree-F.Union size fields) = 0 ∷ (none (decimal size) ++ ended same (0 ∷ []) fields)
inside (TypeTree-F.Enum choices) = 0 ∷ none (ended choice (59 ∷ []) choices)
inside (TypeTree-F.Cross tag name) = 0 ∷ (0 ∷ none (name ++ 58 ∷ []))
inside (TypeTree-F.Sized bits t) = 0 ∷ (0 ∷ ((none (decimal bits) ++ 0 ∷ []) ++ inner t))
inside (TypeTree-F.Builtin n) = 0 ∷ none (decimal n ++ 59 ∷ [])
inside (TypeTree-F.Real a b c) = 0 ∷ ((none (decimal a) ++ 0 ∷ []) ++ ((none (decimal b) ++ 0 ∷ []) ++ (none (decimal c) ++ 0 ∷ [])))

-- and the outermost type has depth 1
abbrev pub depth_step : TypeTree-F (List ℕ) (List ℕ) → List ℕ
depth_step level = 1 ∷ tail (inside level)

-- for each byte of a type's spelling the depth of the type that begins there, or 0
abbrev pub depths_of : TypeTree → List ℕ
depths_of = fold-TypeTree (List ℕ) (List ℕ) depth_step field_inside

-- the same for a field
abbrev pub depths_field : Field → List ℕ
depths_field = fold-Field (List ℕ) (List ℕ) depth_step field_inside

-- the same for a symbol: no type begins in its name and its descriptor
abbrev pub depths_symbol : Symbol → List ℕ
depths_symbol s = none (s.name ++ 58 ∷ []) ++ (none (letters s.descriptor) ++ depths_of s.tree)
