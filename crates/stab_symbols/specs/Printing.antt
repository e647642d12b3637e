-- How types are printed, with their numbers written in some way: as they are spelled, without their files, or as places in a list;
-- and what printing does to a text even where memory ends. Both are this project's own.
use Rattle.std.specs.Prelude.{◌≡◌, ℕ, ◌<◌, ◌≤◌, List, [], ◌∷◌, ◌++◌, length, slice_index, Bool, true, false, map}
use Rattle.readers.specs.Spelling.{ended}
use Rattle.stab_symbols.specs.declared.tree.Num.{Num}
use Rattle.stab_symbols.specs.declared.tree.Choice.{Choice}
use Rattle.stab_symbols.specs.declared.tree.Field.{Field}
use Rattle.stab_symbols.specs.declared.tree.Symbol.{Symbol}
use Rattle.stab_symbols.specs.declared.tree.TypeTree.{TypeTree}
use Rattle.stab_symbols.specs.declared.tree.TypeTree.TheOpen.{TypeTree-F}
use Rattle.stab_symbols.specs.declared.tree.TypeTree.TheFolds.{fold-TypeTree, fold-Field}
use Rattle.stab_symbols.specs.SymbolSpelling.{choice, same, step, field_step, letters}

-- ---- a text that grows

-- the old bytes stand at the front of the new ones
pub record Grows (before now : List ℕ) : Type 0 where
  pub longer : length before ≤ length now
  pub kept : (place : ℕ) → place < length before → slice_index now place ≡ slice_index before place

-- ---- types, with their numbers written in some way

-- a number that is written so and its definition, or the number alone where definitions are hidden
abbrev pub defined_text : Bool → List ℕ → List ℕ → List ℕ
defined_text true number body = number
defined_text false number body = number ++ 61 ∷ body

-- one level of a type, the texts of the types and fields inside in their places; all but the numbers is as it is spelled
abbrev pub level_text : (Num → List ℕ) → Bool → TypeTree-F (List ℕ) (List ℕ) → List ℕ
level_text number hides (TypeTree-F.Ref n) = number n
level_text number hides (TypeTree-F.Def n t) = defined_text hides (number n) t
level_text number hides other = step other

-- the text of a type
abbrev pub type_text : (Num → List ℕ) → Bool → TypeTree → List ℕ
type_text number hides = fold-TypeTree (List ℕ) (List ℕ) (level_text number hides) field_step

-- the text of a field
abbrev pub field_text : (Num → List ℕ) → Bool → Field → List ℕ
field_text number hides = fold-Field (List ℕ) (List ℕ) (level_text number hides) field_step

-- the texts of the fields, one after another, and the `;` after them
abbrev pub fields_text : (Num → List ℕ) → Bool → List Field → List ℕ
fields_text number hides fields = ended same (59 ∷ []) (map (field_text number hides) fields)

-- the text of a symbol
abbrev pub symbol_text : (Num → List ℕ) → Bool → Symbol → List ℕ
symbol_text number hides s = (s.name ++ 58 ∷ []) ++ (letters s.descriptor ++ type_text number hides s.tree)

-- the texts of the choices, and the `;` after them
abbrev pub choices_text : List Choice → List ℕ
choices_text choices = ended choice (59 ∷ []) choices
