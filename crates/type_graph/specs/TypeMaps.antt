-- Maps of a unit by key: of its definitions, as it grows by one definition after another, and of the symbols that name types, as it
-- grows by one symbol after another. Both take account of which file a key is of. This project's own.
use Rattle.std.specs.Prelude.{◌≡◌, ℕ, ◌+◌, Bool, true, not, ◌&&◌, ◌||◌, ◌==◌, if◌then◌else◌, List, [], ◌∷◌, Option, Some, None, Result, OnOk, ⊤}
use Rattle.std.specs.Option.{option_copied, option_or}
use Rattle.std.specs.List.{find, list_any}
use Rattle.indexmap.specs.IndexMap.{IndexMap, get}
use Rattle.std.specs.Borrow.{Bor}
use Rattle.st_base.specs.declared.fault.Memory.{Memory}
use Rattle.stab_symbols.specs.declared.tree.Key.{Key}
use Rattle.stab_symbols.specs.declared.tree.Symbol.{Symbol}
use Rattle.stab_symbols.specs.declared.tree.TypeTree.{TypeTree}
use Rattle.stab_symbols.specs.Definitions.{Definition}
use Rattle.stab_symbols.specs.Surface.{same_key}
use Rattle.stab_units.specs.declared.unit.HeaderFile.{HeaderFile}
use Rattle.stab_units.specs.declared.unit.Unit.{Unit}
use Rattle.type_graph.specs.declared.indexing.Noting.{Noting}
use Rattle.type_graph.specs.Searches.{definitions_in_file, noted_all}
use Rattle.type_graph.specs.Types.{definition_of, is_name, name_of}

-- ---- definitions

-- what the map has for a key
abbrev pub body_in : {S : Type 0} → IndexMap Key (Bor TypeTree) S → Key → Option TypeTree
body_in bodies key = option_copied (get same_key bodies key)

-- definitions of the key are noted: it is of this file, or those of all files are
abbrev pub is_noted : Option ℕ → Key → Bool
is_noted None key = true
is_noted (Some file) key = key.file == file

-- one of these definitions is not noted
abbrev pub has_stray : Option ℕ → List Definition → Bool
has_stray only ds = list_any (λ d. not (is_noted only d.key)) ds

-- these definitions were noted, where their keys are
pub record HasNoted (old : Noting) (ds : List Definition) (new : Noting) : Type 0 where
  pub only : new.only ≡ old.only
  pub strays : new.strays ≡ (old.strays || has_stray old.only ds)
  pub bodies : (key : Key) → body_in new.bodies key ≡ (if is_noted old.only key then noted_all key (body_in old.bodies key) ds else body_in old.bodies key)

-- each definition in these files, the first of which has the number n, stands in the own file of its key
abbrev pub own_only : ℕ → List HeaderFile → Bool
own_only n [] = true
own_only n (f ∷ files) = not (has_stray (Some n) (definitions_in_file f)) && own_only (n + 1) files

-- noting a definition, unless out of memory
abbrev pub Notes : Noting → Definition → Noting → Result ⊤ Memory → Type 0
Notes old d new result = OnOk result (HasNoted old (d ∷ []) new)

-- the map has the definition of every key of the unit
abbrev pub HasDefinitions : {S : Type 0} → Unit → IndexMap Key (Bor TypeTree) S → Type 0
HasDefinitions unit bodies = (key : Key) → body_in bodies key ≡ definition_of unit key

-- ---- names

-- what the names have for a key
abbrev pub symbol_in : {S : Type 0} → IndexMap Key (Bor Symbol) S → Key → Option Symbol
symbol_in names key = option_copied (get same_key names key)

-- what is known of a key, with these symbols of a file more: the first that names it stays
abbrev pub named_in : ℕ → Key → Option Symbol → List Symbol → Option Symbol
named_in file key known symbols = if key.file == file then option_or known (find (is_name key) symbols) else known

-- the names have the symbol that names each key of the unit
abbrev pub HasNames : {S : Type 0} → Unit → IndexMap Key (Bor Symbol) S → Type 0
HasNames unit names = (key : Key) → symbol_in names key ≡ name_of unit key
