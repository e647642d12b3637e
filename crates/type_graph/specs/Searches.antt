-- What is known of a key's definition as more and more definitions are met, and a search that stops where nothing more can change it.
-- This project's own.
use Rattle.std.specs.Prelude.{◌≡◌, Bool, true, false, not, ◌&&◌, if◌then◌else◌, List, [], ◌∷◌, flat_map, Option, Some, None, Result, OnErr, ⊤}
use Rattle.std.specs.Option.{option_copied}
use Rattle.stab_symbols.specs.declared.tree.Key.{Key}
use Rattle.stab_symbols.specs.declared.tree.TypeTree.{TypeTree}
use Rattle.stab_symbols.specs.Definitions.{Definition, is_cross}
use Rattle.stab_symbols.specs.Surface.{same_key}
use Rattle.stab_units.specs.declared.unit.HeaderFile.{HeaderFile}
use Rattle.type_graph.specs.declared.definitions.Search.{Search}
use Rattle.type_graph.specs.declared.definitions.Settled.{Settled}
use Rattle.type_graph.specs.Types.{definitions_of}

-- ---- the definitions in files

abbrev pub definitions_in_file : HeaderFile → List Definition
definitions_in_file file = definitions_of file.symbols

-- those of some files, one file after another
abbrev pub file_definitions : List HeaderFile → List Definition
file_definitions files = flat_map definitions_in_file files

-- ---- what is known

-- a definition that is met counts where none was known, or where a cross reference gives way to what is none
abbrev pub counts : Option TypeTree → TypeTree → Bool
counts None body = true
counts (Some old) body = is_cross old && not (is_cross body)

-- what is known of a key, with one definition more
abbrev pub noted : Key → Option TypeTree → Definition → Option TypeTree
noted key known d = if same_key key d.key && counts known d.body then Some d.body else known

-- and with more definitions, one after another
abbrev pub noted_all : Key → Option TypeTree → List Definition → Option TypeTree
noted_all key known [] = known
noted_all key known (d ∷ ds) = noted_all key (noted key known d) ds

-- a definition that is no cross reference is known, so no other counts
abbrev pub is_settled : Option TypeTree → Bool
is_settled None = false
is_settled (Some body) = not (is_cross body)

-- ---- a search for one key

-- the search has met these definitions; it stopped only where it is settled
pub record HasMet (old : Search) (ds : List Definition) (new : Search) (result : Result ⊤ Settled) : Type 0 where
  pub key : new.key ≡ old.key
  pub known : option_copied new.known ≡ noted_all old.key (option_copied old.known) ds
  pub stopped : OnErr result (is_settled (option_copied new.known) ≡ true)

-- it meets one definition
abbrev pub Meets : Search → Definition → Search → Result ⊤ Settled → Type 0
Meets old d new result = HasMet old (d ∷ []) new result
