-- What type numbers and the names of types mean in a unit. A type number is known within its unit by a key: the file that gave it,
-- 0 for the main source, and its number there. After "The stabs debug format", on type numbers, include files, cross references and
-- tags; the order of the search is this project's own.
use Rattle.std.specs.Prelude.{ℕ, ◌+◌, Bool, true, false, not, ◌&&◌, List, [], ◌++◌, flat_map, take, drop, slice_get, Option, Some, None, is_some}
use Rattle.std.specs.Option.{option_or}
use Rattle.std.specs.List.{find}
use Rattle.std.specs.Str.{bytes_eq}
use Rattle.stab_symbols.specs.declared.tree.Key.{Key}
use Rattle.stab_symbols.specs.declared.tree.TypeTree.{TypeTree}
use Rattle.stab_symbols.specs.declared.tree.Descriptor.{Descriptor}
use Rattle.stab_symbols.specs.declared.tree.Descriptor.TheVariants as descriptors
use Rattle.stab_symbols.specs.declared.tree.Symbol.{Symbol}
use Rattle.stab_symbols.specs.Surface.{same_key}
use Rattle.stab_symbols.specs.Definitions.{Definition, definitions_in, is_cross, outer_key}
use Rattle.stab_units.specs.declared.unit.HeaderFile.{HeaderFile}
use Rattle.stab_units.specs.declared.unit.Unit.{Unit}
use Rattle.stab_units.specs.Units.{is_type_symbol}

-- ---- the symbols of a unit

abbrev pub symbols_of : HeaderFile → List Symbol
symbols_of file = file.symbols

-- those of a file, none where there is no such file
abbrev pub symbols_in : Option HeaderFile → List Symbol
symbols_in None = []
symbols_in (Some file) = file.symbols

-- those of the file with this number
abbrev pub file_symbols : Unit → ℕ → List Symbol
file_symbols unit file = symbols_in (slice_get unit.files file)

-- those of all files, from file 0 upwards
abbrev pub all_symbols : Unit → List Symbol
all_symbols unit = flat_map symbols_of unit.files

-- the files but the one with this number, from file 0 upwards
abbrev pub other_files : Unit → ℕ → List HeaderFile
other_files unit file = take file unit.files ++ drop (file + 1) unit.files

-- all symbols in the order of the search for a key: those of the key's own file, then those of file 0 and of the others upwards
abbrev pub searched_for : Unit → Key → List Symbol
searched_for unit key = file_symbols unit key.file ++ flat_map symbols_of (other_files unit key.file)

-- ---- definitions

abbrev pub symbol_definitions : Symbol → List Definition
symbol_definitions s = definitions_in s.tree

-- the definitions in symbols: in each outermost first and from left to right
abbrev pub definitions_of : List Symbol → List Definition
definitions_of symbols = flat_map symbol_definitions symbols

-- the definition is of this key, and no cross reference
abbrev pub is_full : Key → Definition → Bool
is_full key d = same_key key d.key && not (is_cross d.body)

-- the definition is of this key
abbrev pub is_any : Key → Definition → Bool
is_any key d = same_key key d.key

abbrev pub body_of : Option Definition → Option TypeTree
body_of None = None
body_of (Some d) = Some d.body

-- among definitions, the first of the key that is no cross reference, else the first cross reference
abbrev pub first_of : Key → List Definition → Option TypeTree
first_of key ds = body_of (option_or (find (is_full key) ds) (find (is_any key) ds))

-- the definition of a key in a unit
abbrev pub definition_of : Unit → Key → Option TypeTree
definition_of unit key = first_of key (definitions_of (searched_for unit key))

-- ---- names

-- `T` or `Tt`: it names a tag
abbrev pub is_tag_symbol : Descriptor → Bool
is_tag_symbol descriptors.Tag = true
is_tag_symbol descriptors.TagTypedef = true
is_tag_symbol other = false

-- `t` or `Tt`: it is a typedef
abbrev pub is_typedef_symbol : Descriptor → Bool
is_typedef_symbol descriptors.Typedef = true
is_typedef_symbol descriptors.TagTypedef = true
is_typedef_symbol other = false

-- the outermost type is this key
abbrev pub is_outer : Key → Option Key → Bool
is_outer key None = false
is_outer key (Some k) = same_key key k

-- the symbol names the type of this key
abbrev pub is_name : Key → Symbol → Bool
is_name key s = is_type_symbol s.descriptor && is_outer key (outer_key s.tree)

-- the first symbol of the key's own file that names it, whether the key has a definition or not
abbrev pub name_of : Unit → Key → Option Symbol
name_of unit key = find (is_name key) (file_symbols unit key.file)

-- ---- keys by name

-- the symbol is of this sort and has this name, and its outermost type is a number
abbrev pub is_named : (Descriptor → Bool) → List ℕ → Symbol → Bool
is_named sort name s = sort s.descriptor && (bytes_eq s.name name && is_some (outer_key s.tree))

abbrev pub outer_of : Option Symbol → Option Key
outer_of None = None
outer_of (Some s) = outer_key s.tree

-- the key of the first such symbol in files 0, 1, 2 and so on
abbrev pub key_named : (Descriptor → Bool) → Unit → List ℕ → Option Key
key_named sort unit name = outer_of (find (is_named sort name) (all_symbols unit))

-- the key of the first tag of this name
abbrev pub tag_of : Unit → List ℕ → Option Key
tag_of = key_named is_tag_symbol

-- the key of the first typedef of this name
abbrev pub typedef_of : Unit → List ℕ → Option Key
typedef_of = key_named is_typedef_symbol
