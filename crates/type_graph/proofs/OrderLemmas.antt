-- The order of the search for a key's definition: going through the key's own file, and then through all files with that one among
-- them, finds what going through the own file and then through the others finds.
use Rattle.std.proofs.Common.{◌≡◌, ℕ, zero, suc, ◌+◌, take, drop, Bool, List, [], ◌∷◌, ◌++◌, refl, sym, ap, ◌∙◌, append_assoc, add-one}
use Rattle.std.specs.Prelude.{Option, Some, None, slice_get, flat_map}
use Rattle.std.specs.List.{find}
use Rattle.std.specs.Option.{option_or}
use Rattle.std.proofs.lemmas.List.Folds.{find-append}
use Rattle.std.proofs.lemmas.Grind.{flat_map-append}
use Rattle.stab_symbols.specs.declared.tree.Key.{Key}
use Rattle.stab_symbols.specs.Definitions.{Definition}
use Rattle.stab_units.specs.declared.unit.HeaderFile.{HeaderFile}
use Rattle.stab_units.specs.declared.unit.Unit.{Unit}
use Rattle.type_graph.specs.Types.{symbols_of, symbols_in, file_symbols, other_files, searched_for, symbol_definitions, definitions_of, definition_of, first_of, body_of, is_full, is_any}
use Rattle.type_graph.specs.Searches.{definitions_in_file, file_definitions}

-- ---- what was gone through before is found there

option_or-again : (a b c : Option Definition) → option_or a (option_or b (option_or a c)) ≡ option_or a (option_or b c)
option_or-again None b c = refl
option_or-again (Some d) b c = refl

module _ (own before behind : List Definition) where
  -- the own definitions, and then all with those among them
  abbrev twice : List Definition
  twice = own ++ (before ++ (own ++ behind))

  -- each once
  abbrev once : List Definition
  once = own ++ (before ++ behind)

  find-again : (test : Definition → Bool) → find test twice ≡ find test once
  find-again test =
      find-append test own (before ++ (own ++ behind))
      ∙ ap (λ (o : Option Definition). option_or (find test own) o) (find-append test before (own ++ behind) ∙ ap (λ (o : Option Definition). option_or (find test before) o) (find-append test own behind))
      ∙ option_or-again (find test own) (find test before) (find test behind)
      ∙ sym (find-append test own (before ++ behind) ∙ ap (λ (o : Option Definition). option_or (find test own) o) (find-append test before behind))

  first_of-again : (key : Key) → first_of key twice ≡ first_of key once
  first_of-again key =
      ap (λ (o : Option Definition). body_of (option_or o (find (is_any key) twice))) (find-again (is_full key))
      ∙ ap (λ (o : Option Definition). body_of (option_or (find (is_full key) once) o)) (find-again (is_any key))

-- ---- the files before one, that one, and those after it

split : (files : List HeaderFile) (file : ℕ)
    → file_definitions files ≡ file_definitions (take file files) ++ (definitions_of (symbols_in (slice_get files file)) ++ file_definitions (drop (suc file) files))
split [] zero = refl
split [] (suc file) = refl
split (f ∷ files) zero = refl
split (f ∷ files) (suc file) =
    ap (λ (ds : List Definition). definitions_in_file f ++ ds) (split files file)
    ∙ sym (append_assoc (definitions_in_file f) (file_definitions (take file files)) (definitions_of (symbols_in (slice_get files file)) ++ file_definitions (drop (suc file) files)))

-- the definitions of all files are those before a file, its own, and those after it
pub all-split : (files : List HeaderFile) (file : ℕ)
    → file_definitions files ≡ file_definitions (take file files) ++ (definitions_of (symbols_in (slice_get files file)) ++ file_definitions (drop (file + 1) files))
all-split files file = split files file
    ∙ ap (λ (n : ℕ). file_definitions (take file files) ++ (definitions_of (symbols_in (slice_get files file)) ++ file_definitions (drop n files))) (sym (add-one file))

-- the definitions in the symbols of files are those in the files
symbols-definitions : (files : List HeaderFile) → definitions_of (flat_map symbols_of files) ≡ file_definitions files
symbols-definitions [] = refl
symbols-definitions (f ∷ files) = flat_map-append symbol_definitions f.symbols (flat_map symbols_of files)
    ∙ ap (λ (ds : List Definition). definitions_in_file f ++ ds) (symbols-definitions files)

-- ---- the search

-- the definitions of the key's own file, and then those of all files
abbrev pub own_and_all : Unit → Key → List Definition
own_and_all unit key = definitions_of (file_symbols unit key.file) ++ file_definitions unit.files

module _ (unit : Unit) (key : Key) where
  abbrev own_ones : List Definition
  own_ones = definitions_of (file_symbols unit key.file)

  abbrev in_front : List Definition
  in_front = file_definitions (take key.file unit.files)

  abbrev at_back : List Definition
  at_back = file_definitions (drop (key.file + 1) unit.files)

  in_order : definitions_of (searched_for unit key) ≡ own_ones ++ (in_front ++ at_back)
  in_order =
      flat_map-append symbol_definitions (file_symbols unit key.file) (flat_map symbols_of (other_files unit key.file))
      ∙ ap (λ (ds : List Definition). own_ones ++ ds)
      (symbols-definitions (other_files unit key.file) ∙ flat_map-append definitions_in_file (take key.file unit.files) (drop (key.file + 1) unit.files))

  -- the first in them is the first in the order of the search
  pub first-in_order : first_of key (own_and_all unit key) ≡ definition_of unit key
  first-in_order =
      ap (λ (ds : List Definition). first_of key (own_ones ++ ds)) (all-split unit.files key.file)
      ∙ first_of-again own_ones in_front at_back key
      ∙ ap (λ (ds : List Definition). first_of key ds) (sym in_order)
