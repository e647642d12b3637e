-- Names by key: noting the symbols of each file, one after another, gives the symbol that names each key.
use Rattle.std.proofs.Common.{◌≡◌, ℕ, ◌+◌, ◌<◌, length, drop, get_or, Bool, true, false, List, [], ◌∷◌, ◌++◌, refl, sym, ap, ◌∙◌, ⊎_elim, cond}
use Rattle.std.specs.Prelude.{◌==◌, Option, Some, None, flat_map}
use Rattle.std.specs.List.{find}
use Rattle.std.specs.Option.{option_or}
use Rattle.std.proofs.lemmas.List.{drop_more}
use Rattle.std.proofs.lemmas.List.Folds.{find-append}
use Rattle.stab_symbols.specs.declared.tree.Key.{Key}
use Rattle.stab_symbols.specs.declared.tree.Symbol.{Symbol}
use Rattle.stab_units.specs.declared.unit.HeaderFile.{HeaderFile}
use Rattle.type_graph.specs.Types.{is_name, symbols_of}
use Rattle.type_graph.specs.TypeMaps.{named_in}
use Rattle.type_graph.proofs.KeyLemmas.{which}
use Rattle.type_graph.proofs.FrontLemmas.{front_symbols, front-none, front-here, front-other}

-- ---- one symbol more

-- what is known of a key with a list's head, and then with its tail, is what is known with the list
named-cons : (file : ℕ) (key : Key) (known : Option Symbol) (s : Symbol) (ss : List Symbol) → named_in file key (named_in file key known (s ∷ [])) ss ≡ named_in file key known (s ∷ ss)
named-cons file key known s ss = in_file (key.file == file) known (is_name key s) (find (is_name key) ss) where
  in_file : (b : Bool) (known : Option Symbol) (c : Bool) (rest : Option Symbol)
      → cond b (option_or (cond b (option_or known (cond c (Some s) None)) known) rest) (cond b (option_or known (cond c (Some s) None)) known) ≡ cond b (option_or known (cond c (Some s) rest)) known
  in_file true None true rest = refl
  in_file true None false rest = refl
  in_file true (Some old) c rest = refl
  in_file false known c rest = refl

pub named-behind : (file : ℕ) (key : Key) (before after : Option Symbol) (xs : List Symbol) (at : ℕ) (x : Symbol) (r : Option Symbol)
    → at < length xs → x ≡ get_or xs at x → after ≡ named_in file key before (x ∷ []) → named_in file key before (drop at xs) ≡ r → named_in file key after (drop (at + 1) xs) ≡ r
named-behind file key before after xs at x r within is more all =
    ap (λ (o : Option Symbol). named_in file key o (drop (at + 1) xs)) more
    ∙ named-cons file key before x (drop (at + 1) xs)
    ∙ ap (λ (s : Symbol). named_in file key before (s ∷ drop (at + 1) xs)) is
    ∙ ap (λ (ss : List Symbol). named_in file key before ss) (sym (drop_more xs at x within))
    ∙ all

option_or-None : (known : Option Symbol) → option_or known None ≡ known
option_or-None None = refl
option_or-None (Some s) = refl

-- with no symbols more
pub named-none : (file : ℕ) (key : Key) (known : Option Symbol) → named_in file key known [] ≡ known
named-none file key known = either_way (key.file == file) where
  either_way : (b : Bool) → cond b (option_or known None) known ≡ known
  either_way true = option_or-None known
  either_way false = refl

-- ---- one file more

pub names-more : (files : List HeaderFile) (at : ℕ) (f : HeaderFile) (key : Key) (before after : Option Symbol) → at < length files → f ≡ get_or files at f
    → before ≡ find (is_name key) (front_symbols files at key.file) → after ≡ named_in at key before f.symbols → after ≡ find (is_name key) (front_symbols files (at + 1) key.file)
names-more files at f key before after within is so_far more = ⊎_elim
    (λ same.
    let fresh : before ≡ None = so_far ∙ ap (λ (ss : List Symbol). find (is_name key) ss) (front-none files at f within is key.file same) in
    more ∙ ap (λ (b : Bool). cond b (option_or before (find (is_name key) f.symbols)) before) same
    ∙ ap (λ (o : Option Symbol). option_or o (find (is_name key) f.symbols)) fresh
    ∙ ap (λ (ss : List Symbol). find (is_name key) ss) (sym (front-here files at f within is key.file same)))
    (λ other.
    more ∙ ap (λ (b : Bool). cond b (option_or before (find (is_name key) f.symbols)) before) other ∙ so_far
    ∙ ap (λ (ss : List Symbol). find (is_name key) ss) (sym (front-other files at f within is key.file other)))
    (which (key.file == at))

-- ---- the first in files

-- the first in a file, or else the first in those after it
find-in_files : (test : Symbol → Bool) (files : List HeaderFile) (at : ℕ) (f : HeaderFile) → at < length files → f ≡ get_or files at f
    → find test (flat_map symbols_of (drop at files)) ≡ option_or (find test f.symbols) (find test (flat_map symbols_of (drop (at + 1) files)))
find-in_files test files at f within is =
    ap (λ (fs : List HeaderFile). find test (flat_map symbols_of fs)) (drop_more files at f within)
    ∙ ap (λ (g : HeaderFile). find test (g.symbols ++ flat_map symbols_of (drop (at + 1) files))) (sym is)
    ∙ find-append test f.symbols (flat_map symbols_of (drop (at + 1) files))

module _ (test : Symbol → Bool) (files : List HeaderFile) (at : ℕ) (f : HeaderFile) (all : Option Symbol) (within : at < length files) (is : f ≡ get_or files at f)
    (so_far : find test (flat_map symbols_of (drop at files)) ≡ all) where
  -- it is in this file
  pub found-here : (s : Symbol) → find test f.symbols ≡ Some s → all ≡ Some s
  found-here s here = sym so_far ∙ find-in_files test files at f within is ∙ ap (λ (o : Option Symbol). option_or o (find test (flat_map symbols_of (drop (at + 1) files)))) here

  -- it is in none so far
  pub found-behind : find test f.symbols ≡ None → find test (flat_map symbols_of (drop (at + 1) files)) ≡ all
  found-behind none = sym (ap (λ (o : Option Symbol). option_or o (find test (flat_map symbols_of (drop (at + 1) files)))) none) ∙ sym (find-in_files test files at f within is) ∙ so_far
