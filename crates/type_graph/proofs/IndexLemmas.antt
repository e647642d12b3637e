-- A map of definitions: noting first the definitions that stand in the own file of their key, and then those of all files, gives the
-- definition of each key.
use Rattle.std.proofs.Common.{◌≡◌, ℕ, ◌+◌, ◌<◌, ◌≤◌, length, take, get_or, Bool, true, false, List, [], ◌∷◌, ◌++◌, refl, sym, ap, subst, ◌∙◌, ⊎_elim, cond, append-nil}
use Rattle.std.specs.Prelude.{◌&&◌, ◌||◌, ◌==◌, not, Option, Some, None, Result, Ok, Err, OnOk, flat_map, ⊤}
use Rattle.std.proofs.lemmas.List.{take_more, take_all}
use Rattle.std.proofs.lemmas.List.Folds.{list_any-append}
use Rattle.std.proofs.lemmas.Grind.{flat_map-append}
use Rattle.indexmap.specs.IndexMap.{IndexMap}
use Rattle.std.specs.Borrow.{Bor}
use Rattle.st_base.specs.declared.fault.Memory.{Memory}
use Rattle.stab_symbols.specs.declared.tree.Key.{Key}
use Rattle.stab_symbols.specs.declared.tree.Symbol.{Symbol}
use Rattle.stab_symbols.specs.declared.tree.TypeTree.{TypeTree}
use Rattle.stab_symbols.specs.Definitions.{Definition}
use Rattle.stab_symbols.specs.TypeWalks.{Visited}
use Rattle.stab_symbols.specs.Surface.{same_key}
use Rattle.stab_units.specs.declared.unit.HeaderFile.{HeaderFile}
use Rattle.stab_units.specs.declared.unit.Unit.{Unit}
use Rattle.type_graph.specs.declared.indexing.Noting.{Noting}
use Rattle.type_graph.specs.Types.{definitions_of, file_symbols}
use Rattle.type_graph.specs.Searches.{counts, noted, noted_all, file_definitions}
use Rattle.type_graph.specs.TypeMaps.{body_in, is_noted, has_stray, HasNoted, Notes, HasDefinitions}
use Rattle.type_graph.proofs.KeyLemmas.{which, same_key-decides}
use Rattle.type_graph.proofs.KeyListLemmas.{or_false, or_assoc}
use Rattle.type_graph.proofs.SearchLemmas.{noted-append, noted-first}
use Rattle.type_graph.proofs.OrderLemmas.{own_and_all, first-in_order}
use Rattle.type_graph.proofs.FrontLemmas.{front_symbols, front-none, front-here, front-other}

-- ---- one definition

both : {A : Type 0} (b : Bool) (x : A) → cond b x x ≡ x
both true x = refl
both false x = refl

-- whether a definition's key is noted is whether the key is that it may be of
pub noted-where : (only : Option ℕ) (key : Key) (known : Option TypeTree) (d : Definition)
    → cond (is_noted only d.key) (noted key known d) known ≡ cond (is_noted only key) (noted key known d) known
noted-where only key known d = ⊎_elim
    (λ same. ap (λ (k : Key). cond (is_noted only k) (noted key known d) known) (sym ((same_key-decides key d.key).0 same)))
    (λ other.
    let stays : noted key known d ≡ known = ap (λ (b : Bool). cond (b && counts known d.body) (Some d.body) known) other in
    ap (λ (o : Option TypeTree). cond (is_noted only d.key) o known) stays ∙ both (is_noted only d.key) known
    ∙ sym (ap (λ (o : Option TypeTree). cond (is_noted only key) o known) stays ∙ both (is_noted only key) known))
    (which (same_key key d.key))

-- one that is not noted changes nothing
pub noted-not : (only : Option ℕ) (key : Key) (known : Option TypeTree) (d : Definition) → is_noted only d.key ≡ false
    → known ≡ cond (is_noted only key) (noted key known d) known
noted-not only key known d not_noted = sym (ap (λ (b : Bool). cond b (noted key known d) known) not_noted) ∙ noted-where only key known d

-- one that is noted
pub noted-here : (only : Option ℕ) (key : Key) (known : Option TypeTree) (d : Definition) → is_noted only d.key ≡ true
    → noted key known d ≡ cond (is_noted only key) (noted key known d) known
noted-here only key known d is = sym (ap (λ (b : Bool). cond b (noted key known d) known) is) ∙ noted-where only key known d

-- ---- many definitions

-- noting none
pub noted-none : (old : Noting) → HasNoted old [] old
noted-none old = record { only = refl; strays = sym (or_false old.strays); bodies = λ key. sym (both (is_noted old.only key) (body_in old.bodies key)) }

-- noting two lists, one after the other
pub noted-then : (old mid new : Noting) (ds es : List Definition) → HasNoted old ds mid → HasNoted mid es new → HasNoted old (ds ++ es) new
noted-then old mid new ds es before after = record {
  only = after.only ∙ before.only;
  strays = after.strays ∙ ap (λ (b : Bool). b || has_stray mid.only es) before.strays
      ∙ ap (λ (o : Option ℕ). (old.strays || has_stray old.only ds) || has_stray o es) before.only
      ∙ or_assoc old.strays (has_stray old.only ds) (has_stray old.only es)
      ∙ ap (λ (b : Bool). old.strays || b) (sym (list_any-append (λ (d : Definition). not (is_noted old.only d.key)) ds es));
  bodies = λ key. in_turn key (is_noted old.only key) (body_in old.bodies key) (body_in mid.bodies key) (body_in new.bodies key) (before.bodies key)
      (after.bodies key ∙ ap (λ (o : Option ℕ). cond (is_noted o key) (noted_all key (body_in mid.bodies key) es) (body_in mid.bodies key)) before.only);
} where
  in_turn : (key : Key) (b : Bool) (first second third : Option TypeTree) → second ≡ cond b (noted_all key first ds) first → third ≡ cond b (noted_all key second es) second
      → third ≡ cond b (noted_all key first (ds ++ es)) first
  in_turn key true first second third e f = f ∙ ap (λ (o : Option TypeTree). noted_all key o es) e ∙ sym (noted-append key first ds es)
  in_turn key false first second third e f = f ∙ e

-- what follows from what a call did follows where it did it
on_ok : {A E P Q : Type 0} (r : Result A E) → OnOk r P → (P → Q) → OnOk r Q
on_ok (Ok x) p f = f p
on_ok (Err e) p f = tt

-- visiting definitions is noting them
pub all-noted : (ds : List Definition) (old new : Noting) (result : Result ⊤ Memory) → Visited Notes old ds new result → OnOk result (HasNoted old ds new)
all-noted [] old new result v =
    subst (λ (r : Result ⊤ Memory). OnOk r (HasNoted old [] new)) (sym v.1) (subst (λ (n : Noting). HasNoted old [] n) (sym v.0) (noted-none old))
all-noted (d ∷ ds) old new result v = ⊎_elim
    (λ on. on_ok result (all-noted ds on.0 new result on.2) (λ says. noted-then old on.0 new (d ∷ []) ds on.1 says))
    (λ stop. subst (λ (r : Result ⊤ Memory). OnOk r (HasNoted old (d ∷ ds) new)) (sym stop.1) tt)
    v

-- ---- the items of a list

module _ {A : Type 0} (definitions : A → List Definition) (old mid new : Noting) (xs : List A) where
  -- one item more
  pub noted-more : (at : ℕ) (x : A) → at < length xs → x ≡ get_or xs at x
      → HasNoted old (flat_map definitions (take at xs)) mid → HasNoted mid (definitions x) new → HasNoted old (flat_map definitions (take (at + 1) xs)) new
  noted-more at x within is before after =
      subst (λ (ds : List Definition). HasNoted old ds new)
      (sym (ap (λ (ys : List A). flat_map definitions ys) (take_more xs at x within)
      ∙ flat_map-append definitions (take at xs) (get_or xs at x ∷ [])
      ∙ ap (λ (ds : List Definition). flat_map definitions (take at xs) ++ ds) (append-nil (definitions (get_or xs at x)))
      ∙ ap (λ (y : A). flat_map definitions (take at xs) ++ definitions y) (sym is)))
      (noted-then old mid new (flat_map definitions (take at xs)) (definitions x) before after)

  -- all are noted at the end
  pub noted-end : (n : ℕ) → length xs ≤ n → HasNoted old (flat_map definitions (take n xs)) new → HasNoted old (flat_map definitions xs) new
  noted-end n end so_far = subst (λ (ys : List A). HasNoted old (flat_map definitions ys) new) (take_all n xs end) so_far

-- ---- the definitions that stand in the own file of their key

-- what is known of a key after the first files, where only its own file counts
abbrev pub known_from_own : List HeaderFile → ℕ → Key → Option TypeTree → Option TypeTree
known_from_own files n key known = noted_all key known (definitions_of (front_symbols files n key.file))

-- one file more
pub own-more : (files : List HeaderFile) (at : ℕ) (f : HeaderFile) (key : Key) (first before after : Option TypeTree) → at < length files → f ≡ get_or files at f
    → before ≡ known_from_own files at key first → after ≡ cond (key.file == at) (noted_all key before (definitions_of f.symbols)) before
    → after ≡ known_from_own files (at + 1) key first
own-more files at f key first before after within is so_far more = ⊎_elim
    (λ same.
    let fresh : before ≡ first = so_far ∙ ap (λ (ss : List Symbol). noted_all key first (definitions_of ss)) (front-none files at f within is key.file same) in
    more ∙ ap (λ (b : Bool). cond b (noted_all key before (definitions_of f.symbols)) before) same
    ∙ ap (λ (o : Option TypeTree). noted_all key o (definitions_of f.symbols)) fresh
    ∙ ap (λ (ss : List Symbol). noted_all key first (definitions_of ss)) (sym (front-here files at f within is key.file same)))
    (λ other.
    more ∙ ap (λ (b : Bool). cond b (noted_all key before (definitions_of f.symbols)) before) other ∙ so_far
    ∙ ap (λ (ss : List Symbol). noted_all key first (definitions_of ss)) (sym (front-other files at f within is key.file other)))
    (which (key.file == at))

-- ---- what a finished map says

-- the own definitions of each key and then all give its definition
pub made-definitions : {S : Type 0} → (bodies : IndexMap Key (Bor TypeTree) S) (unit : Unit)
    → ((key : Key) → body_in bodies key ≡ noted_all key (noted_all key None (definitions_of (file_symbols unit key.file))) (file_definitions unit.files)) → HasDefinitions unit bodies
made-definitions bodies unit says key =
    says key ∙ sym (noted-append key None (definitions_of (file_symbols unit key.file)) (file_definitions unit.files)) ∙ noted-first key (own_and_all unit key) ∙ first-in_order unit key
