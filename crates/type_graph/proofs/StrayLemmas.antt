-- Where every definition stands in the own file of its key, those of the own file alone give the definition of a key.
use Rattle.std.proofs.Common.{◌≡◌, ℕ, zero, suc, ◌+◌, ◌<◌, length, take, drop, get_or, Bool, true, false, List, [], ◌∷◌, ◌++◌, refl, sym, ap, ◌∙◌, cond, arith}
use Rattle.std.specs.Prelude.{◌&&◌, ◌||◌, ◌==◌, not, Option, Some, None}
use Rattle.std.specs.List.{find}
use Rattle.std.specs.Option.{option_or}
use Rattle.std.proofs.lemmas.Bool.{eqb-true}
use Rattle.std.proofs.lemmas.List.{drop_more}
use Rattle.std.proofs.lemmas.List.Folds.{find-append}
use Rattle.indexmap.specs.IndexMap.{IndexMap}
use Rattle.std.specs.Borrow.{Bor}
use Rattle.stab_symbols.specs.declared.tree.Key.{Key}
use Rattle.stab_symbols.specs.declared.tree.TypeTree.{TypeTree}
use Rattle.stab_symbols.specs.Definitions.{Definition}
use Rattle.stab_units.specs.declared.unit.HeaderFile.{HeaderFile}
use Rattle.stab_units.specs.declared.unit.Unit.{Unit}
use Rattle.type_graph.specs.Types.{definitions_of, file_symbols, body_of, is_full, is_any}
use Rattle.type_graph.specs.Searches.{counts, noted, noted_all, definitions_in_file, file_definitions}
use Rattle.type_graph.specs.TypeMaps.{body_in, has_stray, own_only, HasDefinitions}
use Rattle.type_graph.proofs.SearchLemmas.{noted-append, noted-first}
use Rattle.type_graph.proofs.OrderLemmas.{own_and_all, all-split, first-in_order}

-- ---- Bool

or_parts : (a b : Bool) → (a || b) ≡ false → (a ≡ false) × (b ≡ false)
or_parts true b e = absurd (cc)
or_parts false b e = (refl, e)

and_parts : (a b : Bool) → (a && b) ≡ true → (a ≡ true) × (b ≡ true)
and_parts true b e = (refl, e)
and_parts false b e = absurd (cc)

not_false : (a : Bool) → not a ≡ false → a ≡ true
not_false true e = refl
not_false false e = absurd (cc)

not_true : (a : Bool) → not a ≡ true → a ≡ false
not_true true e = absurd (cc)
not_true false e = refl

-- one list of definitions, and what is left
pub stray-more : (s h o : Bool) → ((s || h) || not o) ≡ (s || not (not h && o))
stray-more true h o = refl
stray-more false true o = refl
stray-more false false o = refl

-- ---- the definitions of other files

unlike : (m n : ℕ) → (m ≡ n → ⊥) → (m == n) ≡ false
unlike m n other = by_test (m == n) (λ e. other (eqb-true m n e)) where
  by_test : (b : Bool) → (b ≡ true → ⊥) → b ≡ false
  by_test true never = absurd (never refl)
  by_test false never = refl

module _ (key : Key) where
  one-clear : (n : ℕ) (known : Option TypeTree) (d : Definition) → (key.file == n) ≡ false → (d.key.file == n) ≡ true → noted key known d ≡ known
  one-clear n known d other of_file =
      let here : (key.file == d.key.file) ≡ false = ap (λ (m : ℕ). key.file == m) (eqb-true d.key.file n of_file) ∙ other in
      ap (λ (b : Bool). cond ((b && (key.number == d.key.number)) && counts known d.body) (Some d.body) known) here

  -- those of another file say nothing of the key
  clear : (n : ℕ) (known : Option TypeTree) (ds : List Definition) → (key.file == n) ≡ false → has_stray (Some n) ds ≡ false → noted_all key known ds ≡ known
  clear n known [] other none = refl
  clear n known (d ∷ ds) other none =
      let parts = or_parts (not (d.key.file == n)) (has_stray (Some n) ds) none in
      ap (λ (o : Option TypeTree). noted_all key o ds) (one-clear n known d other (not_false (d.key.file == n) parts.0)) ∙ clear n known ds other parts.1

  -- the files before that of the key
  front-clear : (n k : ℕ) (known : Option TypeTree) (files : List HeaderFile) → key.file ≡ n + k → own_only n files ≡ true → noted_all key known (file_definitions (take k files)) ≡ known
  front-clear n zero known files at own = refl
  front-clear n (suc k) known [] at own = refl
  front-clear n (suc k) known (f ∷ files) at own =
      let parts = and_parts (not (has_stray (Some n) (definitions_in_file f))) (own_only (n + 1) files) own in
      noted-append key known (definitions_in_file f) (file_definitions (take k files))
      ∙ ap (λ (o : Option TypeTree). noted_all key o (file_definitions (take k files)))
      (clear n known (definitions_in_file f) (unlike key.file n (λ e. absurd (omega (arith, e, at)))) (not_true (has_stray (Some n) (definitions_in_file f)) parts.0))
      ∙ front-clear (n + 1) k known files (omega (arith, at)) parts.1

  -- the files after it
  back-clear : (n : ℕ) (known : Option TypeTree) (files : List HeaderFile) → key.file < n → own_only n files ≡ true → noted_all key known (file_definitions files) ≡ known
  back-clear n known [] at own = refl
  back-clear n known (f ∷ files) at own =
      let parts = and_parts (not (has_stray (Some n) (definitions_in_file f))) (own_only (n + 1) files) own in
      noted-append key known (definitions_in_file f) (file_definitions files)
      ∙ ap (λ (o : Option TypeTree). noted_all key o (file_definitions files))
      (clear n known (definitions_in_file f) (unlike key.file n (λ e. absurd (omega (arith, e, at)))) (not_true (has_stray (Some n) (definitions_in_file f)) parts.0))
      ∙ back-clear (n + 1) known files (omega (arith, at)) parts.1

own-drop : (n k : ℕ) (files : List HeaderFile) → own_only n files ≡ true → own_only (n + k) (drop k files) ≡ true
own-drop n zero files own = ap (λ (m : ℕ). own_only m files) (omega arith) ∙ own
own-drop n (suc k) [] own = refl
own-drop n (suc k) (f ∷ files) own =
    let parts = and_parts (not (has_stray (Some n) (definitions_in_file f))) (own_only (n + 1) files) own in
    ap (λ (m : ℕ). own_only m (drop k files)) (omega arith) ∙ own-drop (n + 1) k files parts.1

-- ---- those of the own file once more

option_or-same : (o : Option Definition) → option_or o o ≡ o
option_or-same None = refl
option_or-same (Some d) = refl

find-twice : (test : Definition → Bool) (ds : List Definition) → find test (ds ++ ds) ≡ find test ds
find-twice test ds = find-append test ds ds ∙ option_or-same (find test ds)

noted-twice : (key : Key) (ds : List Definition) → noted_all key (noted_all key None ds) ds ≡ noted_all key None ds
noted-twice key ds =
    sym (noted-append key None ds ds) ∙ noted-first key (ds ++ ds)
    ∙ ap (λ (o : Option Definition). body_of (option_or o (find (is_any key) (ds ++ ds)))) (find-twice (is_full key) ds)
    ∙ ap (λ (o : Option Definition). body_of (option_or (find (is_full key) ds) o)) (find-twice (is_any key) ds)
    ∙ sym (noted-first key ds)

-- ---- what a finished map says

-- those of all files say no more than those of the own file
no_more : (unit : Unit) (key : Key) → own_only 0 unit.files ≡ true
    → noted_all key (noted_all key None (definitions_of (file_symbols unit key.file))) (file_definitions unit.files) ≡ noted_all key None (definitions_of (file_symbols unit key.file))
no_more unit key own =
    let own_ones : List Definition = definitions_of (file_symbols unit key.file) in
    let known : Option TypeTree = noted_all key None own_ones in
    let before : List Definition = file_definitions (take key.file unit.files) in
    let behind : List Definition = file_definitions (drop (key.file + 1) unit.files) in
    ap (λ (ds : List Definition). noted_all key known ds) (all-split unit.files key.file)
    ∙ noted-append key known before (own_ones ++ behind)
    ∙ ap (λ (o : Option TypeTree). noted_all key o (own_ones ++ behind)) (front-clear key 0 key.file known unit.files (omega arith) own)
    ∙ noted-append key known own_ones behind
    ∙ ap (λ (o : Option TypeTree). noted_all key o behind) (noted-twice key own_ones)
    ∙ back-clear key (key.file + 1) known (drop (key.file + 1) unit.files) (omega arith)
    (ap (λ (m : ℕ). own_only m (drop (key.file + 1) unit.files)) (omega arith) ∙ own-drop 0 (key.file + 1) unit.files own)

-- so where no definition strays, the own definitions of each key give its definition
pub made-own : {S : Type 0} → (bodies : IndexMap Key (Bor TypeTree) S) (unit : Unit) → own_only 0 unit.files ≡ true
    → ((key : Key) → body_in bodies key ≡ noted_all key None (definitions_of (file_symbols unit key.file))) → HasDefinitions unit bodies
made-own bodies unit own says key =
    says key ∙ sym (no_more unit key own)
    ∙ sym (noted-append key None (definitions_of (file_symbols unit key.file)) (file_definitions unit.files)) ∙ noted-first key (own_and_all unit key) ∙ first-in_order unit key

-- ---- while the map is made

-- one file more
pub strays-more : (files : List HeaderFile) (at : ℕ) (f : HeaderFile) (first before after : Bool) → at < length files → f ≡ get_or files at f
    → after ≡ (before || has_stray (Some at) (definitions_in_file f)) → (before || not (own_only at (drop at files))) ≡ first
    → (after || not (own_only (at + 1) (drop (at + 1) files))) ≡ first
strays-more files at f first before after within is more so_far =
    ap (λ (b : Bool). b || not (own_only (at + 1) (drop (at + 1) files))) more
    ∙ stray-more before (has_stray (Some at) (definitions_in_file f)) (own_only (at + 1) (drop (at + 1) files))
    ∙ ap (λ (g : HeaderFile). before || not (not (has_stray (Some at) (definitions_in_file g)) && own_only (at + 1) (drop (at + 1) files))) is
    ∙ ap (λ (fs : List HeaderFile). before || not (own_only at fs)) (sym (drop_more files at f within))
    ∙ so_far

-- none is left
pub strays-end : (files : List HeaderFile) (n : ℕ) (s first : Bool) → drop n files ≡ [] → (s || not (own_only n (drop n files))) ≡ first → s ≡ first
strays-end files n s first end so_far =
    sym (or_false s) ∙ sym (ap (λ (fs : List HeaderFile). s || not (own_only n fs)) end) ∙ so_far
  where
    or_false : (b : Bool) → (b || false) ≡ b
    or_false true = refl
    or_false false = refl
