-- Types with other names and 0 for each file; and that names with a `0` after each `(` have their bytes back.
use Rattle.std.proofs.Common.{◌≡◌, ℕ, List, [], ◌∷◌, map, refl, sym, ap, ◌∙◌}
use Rattle.stab_symbols.specs.declared.tree.Num.{Num}
use Rattle.stab_symbols.specs.declared.tree.Num.TheVariants.{Plain, Pair}
use Rattle.stab_symbols.specs.declared.tree.Choice.{Choice}
use Rattle.stab_symbols.specs.declared.tree.Field.{Field, roll-Field}
use Rattle.stab_symbols.specs.declared.tree.TypeTree.{TypeTree}
use Rattle.stab_symbols.specs.declared.tree.TypeTree.TheOpen.{TypeTree-F, Field-F}
use Rattle.stab_symbols.specs.declared.tree.TypeTree.TheViews.{roll-TypeTree}
use Rattle.stab_symbols.specs.declared.tree.TypeTree.TheFolds.{fold-TypeTree, fold-Field, fold-roll-TypeTree, fold-roll-Field, map-TypeTree, map-Field}
use Rattle.stab_symbols.specs.Files.{num_with, with_step, tree_with, field_with, file_0}
use Rattle.stab_symbols.proofs.Levels as levels
use Rattle.stab_grammar.proofs.WithFiles.{with_level, with-roll}
use Rattle.stab_grammar.proofs.Spread.{spread, gather, gathered}

module _ (rename : List ℕ → List ℕ) where
  -- a choice with another name
  abbrev pub renamed_choice : Choice → Choice
  renamed_choice c = record { name = rename c.name; number = c.number }

  -- one level of a type; the names are others, and 0 stands for each file
  abbrev pub renamed_step : TypeTree-F TypeTree Field → TypeTree-F TypeTree Field
  renamed_step (TypeTree-F.Ref n) = TypeTree-F.Ref (num_with file_0 n)
  renamed_step (TypeTree-F.Def n t) = TypeTree-F.Def (num_with file_0 n) t
  renamed_step (TypeTree-F.Enum choices) = TypeTree-F.Enum (map renamed_choice choices)
  renamed_step (TypeTree-F.Cross tag name) = TypeTree-F.Cross tag (rename name)
  renamed_step other = other

  -- a field with another name
  abbrev pub renamed_field_step : Field-F TypeTree Field → Field-F TypeTree Field
  renamed_field_step f = record { name = rename f.name; tree = f.tree; bit = f.bit; bits = f.bits }

  abbrev pub roll_renamed : TypeTree-F TypeTree Field → TypeTree
  roll_renamed x = roll-TypeTree (renamed_step x)

  abbrev pub roll_renamed_field : Field-F TypeTree Field → Field
  roll_renamed_field f = roll-Field (renamed_field_step f)

  -- a type
  abbrev pub renamed : TypeTree → TypeTree
  renamed = fold-TypeTree TypeTree Field roll_renamed roll_renamed_field

  -- a field
  abbrev pub renamed_field : Field → Field
  renamed_field = fold-Field TypeTree Field roll_renamed roll_renamed_field

  -- the level, once the types and fields inside are renamed
  abbrev pub renamed_level : TypeTree-F TypeTree Field → TypeTree-F TypeTree Field
  renamed_level x = renamed_step (map-TypeTree TypeTree Field TypeTree Field renamed renamed_field x)

  abbrev pub renamed_field_level : Field-F TypeTree Field → Field-F TypeTree Field
  renamed_field_level f = renamed_field_step (map-Field TypeTree Field TypeTree Field renamed renamed_field f)

  -- what is folded over a renamed type is folded over that level
  pub fold-renamed : (A B : Type 0) (S : TypeTree-F A B → A) (F : Field-F A B → B) (x : TypeTree-F TypeTree Field) → fold-TypeTree A B S F (renamed (roll-TypeTree x)) ≡ S (map-TypeTree TypeTree Field A B (fold-TypeTree A B S F) (fold-Field A B S F) (renamed_level x))
  fold-renamed A B S F x = ap (fold-TypeTree A B S F) (fold-roll-TypeTree TypeTree Field roll_renamed roll_renamed_field x) ∙ fold-roll-TypeTree A B S F (renamed_level x)

  -- and so with a field
  pub fold-renamed-field : (A B : Type 0) (S : TypeTree-F A B → A) (F : Field-F A B → B) (f : Field-F TypeTree Field) → fold-Field A B S F (renamed_field (roll-Field f)) ≡ F (map-Field TypeTree Field A B (fold-TypeTree A B S F) (fold-Field A B S F) (renamed_field_level f))
  fold-renamed-field A B S F f = ap (fold-Field A B S F) (fold-roll-Field TypeTree Field roll_renamed roll_renamed_field f) ∙ fold-roll-Field A B S F (renamed_field_level f)

-- ---- the names have their bytes back

abbrev NamesBack : TypeTree → Type 0
NamesBack t = renamed gather (renamed spread t) ≡ tree_with file_0 t

abbrev FieldNamesBack : Field → Type 0
FieldNamesBack f = renamed_field gather (renamed_field spread f) ≡ field_with file_0 f

-- a file of 0 stays
file_0_again : (n : Num) → num_with file_0 (num_with file_0 n) ≡ num_with file_0 n
file_0_again (Plain n) = refl
file_0_again (Pair f n) = refl

-- choices
choices_back : (choices : List Choice) → map (renamed_choice gather) (map (renamed_choice spread) choices) ≡ choices
choices_back [] = refl
choices_back (c ∷ choices) =
    let one : renamed_choice gather (renamed_choice spread c) ≡ c = ap (λ (z : List ℕ). renamed_choice (λ n. z) c) (gathered c.name) in
    ap (λ (z : Choice). z ∷ map (renamed_choice gather) (map (renamed_choice spread) choices)) one ∙ ap (λ (z : List Choice). c ∷ z) (choices_back choices)

-- fields
fields_back : (fields : List (levels.SoundField NamesBack FieldNamesBack)) → map (renamed_field gather) (map (renamed_field spread) (map (levels.field_of NamesBack FieldNamesBack) fields)) ≡ map (field_with file_0) (map (levels.field_of NamesBack FieldNamesBack) fields)
fields_back [] = refl
fields_back (f ∷ fields) = ap (λ (z : Field). z ∷ map (renamed_field gather) (map (renamed_field spread) (map (levels.field_of NamesBack FieldNamesBack) fields))) f.1 ∙ ap (λ (z : List Field). field_with file_0 f.0 ∷ z) (fields_back fields)

-- the level after both
abbrev twice_level : TypeTree-F TypeTree Field → TypeTree-F TypeTree Field
twice_level x = renamed_level gather (renamed_level spread x)

names_level : (y : TypeTree-F (levels.SoundTree NamesBack FieldNamesBack) (levels.SoundField NamesBack FieldNamesBack)) → twice_level (levels.level NamesBack FieldNamesBack y) ≡ with_level file_0 (levels.level NamesBack FieldNamesBack y)
names_level (TypeTree-F.Ref n) = ap (λ (z : Num). TypeTree-F.Ref z) (file_0_again n)
names_level (TypeTree-F.Def n t) = ap (λ (z : Num). TypeTree-F.Def z (renamed gather (renamed spread t.0))) (file_0_again n) ∙ ap (λ (z : TypeTree). TypeTree-F.Def (num_with file_0 n) z) t.1
names_level (TypeTree-F.Pointer t) = ap (λ (z : TypeTree). TypeTree-F.Pointer z) t.1
names_level (TypeTree-F.Function t) = ap (λ (z : TypeTree). TypeTree-F.Function z) t.1
names_level (TypeTree-F.Const t) = ap (λ (z : TypeTree). TypeTree-F.Const z) t.1
names_level (TypeTree-F.Volatile t) = ap (λ (z : TypeTree). TypeTree-F.Volatile z) t.1
names_level (TypeTree-F.Range t low high) = ap (λ (z : TypeTree). TypeTree-F.Range z low high) t.1
names_level (TypeTree-F.Array i low high t) = ap (λ (z : TypeTree). TypeTree-F.Array z low high (renamed gather (renamed spread t.0))) i.1 ∙ ap (λ (z : TypeTree). TypeTree-F.Array (tree_with file_0 i.0) low high z) t.1
names_level (TypeTree-F.Struct size fields) = ap (λ (z : List Field). TypeTree-F.Struct size z) (fields_back fields)
names_level (TypeTree-F.Union size fields) = ap (λ (z : List Field). TypeTree-F.Union size z) (fields_back fields)
names_level (TypeTree-F.Enum choices) = ap (λ (z : List Choice). TypeTree-F.Enum z) (choices_back choices)
names_level (TypeTree-F.Cross tag name) = ap (λ (z : List ℕ). TypeTree-F.Cross tag z) (gathered name)
names_level (TypeTree-F.Sized bits t) = ap (λ (z : TypeTree). TypeTree-F.Sized bits z) t.1
names_level (TypeTree-F.Builtin n) = refl
names_level (TypeTree-F.Real a b c) = refl

names_tree : (y : TypeTree-F (levels.SoundTree NamesBack FieldNamesBack) (levels.SoundField NamesBack FieldNamesBack)) → NamesBack (roll-TypeTree (levels.level NamesBack FieldNamesBack y))
names_tree y =
    let x = levels.level NamesBack FieldNamesBack y in
    fold-renamed spread TypeTree Field (roll_renamed gather) (roll_renamed_field gather) x ∙ ap (λ (z : TypeTree-F TypeTree Field). roll-TypeTree z) (names_level y) ∙ sym (with-roll file_0 x)

names_field : (y : Field-F (levels.SoundTree NamesBack FieldNamesBack) (levels.SoundField NamesBack FieldNamesBack)) → FieldNamesBack (roll-Field (levels.field_level NamesBack FieldNamesBack y))
names_field y =
    let f = levels.field_level NamesBack FieldNamesBack y in
    fold-renamed-field spread TypeTree Field (roll_renamed gather) (roll_renamed_field gather) f
    ∙ ap (λ (z : List ℕ). roll-Field (record { name = z; tree = renamed gather (renamed spread y.tree.0); bit = y.bit; bits = y.bits })) (gathered y.name)
    ∙ ap (λ (z : TypeTree). roll-Field (record { name = y.name; tree = z; bit = y.bit; bits = y.bits })) y.tree.1
    ∙ sym (fold-roll-Field TypeTree Field (with_step file_0) roll-Field f)

-- with the names as they were there is the type with 0 for each file
pub names_back : (t : TypeTree) → renamed gather (renamed spread t) ≡ tree_with file_0 t
names_back = levels.by_levels NamesBack FieldNamesBack names_tree names_field
