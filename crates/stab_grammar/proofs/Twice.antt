-- A type whose files are changed twice is the type with both changes at once.
use Rattle.std.proofs.Common.{◌≡◌, ℕ, List, [], ◌∷◌, map, refl, sym, ap, ◌∙◌}
use Rattle.stab_symbols.specs.declared.tree.Num.{Num}
use Rattle.stab_symbols.specs.declared.tree.Num.TheVariants.{Plain, Pair}
use Rattle.stab_symbols.specs.declared.tree.Field.{Field, roll-Field}
use Rattle.stab_symbols.specs.declared.tree.TypeTree.{TypeTree}
use Rattle.stab_symbols.specs.declared.tree.TypeTree.TheVariants.{Ref, Def, Pointer, Function, Const, Volatile, Range, Array, Struct, Union, Sized}
use Rattle.stab_symbols.specs.declared.tree.TypeTree.TheOpen.{TypeTree-F, Field-F}
use Rattle.stab_symbols.specs.declared.tree.TypeTree.TheViews.{roll-TypeTree}
use Rattle.stab_symbols.specs.declared.tree.TypeTree.TheFolds.{fold-roll-TypeTree, fold-roll-Field, map-TypeTree}
use Rattle.stab_symbols.specs.Files.{num_with, with_step, tree_with, field_with}
use Rattle.stab_symbols.proofs.Levels as levels
use Rattle.stab_grammar.proofs.WithFiles.{with_level, fold-with, fold-with-field, with_tree}

module _ (first second : ℕ → ℕ) where
  -- the first change, and then the second
  abbrev both : ℕ → ℕ
  both file = second (first file)

  abbrev AtOnce : TypeTree → Type 0
  AtOnce t = tree_with second (tree_with first t) ≡ tree_with both t

  abbrev FieldAtOnce : Field → Type 0
  FieldAtOnce f = field_with second (field_with first f) ≡ field_with both f

  abbrev Tree : Type 0
  Tree = levels.SoundTree AtOnce FieldAtOnce

  abbrev Member : Type 0
  Member = levels.SoundField AtOnce FieldAtOnce

  abbrev plain : List Member → List Field
  plain = map (levels.field_of AtOnce FieldAtOnce)

  -- a number
  num_at_once : (n : Num) → num_with second (num_with first n) ≡ num_with both n
  num_at_once (Plain n) = refl
  num_at_once (Pair f n) = refl

  one_more : (f g : Field) (fs gs : List Field) → f ≡ g → fs ≡ gs → f ∷ fs ≡ g ∷ gs
  one_more f g fs gs e h = cc

  -- fields
  fields_at_once : (fields : List Member) → map (field_with second) (map (field_with first) (plain fields)) ≡ map (field_with both) (plain fields)
  fields_at_once [] = refl
  fields_at_once (f ∷ fields) = one_more _ _ _ _ f.1 (fields_at_once fields)

  changed_parts : (ℕ → ℕ) → TypeTree-F TypeTree Field → TypeTree-F TypeTree Field
  changed_parts change x = map-TypeTree TypeTree Field TypeTree Field (tree_with change) (field_with change) x

  level_at_once : (y : TypeTree-F Tree Member) → with_step second (changed_parts second (with_level first (levels.level AtOnce FieldAtOnce y))) ≡ with_step both (changed_parts both (levels.level AtOnce FieldAtOnce y))
  unfolding changed_parts
  level_at_once (TypeTree-F.Ref n) = ap (λ (z : Num). Ref z) (num_at_once n)
  level_at_once (TypeTree-F.Def n t) = ap (λ (z : Num). Def z (tree_with second (tree_with first t.0))) (num_at_once n) ∙ ap (λ (z : TypeTree). Def (num_with both n) z) t.1
  level_at_once (TypeTree-F.Pointer t) = ap (λ (z : TypeTree). Pointer z) t.1
  level_at_once (TypeTree-F.Function t) = ap (λ (z : TypeTree). Function z) t.1
  level_at_once (TypeTree-F.Const t) = ap (λ (z : TypeTree). Const z) t.1
  level_at_once (TypeTree-F.Volatile t) = ap (λ (z : TypeTree). Volatile z) t.1
  level_at_once (TypeTree-F.Range t low high) = ap (λ (z : TypeTree). Range z low high) t.1
  level_at_once (TypeTree-F.Array i low high t) =
      ap (λ (z : TypeTree). Array z low high (tree_with second (tree_with first t.0))) i.1 ∙ ap (λ (z : TypeTree). Array (tree_with both i.0) low high z) t.1
  level_at_once (TypeTree-F.Struct size fields) = ap (λ (z : List Field). Struct size z) (fields_at_once fields)
  level_at_once (TypeTree-F.Union size fields) = ap (λ (z : List Field). Union size z) (fields_at_once fields)
  level_at_once (TypeTree-F.Enum choices) = refl
  level_at_once (TypeTree-F.Cross tag name) = refl
  level_at_once (TypeTree-F.Sized bits t) = ap (λ (z : TypeTree). Sized bits z) t.1
  level_at_once (TypeTree-F.Builtin n) = refl
  level_at_once (TypeTree-F.Real a b c) = refl

  tree_at_once : (y : TypeTree-F Tree Member) → AtOnce (roll-TypeTree (levels.level AtOnce FieldAtOnce y))
  unfolding changed_parts
  tree_at_once y =
      let x = levels.level AtOnce FieldAtOnce y in
      fold-with TypeTree Field (with_step second) roll-Field first x ∙ level_at_once y ∙ sym (fold-roll-TypeTree TypeTree Field (with_step both) roll-Field x)

  field_at_once : (y : Field-F Tree Member) → FieldAtOnce (roll-Field (levels.field_level AtOnce FieldAtOnce y))
  field_at_once y =
      let f = levels.field_level AtOnce FieldAtOnce y in
      fold-with-field TypeTree Field (with_step second) roll-Field first f ∙ ap (with_tree y) y.tree.1 ∙ sym (fold-roll-Field TypeTree Field (with_step both) roll-Field f)

  -- two changes are one
  pub at_once : (t : TypeTree) → tree_with second (tree_with first t) ≡ tree_with both t
  at_once = levels.by_levels AtOnce FieldAtOnce tree_at_once field_at_once
