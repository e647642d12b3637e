-- A law of types and fields is proved one level at a time: for each form, where the types and fields inside keep it.
use Rattle.std.proofs.Common.{subst}
use Rattle.stab_symbols.specs.declared.tree.Field.{Field, roll-Field}
use Rattle.stab_symbols.specs.declared.tree.TypeTree.{TypeTree}
use Rattle.stab_symbols.specs.declared.tree.TypeTree.TheOpen.{TypeTree-F, Field-F}
use Rattle.stab_symbols.specs.declared.tree.TypeTree.TheViews.{roll-TypeTree}
use Rattle.stab_symbols.specs.declared.tree.TypeTree.TheFolds.{map-TypeTree, map-Field, ind-TypeTree}

module _ (P : TypeTree → Type 0) (Q : Field → Type 0) where
  -- a type that keeps the law
  abbrev pub SoundTree : Type 0
  SoundTree = (t : TypeTree) × P t

  -- a field that keeps it
  abbrev pub SoundField : Type 0
  SoundField = (f : Field) × Q f

  abbrev pub tree_of : SoundTree → TypeTree
  tree_of s = s.0

  abbrev pub field_of : SoundField → Field
  field_of s = s.0

  -- a level of types and fields that keep the law
  abbrev pub level : TypeTree-F SoundTree SoundField → TypeTree-F TypeTree Field
  level y = map-TypeTree SoundTree SoundField TypeTree Field tree_of field_of y

  -- a field whose type keeps it
  abbrev pub field_level : Field-F SoundTree SoundField → Field-F TypeTree Field
  field_level y = map-Field SoundTree SoundField TypeTree Field tree_of field_of y

  -- the law holds of every type
  pub by_levels : ((y : TypeTree-F SoundTree SoundField) → P (roll-TypeTree (level y))) → ((y : Field-F SoundTree SoundField) → Q (roll-Field (field_level y))) → (t : TypeTree) → P t
  by_levels tree field = ind-TypeTree P Q
      (λ x y e. subst (λ (z : TypeTree-F TypeTree Field). P (roll-TypeTree z)) e (tree y))
      (λ x y e. subst (λ (z : Field-F TypeTree Field). Q (roll-Field z)) e (field y))
