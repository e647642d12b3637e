-- A type with other files: its shape stays, and its files are the changed ones in the same order.
use Rattle.std.proofs.Common.{◌≡◌, ℕ, true, false, List, [], ◌∷◌, ◌++◌, map, refl, sym, ap, ◌∙◌}
use Rattle.std.specs.Prelude.{decimal, flat_map}
use Rattle.std.proofs.lemmas.List.{map-append}
use Rattle.readers.specs.Spelling.{ended}
use Rattle.stab_symbols.specs.declared.tree.Num.{Num}
use Rattle.stab_symbols.specs.declared.tree.Num.TheVariants.{Plain, Pair}
use Rattle.stab_symbols.specs.declared.tree.Field.{Field, roll-Field}
use Rattle.stab_symbols.specs.declared.tree.TypeTree.{TypeTree}
use Rattle.stab_symbols.specs.declared.tree.TypeTree.TheVariants.{rolls-Ref, rolls-Def, rolls-Pointer, rolls-Function, rolls-Const, rolls-Volatile, rolls-Range, rolls-Array, rolls-Struct, rolls-Union, rolls-Enum, rolls-Cross, rolls-Sized, rolls-Builtin, rolls-Real}
use Rattle.stab_symbols.specs.declared.tree.TypeTree.TheOpen.{TypeTree-F, Field-F}
use Rattle.stab_symbols.specs.declared.tree.TypeTree.TheViews.{roll-TypeTree}
use Rattle.stab_symbols.specs.declared.tree.TypeTree.TheFolds.{fold-TypeTree, fold-Field, fold-roll-TypeTree, fold-roll-Field, map-TypeTree, map-Field}
use Rattle.stab_symbols.specs.SymbolSpelling.{numeral, same, field_step}
use Rattle.stab_symbols.specs.Printing.{level_text}
use Rattle.stab_symbols.specs.Files.{file_in, files_in, num_shape, tree_shape, field_shape, num_with, with_step, tree_with, field_with}
use Rattle.stab_symbols.specs.TypeWalks.{all_of_them, field_numbers, numbers_step, numbers_in_field, all_numbers}
use Rattle.stab_symbols.proofs.Levels as levels

-- ---- one level

-- one level of a shape
abbrev pub shape_step : TypeTree-F (List ℕ) (List ℕ) → List ℕ
shape_step = level_text num_shape false

-- one level of a type with the file changed; all else stays
abbrev pub changed : (ℕ → ℕ) → TypeTree-F TypeTree Field → TypeTree-F TypeTree Field
changed change (TypeTree-F.Ref n) = TypeTree-F.Ref (num_with change n)
changed change (TypeTree-F.Def n t) = TypeTree-F.Def (num_with change n) t
changed change other = other

-- it is what the level is made of
with_is : (change : ℕ → ℕ) (x : TypeTree-F TypeTree Field) → with_step change x ≡ roll-TypeTree (changed change x)
with_is change (TypeTree-F.Ref n) = sym (rolls-Ref (num_with change n))
with_is change (TypeTree-F.Def n t) = sym (rolls-Def (num_with change n) t)
with_is change (TypeTree-F.Pointer t) = sym (rolls-Pointer t)
with_is change (TypeTree-F.Function t) = sym (rolls-Function t)
with_is change (TypeTree-F.Const t) = sym (rolls-Const t)
with_is change (TypeTree-F.Volatile t) = sym (rolls-Volatile t)
with_is change (TypeTree-F.Range t low high) = sym (rolls-Range t low high)
with_is change (TypeTree-F.Array i low high t) = sym (rolls-Array i low high t)
with_is change (TypeTree-F.Struct size fields) = sym (rolls-Struct size fields)
with_is change (TypeTree-F.Union size fields) = sym (rolls-Union size fields)
with_is change (TypeTree-F.Enum choices) = sym (rolls-Enum choices)
with_is change (TypeTree-F.Cross tag name) = sym (rolls-Cross tag name)
with_is change (TypeTree-F.Sized bits t) = sym (rolls-Sized bits t)
with_is change (TypeTree-F.Builtin n) = sym (rolls-Builtin n)
with_is change (TypeTree-F.Real a b c) = sym (rolls-Real a b c)

-- the level, once the types and fields inside have their files changed
abbrev pub with_level : (ℕ → ℕ) → TypeTree-F TypeTree Field → TypeTree-F TypeTree Field
with_level change x = changed change (map-TypeTree TypeTree Field TypeTree Field (tree_with change) (field_with change) x)

-- a type with other files is that level
pub with-roll : (change : ℕ → ℕ) (x : TypeTree-F TypeTree Field) → tree_with change (roll-TypeTree x) ≡ roll-TypeTree (with_level change x)
with-roll change x = fold-roll-TypeTree TypeTree Field (with_step change) roll-Field x ∙ with_is change (map-TypeTree TypeTree Field TypeTree Field (tree_with change) (field_with change) x)

-- a field with another type
abbrev pub with_tree : {A B : Type 0} → Field-F A B → TypeTree → Field
with_tree f t = roll-Field (record { name = f.name; tree = t; bit = f.bit; bits = f.bits })

-- what is folded over a type with other files is folded over that level
pub fold-with : (A B : Type 0) (S : TypeTree-F A B → A) (F : Field-F A B → B) (change : ℕ → ℕ) (x : TypeTree-F TypeTree Field) → fold-TypeTree A B S F (tree_with change (roll-TypeTree x)) ≡ S (map-TypeTree TypeTree Field A B (fold-TypeTree A B S F) (fold-Field A B S F) (with_level change x))
fold-with A B S F change x = ap (fold-TypeTree A B S F) (with-roll change x) ∙ fold-roll-TypeTree A B S F (with_level change x)

-- and so with a field
pub fold-with-field : (A B : Type 0) (S : TypeTree-F A B → A) (F : Field-F A B → B) (change : ℕ → ℕ) (f : Field-F TypeTree Field) → fold-Field A B S F (field_with change (roll-Field f)) ≡ F (map-Field TypeTree Field A B (fold-TypeTree A B S F) (fold-Field A B S F) (map-Field TypeTree Field TypeTree Field (tree_with change) (field_with change) f))
fold-with-field A B S F change f = ap (fold-Field A B S F) (fold-roll-Field TypeTree Field (with_step change) roll-Field f) ∙ fold-roll-Field A B S F (map-Field TypeTree Field TypeTree Field (tree_with change) (field_with change) f)

-- equal fronts and equal rests
pub joined : (p q r s : List ℕ) → p ≡ q → r ≡ s → p ++ r ≡ q ++ s
joined p q r s e f = cc

module _ (change : ℕ → ℕ) where
  -- ---- the shape stays

  abbrev SameShape : TypeTree → Type 0
  SameShape t = tree_shape (tree_with change t) ≡ tree_shape t

  abbrev SameFieldShape : Field → Type 0
  SameFieldShape f = field_shape (field_with change f) ≡ field_shape f

  -- the shape has no file
  num_shape_same : (n : Num) → num_shape (num_with change n) ≡ num_shape n
  num_shape_same (Plain n) = refl
  num_shape_same (Pair f n) = refl

  -- so of the fields
  fields_shape : (fields : List (levels.SoundField SameShape SameFieldShape)) → ended same (59 ∷ []) (map field_shape (map (field_with change) (map (levels.field_of SameShape SameFieldShape) fields))) ≡ ended same (59 ∷ []) (map field_shape (map (levels.field_of SameShape SameFieldShape) fields))
  fields_shape [] = refl
  fields_shape (f ∷ fields) = joined _ _ _ _ f.1 (fields_shape fields)

  shape_texts : TypeTree-F TypeTree Field → TypeTree-F (List ℕ) (List ℕ)
  shape_texts x = map-TypeTree TypeTree Field (List ℕ) (List ℕ) tree_shape field_shape x

  shape_level : (y : TypeTree-F (levels.SoundTree SameShape SameFieldShape) (levels.SoundField SameShape SameFieldShape)) → shape_step (shape_texts (with_level change (levels.level SameShape SameFieldShape y))) ≡ shape_step (shape_texts (levels.level SameShape SameFieldShape y))
  unfolding shape_texts
  shape_level (TypeTree-F.Ref n) = num_shape_same n
  shape_level (TypeTree-F.Def n t) = joined _ _ _ _ (num_shape_same n) (ap (λ (z : List ℕ). 61 ∷ z) t.1)
  shape_level (TypeTree-F.Pointer t) = ap (λ (z : List ℕ). 42 ∷ z) t.1
  shape_level (TypeTree-F.Function t) = ap (λ (z : List ℕ). 102 ∷ z) t.1
  shape_level (TypeTree-F.Const t) = ap (λ (z : List ℕ). 107 ∷ z) t.1
  shape_level (TypeTree-F.Volatile t) = ap (λ (z : List ℕ). 66 ∷ z) t.1
  shape_level (TypeTree-F.Range t low high) = ap (λ (z : List ℕ). 114 ∷ ((z ++ 59 ∷ []) ++ ((numeral low ++ 59 ∷ []) ++ (numeral high ++ 59 ∷ [])))) t.1
  shape_level (TypeTree-F.Array i low high t) =
      ap (λ (z : List ℕ). 97 ∷ (114 ∷ ((z ++ 59 ∷ []) ++ ((numeral low ++ 59 ∷ []) ++ ((numeral high ++ 59 ∷ []) ++ tree_shape (tree_with change t.0)))))) i.1
      ∙ ap (λ (z : List ℕ). 97 ∷ (114 ∷ ((tree_shape i.0 ++ 59 ∷ []) ++ ((numeral low ++ 59 ∷ []) ++ ((numeral high ++ 59 ∷ []) ++ z))))) t.1
  shape_level (TypeTree-F.Struct size fields) = ap (λ (z : List ℕ). 115 ∷ (decimal size ++ z)) (fields_shape fields)
  shape_level (TypeTree-F.Union size fields) = ap (λ (z : List ℕ). 117 ∷ (decimal size ++ z)) (fields_shape fields)
  shape_level (TypeTree-F.Enum choices) = refl
  shape_level (TypeTree-F.Cross tag name) = refl
  shape_level (TypeTree-F.Sized bits t) = ap (λ (z : List ℕ). 64 ∷ (115 ∷ ((decimal bits ++ 59 ∷ []) ++ z))) t.1
  shape_level (TypeTree-F.Builtin n) = refl
  shape_level (TypeTree-F.Real a b c) = refl

  shape_tree : (y : TypeTree-F (levels.SoundTree SameShape SameFieldShape) (levels.SoundField SameShape SameFieldShape)) → SameShape (roll-TypeTree (levels.level SameShape SameFieldShape y))
  unfolding shape_texts
  shape_tree y =
      let x = levels.level SameShape SameFieldShape y in
      fold-with (List ℕ) (List ℕ) shape_step field_step change x ∙ shape_level y ∙ sym (fold-roll-TypeTree (List ℕ) (List ℕ) shape_step field_step x)

  shape_field : (y : Field-F (levels.SoundTree SameShape SameFieldShape) (levels.SoundField SameShape SameFieldShape)) → SameFieldShape (roll-Field (levels.field_level SameShape SameFieldShape y))
  shape_field y =
      let f = levels.field_level SameShape SameFieldShape y in
      let tail : List ℕ = (decimal y.bit ++ 44 ∷ []) ++ (decimal y.bits ++ 59 ∷ []) in
      fold-with-field (List ℕ) (List ℕ) shape_step field_step change f
      ∙ ap (λ (z : List ℕ). (y.name ++ 58 ∷ []) ++ ((z ++ 44 ∷ []) ++ tail)) y.tree.1
      ∙ sym (fold-roll-Field (List ℕ) (List ℕ) shape_step field_step f)

  -- a type with other files has the same shape
  pub shape-with : (t : TypeTree) → tree_shape (tree_with change t) ≡ tree_shape t
  shape-with = levels.by_levels SameShape SameFieldShape shape_tree shape_field

  -- ---- the files are the changed ones

  abbrev SameNumbers : TypeTree → Type 0
  SameNumbers t = all_numbers (tree_with change t) ≡ map (num_with change) (all_numbers t)

  abbrev SameFieldNumbers : Field → Type 0
  SameFieldNumbers f = numbers_in_field true (field_with change f) ≡ map (num_with change) (numbers_in_field true f)

  joined_numbers : (p q r s : List Num) → p ≡ q → r ≡ s → p ++ r ≡ q ++ s
  joined_numbers p q r s e f = cc

  -- those of the fields
  fields_numbers : (fields : List (levels.SoundField SameNumbers SameFieldNumbers)) → flat_map all_of_them (map (numbers_in_field true) (map (field_with change) (map (levels.field_of SameNumbers SameFieldNumbers) fields))) ≡ map (num_with change) (flat_map all_of_them (map (numbers_in_field true) (map (levels.field_of SameNumbers SameFieldNumbers) fields)))
  fields_numbers [] = refl
  fields_numbers (f ∷ fields) = joined_numbers _ _ _ _ f.1 (fields_numbers fields) ∙ sym (map-append (num_with change) (numbers_in_field true f.0) _)

  number_texts : TypeTree-F TypeTree Field → TypeTree-F (List Num) (List Num)
  number_texts x = map-TypeTree TypeTree Field (List Num) (List Num) all_numbers (numbers_in_field true) x

  numbers_level : (y : TypeTree-F (levels.SoundTree SameNumbers SameFieldNumbers) (levels.SoundField SameNumbers SameFieldNumbers)) → numbers_step true (number_texts (with_level change (levels.level SameNumbers SameFieldNumbers y))) ≡ map (num_with change) (numbers_step true (number_texts (levels.level SameNumbers SameFieldNumbers y)))
  unfolding number_texts
  numbers_level (TypeTree-F.Ref n) = refl
  numbers_level (TypeTree-F.Def n t) = ap (λ (z : List Num). num_with change n ∷ z) t.1
  numbers_level (TypeTree-F.Pointer t) = t.1
  numbers_level (TypeTree-F.Function t) = t.1
  numbers_level (TypeTree-F.Const t) = t.1
  numbers_level (TypeTree-F.Volatile t) = t.1
  numbers_level (TypeTree-F.Range t low high) = t.1
  numbers_level (TypeTree-F.Array i low high t) = joined_numbers _ _ _ _ i.1 t.1 ∙ sym (map-append (num_with change) (all_numbers i.0) (all_numbers t.0))
  numbers_level (TypeTree-F.Struct size fields) = fields_numbers fields
  numbers_level (TypeTree-F.Union size fields) = fields_numbers fields
  numbers_level (TypeTree-F.Enum choices) = refl
  numbers_level (TypeTree-F.Cross tag name) = refl
  numbers_level (TypeTree-F.Sized bits t) = t.1
  numbers_level (TypeTree-F.Builtin n) = refl
  numbers_level (TypeTree-F.Real a b c) = refl

  numbers_tree : (y : TypeTree-F (levels.SoundTree SameNumbers SameFieldNumbers) (levels.SoundField SameNumbers SameFieldNumbers)) → SameNumbers (roll-TypeTree (levels.level SameNumbers SameFieldNumbers y))
  unfolding number_texts
  numbers_tree y =
      let x = levels.level SameNumbers SameFieldNumbers y in
      fold-with (List Num) (List Num) (numbers_step true) field_numbers change x ∙ numbers_level y ∙ ap (map (num_with change)) (sym (fold-roll-TypeTree (List Num) (List Num) (numbers_step true) field_numbers x))

  numbers_field : (y : Field-F (levels.SoundTree SameNumbers SameFieldNumbers) (levels.SoundField SameNumbers SameFieldNumbers)) → SameFieldNumbers (roll-Field (levels.field_level SameNumbers SameFieldNumbers y))
  numbers_field y =
      let f = levels.field_level SameNumbers SameFieldNumbers y in
      fold-with-field (List Num) (List Num) (numbers_step true) field_numbers change f ∙ y.tree.1 ∙ ap (map (num_with change)) (sym (fold-roll-Field (List Num) (List Num) (numbers_step true) field_numbers f))

  -- the numbers of a type with other files are the changed ones, in the same order
  numbers-with : (t : TypeTree) → all_numbers (tree_with change t) ≡ map (num_with change) (all_numbers t)
  numbers-with = levels.by_levels SameNumbers SameFieldNumbers numbers_tree numbers_field

  -- so of their files
  each_file : (ns : List Num) → flat_map file_in (map (num_with change) ns) ≡ map change (flat_map file_in ns)
  each_file [] = refl
  each_file (Plain n ∷ ns) = each_file ns
  each_file (Pair f n ∷ ns) = ap (λ (z : List ℕ). change f ∷ z) (each_file ns)

  -- the files of a type with other files are the changed ones, in the same order
  pub files-with : (t : TypeTree) → files_in (tree_with change t) ≡ map change (files_in t)
  files-with t = ap (flat_map file_in) (numbers-with t) ∙ each_file (all_numbers t)
