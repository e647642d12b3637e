-- A type is known by itself with other files and by its own files: these are put back from left to right.
use Rattle.std.proofs.Common.{◌≡◌, ℕ, true, List, [], ◌∷◌, ◌++◌, map, refl, sym, ap, ◌∙◌, append_assoc, append-nil}
use Rattle.std.proofs.lemmas.Grind.{flat_map-append}
use Rattle.std.specs.Prelude.{flat_map}
use Rattle.stab_symbols.specs.declared.tree.Num.{Num}
use Rattle.stab_symbols.specs.declared.tree.Num.TheVariants.{Plain, Pair}
use Rattle.stab_symbols.specs.declared.tree.Field.{Field, roll-Field}
use Rattle.stab_symbols.specs.declared.tree.TypeTree.{TypeTree}
use Rattle.stab_symbols.specs.declared.tree.TypeTree.TheVariants.{Ref, Def, Pointer, Function, Const, Volatile, Range, Array, Struct, Union, Enum, Cross, Sized, Builtin, Real}
use Rattle.stab_symbols.specs.declared.tree.TypeTree.TheVariants.{rolls-Ref, rolls-Def, rolls-Pointer, rolls-Function, rolls-Const, rolls-Volatile, rolls-Range, rolls-Array, rolls-Struct, rolls-Union, rolls-Enum, rolls-Cross, rolls-Sized, rolls-Builtin, rolls-Real}
use Rattle.stab_symbols.specs.declared.tree.TypeTree.TheOpen.{TypeTree-F, Field-F}
use Rattle.stab_symbols.specs.declared.tree.TypeTree.TheViews.{roll-TypeTree}
use Rattle.stab_symbols.specs.declared.tree.TypeTree.TheFolds.{fold-TypeTree, fold-Field, fold-roll-TypeTree, fold-roll-Field, map-TypeTree}
use Rattle.stab_symbols.specs.Files.{file_in, files_in, num_with, tree_with, field_with}
use Rattle.stab_symbols.specs.TypeWalks.{all_of_them, field_numbers, numbers_step, numbers_in_field, all_numbers}
use Rattle.stab_symbols.proofs.Levels as levels
use Rattle.stab_grammar.proofs.WithFiles.{with_level, fold-with, fold-with-field}

-- ---- one after another

-- from the files that are left a value is made, and files are left
abbrev Taking : Type 0 → Type 0
Taking A = List ℕ → A × List ℕ

-- what was made is made into something else
abbrev remade : {A B : Type 0} → (A → B) → A × List ℕ → B × List ℕ
remade make x = (make x.0, x.1)

-- a pair takes one file
abbrev take_num : Num → Taking Num
take_num (Plain n) files = (Plain n, files)
take_num (Pair f n) [] = (Pair f n, [])
take_num (Pair f n) (g ∷ files) = (Pair g n, files)

-- the fields take theirs, one after another
abbrev take_fields : List (Taking Field) → Taking (List Field)
take_fields [] files = ([], files)
take_fields (f ∷ fields) files = let a = f files in remade (λ (z : List Field). a.0 ∷ z) (take_fields fields a.1)

-- one level of a type, the types and fields inside taking theirs from left to right
abbrev take_step : TypeTree-F (Taking TypeTree) (Taking Field) → Taking TypeTree
take_step (TypeTree-F.Ref n) files = remade Ref (take_num n files)
take_step (TypeTree-F.Def n t) files = let a = take_num n files in remade (Def a.0) (t a.1)
take_step (TypeTree-F.Pointer t) files = remade Pointer (t files)
take_step (TypeTree-F.Function t) files = remade Function (t files)
take_step (TypeTree-F.Const t) files = remade Const (t files)
take_step (TypeTree-F.Volatile t) files = remade Volatile (t files)
take_step (TypeTree-F.Range t low high) files = remade (λ (z : TypeTree). Range z low high) (t files)
take_step (TypeTree-F.Array i low high t) files = let a = i files in remade (Array a.0 low high) (t a.1)
take_step (TypeTree-F.Struct size fields) files = remade (Struct size) (take_fields fields files)
take_step (TypeTree-F.Union size fields) files = remade (Union size) (take_fields fields files)
take_step (TypeTree-F.Enum choices) files = (Enum choices, files)
take_step (TypeTree-F.Cross tag name) files = (Cross tag name, files)
take_step (TypeTree-F.Sized bits t) files = remade (Sized bits) (t files)
take_step (TypeTree-F.Builtin n) files = (Builtin n, files)
take_step (TypeTree-F.Real a b c) files = (Real a b c, files)

-- a field with this type
abbrev field_from : {A B : Type 0} → Field-F A B → TypeTree → Field
field_from f t = roll-Field (record { name = f.name; tree = t; bit = f.bit; bits = f.bits })

-- a field takes those of its type
abbrev take_field_step : Field-F (Taking TypeTree) (Taking Field) → Taking Field
take_field_step f files = remade (field_from f) (f.tree files)

-- a type takes its files
abbrev take_tree : TypeTree → Taking TypeTree
take_tree = fold-TypeTree (Taking TypeTree) (Taking Field) take_step take_field_step

-- a field
abbrev take_field : Field → Taking Field
take_field = fold-Field (Taking TypeTree) (Taking Field) take_step take_field_step

module _ (change : ℕ → ℕ) where
  -- with its own files it is the type again, and all other files are left
  abbrev Back : TypeTree → Type 0
  Back t = (rest : List ℕ) → take_tree (tree_with change t) (files_in t ++ rest) ≡ (t, rest)

  abbrev FieldBack : Field → Type 0
  FieldBack f = (rest : List ℕ) → take_field (field_with change f) (flat_map file_in (numbers_in_field true f) ++ rest) ≡ (f, rest)

  abbrev Tree : Type 0
  Tree = levels.SoundTree Back FieldBack

  abbrev Member : Type 0
  Member = levels.SoundField Back FieldBack

  -- a number
  num_back : (n : Num) (rest : List ℕ) → take_num (num_with change n) (file_in n ++ rest) ≡ (n, rest)
  num_back (Plain n) rest = refl
  num_back (Pair f n) rest = refl

  -- fields
  fields_back : (fields : List Member) (rest : List ℕ) → take_fields (map take_field (map (field_with change) (map (levels.field_of Back FieldBack) fields))) (flat_map file_in (flat_map all_of_them (map (numbers_in_field true) (map (levels.field_of Back FieldBack) fields))) ++ rest) ≡ (map (levels.field_of Back FieldBack) fields, rest)
  fields_back [] rest = refl
  fields_back (f ∷ fields) rest =
      let others : List Num = flat_map all_of_them (map (numbers_in_field true) (map (levels.field_of Back FieldBack) fields)) in
      rw (flat_map-append file_in (numbers_in_field true f.0) others, append_assoc (flat_map file_in (numbers_in_field true f.0)) (flat_map file_in others) rest, f.1, fields_back fields rest) refl

  -- the ways of the types and fields inside
  ways : TypeTree-F TypeTree Field → TypeTree-F (Taking TypeTree) (Taking Field)
  ways x = map-TypeTree TypeTree Field (Taking TypeTree) (Taking Field) take_tree take_field x

  number_texts : TypeTree-F TypeTree Field → TypeTree-F (List Num) (List Num)
  number_texts x = map-TypeTree TypeTree Field (List Num) (List Num) all_numbers (numbers_in_field true) x

  back_level : (y : TypeTree-F Tree Member) (rest : List ℕ) → take_step (ways (with_level change (levels.level Back FieldBack y))) (flat_map file_in (numbers_step true (number_texts (levels.level Back FieldBack y))) ++ rest) ≡ (roll-TypeTree (levels.level Back FieldBack y), rest)
  unfolding ways number_texts
  back_level (TypeTree-F.Ref n) rest = rw (append-nil (file_in n), num_back n rest, rolls-Ref n) refl
  back_level (TypeTree-F.Def n t) rest = rw (append_assoc (file_in n) (files_in t.0) rest, num_back n (files_in t.0 ++ rest), t.1 rest, rolls-Def n t.0) refl
  back_level (TypeTree-F.Pointer t) rest = rw (t.1 rest, rolls-Pointer t.0) refl
  back_level (TypeTree-F.Function t) rest = rw (t.1 rest, rolls-Function t.0) refl
  back_level (TypeTree-F.Const t) rest = rw (t.1 rest, rolls-Const t.0) refl
  back_level (TypeTree-F.Volatile t) rest = rw (t.1 rest, rolls-Volatile t.0) refl
  back_level (TypeTree-F.Range t low high) rest = rw (t.1 rest, rolls-Range t.0 low high) refl
  back_level (TypeTree-F.Array i low high t) rest = rw (flat_map-append file_in (all_numbers i.0) (all_numbers t.0), append_assoc (files_in i.0) (files_in t.0) rest, i.1 (files_in t.0 ++ rest), t.1 rest, rolls-Array i.0 low high t.0) refl
  back_level (TypeTree-F.Struct size fields) rest = rw (fields_back fields rest, rolls-Struct size (map (levels.field_of Back FieldBack) fields)) refl
  back_level (TypeTree-F.Union size fields) rest = rw (fields_back fields rest, rolls-Union size (map (levels.field_of Back FieldBack) fields)) refl
  back_level (TypeTree-F.Enum choices) rest = rw (rolls-Enum choices) refl
  back_level (TypeTree-F.Cross tag name) rest = rw (rolls-Cross tag name) refl
  back_level (TypeTree-F.Sized bits t) rest = rw (t.1 rest, rolls-Sized bits t.0) refl
  back_level (TypeTree-F.Builtin n) rest = rw (rolls-Builtin n) refl
  back_level (TypeTree-F.Real a b c) rest = rw (rolls-Real a b c) refl

  back_tree : (y : TypeTree-F Tree Member) → Back (roll-TypeTree (levels.level Back FieldBack y))
  unfolding ways number_texts
  back_tree y rest =
      let x = levels.level Back FieldBack y in
      let files : files_in (roll-TypeTree x) ≡ flat_map file_in (numbers_step true (number_texts x)) = ap (flat_map file_in) (fold-roll-TypeTree (List Num) (List Num) (numbers_step true) field_numbers x) in
      ap (λ (z : Taking TypeTree). z (files_in (roll-TypeTree x) ++ rest)) (fold-with (Taking TypeTree) (Taking Field) take_step take_field_step change x)
      ∙ ap (λ (z : List ℕ). take_step (ways (with_level change x)) (z ++ rest)) files
      ∙ back_level y rest

  back_field : (y : Field-F Tree Member) → FieldBack (roll-Field (levels.field_level Back FieldBack y))
  back_field y rest =
      let f = levels.field_level Back FieldBack y in
      let files : flat_map file_in (numbers_in_field true (roll-Field f)) ≡ files_in y.tree.0 = ap (flat_map file_in) (fold-roll-Field (List Num) (List Num) (numbers_step true) field_numbers f) in
      ap (λ (z : Taking Field). z (flat_map file_in (numbers_in_field true (roll-Field f)) ++ rest)) (fold-with-field (Taking TypeTree) (Taking Field) take_step take_field_step change f)
      ∙ ap (λ (z : List ℕ). remade (field_from f) (take_tree (tree_with change y.tree.0) (z ++ rest))) files
      ∙ ap (remade (field_from f)) (y.tree.1 rest)

  -- with its own files a type is itself again
  pub put_back : (t : TypeTree) (rest : List ℕ) → take_tree (tree_with change t) (files_in t ++ rest) ≡ (t, rest)
  put_back = levels.by_levels Back FieldBack back_tree back_field

  -- two types that are one with other files, and have the same files, are one
  pub known : (s t : TypeTree) → tree_with change s ≡ tree_with change t → files_in s ≡ files_in t → s ≡ t
  known s t e f =
      let both : (s, []) ≡ (t, []) = sym (put_back s []) ∙ ap (λ (z : TypeTree). take_tree z (files_in s ++ [])) e ∙ ap (λ (z : List ℕ). take_tree (tree_with change t) (z ++ [])) f ∙ put_back t [] in
      ap (λ (z : TypeTree × List ℕ). z.0) both
