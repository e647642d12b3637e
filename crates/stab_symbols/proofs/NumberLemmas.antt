-- The numbers in a type, by the forms of types; `entered` says whether those after an `=` are entered.
use Rattle.std.proofs.Common.{◌≡◌, ℕ, Bool, List, [], ◌∷◌, ◌++◌, refl, sym, ap, ◌∙◌}
use Rattle.std.specs.Prelude.{map, flat_map}
use Rattle.stab_symbols.specs.declared.tree.Num.{Num}
use Rattle.stab_symbols.specs.declared.tree.Numeral.{Numeral}
use Rattle.stab_symbols.specs.declared.tree.Choice.{Choice}
use Rattle.stab_symbols.specs.declared.tree.Tag.{Tag}
use Rattle.stab_symbols.specs.declared.tree.Field.{Field}
use Rattle.stab_symbols.specs.declared.tree.TypeTree.{TypeTree}
use Rattle.stab_symbols.specs.declared.tree.TypeTree.TheVariants.{Ref, Def, Pointer, Function, Const, Volatile, Range, Array, Struct, Union, Enum, Cross, Sized, Builtin, Real, rolls-Ref, rolls-Def, rolls-Pointer, rolls-Function, rolls-Const, rolls-Volatile, rolls-Range, rolls-Array, rolls-Struct, rolls-Union, rolls-Enum, rolls-Cross, rolls-Sized, rolls-Builtin, rolls-Real}
use Rattle.stab_symbols.specs.declared.tree.TypeTree.TheOpen.{TypeTree-F}
use Rattle.stab_symbols.specs.declared.tree.TypeTree.TheViews.{roll-TypeTree}
use Rattle.stab_symbols.specs.declared.tree.TypeTree.TheFolds.{fold-roll-TypeTree, fold-roll-Field, map-TypeTree}
use Rattle.stab_symbols.specs.TypeWalks.{all_of_them, behind, field_numbers, numbers_step, numbers_in, numbers_in_field}
use Rattle.stab_symbols.proofs.DefinitionLemmas.{parts_of}

module _ (entered : Bool) where
  at_level : (x : TypeTree-F TypeTree Field) → numbers_in entered (roll-TypeTree x) ≡ numbers_step entered (map-TypeTree TypeTree Field (List Num) (List Num) (numbers_in entered) (numbers_in_field entered) x)
  at_level x = fold-roll-TypeTree (List Num) (List Num) (numbers_step entered) field_numbers x

  each_field : (fields : List Field) → flat_map all_of_them (map (numbers_in_field entered) fields) ≡ flat_map (numbers_in_field entered) fields
  each_field [] = refl
  each_field (field ∷ fields) = ap (λ (numbers : List Num). numbers_in_field entered field ++ numbers) (each_field fields)

  -- a number alone
  pub numbers-Ref : (n : Num) → numbers_in entered (Ref n) ≡ n ∷ []
  numbers-Ref n = ap (numbers_in entered) (sym (rolls-Ref n)) ∙ at_level (TypeTree-F.Ref n)

  -- a number, and those in its definition if these are entered
  pub numbers-Def : (n : Num) (t : TypeTree) → numbers_in entered (Def n t) ≡ n ∷ behind entered (numbers_in entered t)
  numbers-Def n t = ap (numbers_in entered) (sym (rolls-Def n t)) ∙ at_level (TypeTree-F.Def n t)

  -- those of a pointer, a function, and a type that is constant or volatile, are those inside
  pub numbers-Pointer : (t : TypeTree) → numbers_in entered (Pointer t) ≡ numbers_in entered t
  numbers-Pointer t = ap (numbers_in entered) (sym (rolls-Pointer t)) ∙ at_level (TypeTree-F.Pointer t)

  pub numbers-Function : (t : TypeTree) → numbers_in entered (Function t) ≡ numbers_in entered t
  numbers-Function t = ap (numbers_in entered) (sym (rolls-Function t)) ∙ at_level (TypeTree-F.Function t)

  pub numbers-Const : (t : TypeTree) → numbers_in entered (Const t) ≡ numbers_in entered t
  numbers-Const t = ap (numbers_in entered) (sym (rolls-Const t)) ∙ at_level (TypeTree-F.Const t)

  pub numbers-Volatile : (t : TypeTree) → numbers_in entered (Volatile t) ≡ numbers_in entered t
  numbers-Volatile t = ap (numbers_in entered) (sym (rolls-Volatile t)) ∙ at_level (TypeTree-F.Volatile t)

  -- and so with a range
  pub numbers-Range : (t : TypeTree) (low high : Numeral) → numbers_in entered (Range t low high) ≡ numbers_in entered t
  numbers-Range t low high = ap (numbers_in entered) (sym (rolls-Range t low high)) ∙ at_level (TypeTree-F.Range t low high)

  -- those of an array are those of its index, and then those of its items
  pub numbers-Array : (i : TypeTree) (low high : Numeral) (t : TypeTree) → numbers_in entered (Array i low high t) ≡ numbers_in entered i ++ numbers_in entered t
  numbers-Array i low high t = ap (numbers_in entered) (sym (rolls-Array i low high t)) ∙ at_level (TypeTree-F.Array i low high t)

  -- those of a structure or union are those of its fields
  pub numbers-Struct : (size : ℕ) (fields : List Field) → numbers_in entered (Struct size fields) ≡ flat_map (numbers_in_field entered) fields
  numbers-Struct size fields = ap (numbers_in entered) (sym (rolls-Struct size fields)) ∙ at_level (TypeTree-F.Struct size fields) ∙ each_field fields

  pub numbers-Union : (size : ℕ) (fields : List Field) → numbers_in entered (Union size fields) ≡ flat_map (numbers_in_field entered) fields
  numbers-Union size fields = ap (numbers_in entered) (sym (rolls-Union size fields)) ∙ at_level (TypeTree-F.Union size fields) ∙ each_field fields

  -- an enumeration and a cross reference have none
  pub numbers-Enum : (choices : List Choice) → numbers_in entered (Enum choices) ≡ []
  numbers-Enum choices = ap (numbers_in entered) (sym (rolls-Enum choices)) ∙ at_level (TypeTree-F.Enum choices)

  pub numbers-Cross : (tag : Tag) (name : List ℕ) → numbers_in entered (Cross tag name) ≡ []
  numbers-Cross tag name = ap (numbers_in entered) (sym (rolls-Cross tag name)) ∙ at_level (TypeTree-F.Cross tag name)

  -- those of a type with its size are those inside
  pub numbers-Sized : (bits : ℕ) (t : TypeTree) → numbers_in entered (Sized bits t) ≡ numbers_in entered t
  numbers-Sized bits t = ap (numbers_in entered) (sym (rolls-Sized bits t)) ∙ at_level (TypeTree-F.Sized bits t)

  -- types known by numbers have none
  pub numbers-Builtin : (n : ℕ) → numbers_in entered (Builtin n) ≡ []
  numbers-Builtin n = ap (numbers_in entered) (sym (rolls-Builtin n)) ∙ at_level (TypeTree-F.Builtin n)

  pub numbers-Real : (a b c : ℕ) → numbers_in entered (Real a b c) ≡ []
  numbers-Real a b c = ap (numbers_in entered) (sym (rolls-Real a b c)) ∙ at_level (TypeTree-F.Real a b c)

  -- those of a field are those of its type
  pub numbers-field : (f : Field) → numbers_in_field entered f ≡ numbers_in entered f.tree
  numbers-field f = fold-roll-Field (List Num) (List Num) (numbers_step entered) field_numbers (parts_of f)
