-- The keys on the surface of a type, by the forms of types.
use Rattle.std.proofs.Common.{◌≡◌, ℕ, false, List, [], ◌∷◌, ◌++◌, map, refl, ap, ◌∙◌}
use Rattle.std.specs.Prelude.{flat_map}
use Rattle.std.proofs.lemmas.List.{map-append}
use Rattle.stab_symbols.specs.declared.tree.Key.{Key}
use Rattle.stab_symbols.specs.declared.tree.Num.{Num}
use Rattle.stab_symbols.specs.declared.tree.Numeral.{Numeral}
use Rattle.stab_symbols.specs.declared.tree.Choice.{Choice}
use Rattle.stab_symbols.specs.declared.tree.Tag.{Tag}
use Rattle.stab_symbols.specs.declared.tree.Field.{Field}
use Rattle.stab_symbols.specs.declared.tree.TypeTree.{TypeTree}
use Rattle.stab_symbols.specs.declared.tree.TypeTree.TheVariants.{Ref, Def, Pointer, Function, Const, Volatile, Range, Array, Struct, Union, Enum, Cross, Sized, Builtin, Real}
use Rattle.stab_symbols.specs.Keys.{key_of}
use Rattle.stab_symbols.specs.TypeWalks.{numbers_in, numbers_in_field}
use Rattle.stab_symbols.specs.Surface.{surface_of}
use Rattle.stab_symbols.proofs.NumberLemmas.{numbers-Ref, numbers-Def, numbers-Pointer, numbers-Function, numbers-Const, numbers-Volatile, numbers-Range, numbers-Array, numbers-Struct, numbers-Union, numbers-Enum, numbers-Cross, numbers-Sized, numbers-Builtin, numbers-Real, numbers-field}

-- the keys on the surface of a field's type
abbrev pub surface_of_field : Field → List Key
surface_of_field f = map key_of (numbers_in_field false f)

each_field : (fields : List Field) → map key_of (flat_map (numbers_in_field false) fields) ≡ flat_map surface_of_field fields
each_field [] = refl
each_field (field ∷ fields) = map-append key_of (numbers_in_field false field) (flat_map (numbers_in_field false) fields) ∙ ap (λ (keys : List Key). surface_of_field field ++ keys) (each_field fields)

-- a number is its own key, with or without a definition
pub surface-Ref : (n : Num) → surface_of (Ref n) ≡ key_of n ∷ []
surface-Ref n = ap (map key_of) (numbers-Ref false n)

pub surface-Def : (n : Num) (t : TypeTree) → surface_of (Def n t) ≡ key_of n ∷ []
surface-Def n t = ap (map key_of) (numbers-Def false n t)

-- those of a pointer, a function, and a type that is constant or volatile, are those inside
pub surface-Pointer : (t : TypeTree) → surface_of (Pointer t) ≡ surface_of t
surface-Pointer t = ap (map key_of) (numbers-Pointer false t)

pub surface-Function : (t : TypeTree) → surface_of (Function t) ≡ surface_of t
surface-Function t = ap (map key_of) (numbers-Function false t)

pub surface-Const : (t : TypeTree) → surface_of (Const t) ≡ surface_of t
surface-Const t = ap (map key_of) (numbers-Const false t)

pub surface-Volatile : (t : TypeTree) → surface_of (Volatile t) ≡ surface_of t
surface-Volatile t = ap (map key_of) (numbers-Volatile false t)

-- and so with a range
pub surface-Range : (t : TypeTree) (low high : Numeral) → surface_of (Range t low high) ≡ surface_of t
surface-Range t low high = ap (map key_of) (numbers-Range false t low high)

-- those of an array are those of its index, and then those of its items
pub surface-Array : (i : TypeTree) (low high : Numeral) (t : TypeTree) → surface_of (Array i low high t) ≡ surface_of i ++ surface_of t
surface-Array i low high t = ap (map key_of) (numbers-Array false i low high t) ∙ map-append key_of (numbers_in false i) (numbers_in false t)

-- those of a structure or union are those of its fields
pub surface-Struct : (size : ℕ) (fields : List Field) → surface_of (Struct size fields) ≡ flat_map surface_of_field fields
surface-Struct size fields = ap (map key_of) (numbers-Struct false size fields) ∙ each_field fields

pub surface-Union : (size : ℕ) (fields : List Field) → surface_of (Union size fields) ≡ flat_map surface_of_field fields
surface-Union size fields = ap (map key_of) (numbers-Union false size fields) ∙ each_field fields

-- an enumeration and a cross reference have none
pub surface-Enum : (choices : List Choice) → surface_of (Enum choices) ≡ []
surface-Enum choices = ap (map key_of) (numbers-Enum false choices)

pub surface-Cross : (tag : Tag) (name : List ℕ) → surface_of (Cross tag name) ≡ []
surface-Cross tag name = ap (map key_of) (numbers-Cross false tag name)

-- those of a type with its size are those inside
pub surface-Sized : (bits : ℕ) (t : TypeTree) → surface_of (Sized bits t) ≡ surface_of t
surface-Sized bits t = ap (map key_of) (numbers-Sized false bits t)

-- types known by numbers have none
pub surface-Builtin : (n : ℕ) → surface_of (Builtin n) ≡ []
surface-Builtin n = ap (map key_of) (numbers-Builtin false n)

pub surface-Real : (a b c : ℕ) → surface_of (Real a b c) ≡ []
surface-Real a b c = ap (map key_of) (numbers-Real false a b c)

-- those of a field are those of its type
pub surface-field : (f : Field) → surface_of_field f ≡ surface_of f.tree
surface-field f = ap (map key_of) (numbers-field false f)
