-- The definitions in a type: each `number=type` in it, outermost first and from left to right. After "The stabs debug format",
-- where a type number is defined where it is first used.
use Rattle.std.specs.Prelude.{Bool, true, false, List, [], ◌∷◌, ◌++◌, map, flat_map, Option, Some, None}
use Rattle.stab_symbols.specs.declared.tree.Key.{Key}
use Rattle.stab_symbols.specs.declared.tree.Field.{Field, roll-Field}
use Rattle.stab_symbols.specs.declared.tree.TypeTree.{TypeTree}
use Rattle.stab_symbols.specs.declared.tree.TypeTree.TheVariants.{Ref, Def, Pointer, Function, Const, Volatile, Range, Array, Struct, Union, Enum, Cross, Sized, Builtin, Real}
use Rattle.stab_symbols.specs.declared.tree.TypeTree.TheOpen.{TypeTree-F, Field-F}
use Rattle.stab_symbols.specs.declared.tree.TypeTree.TheFolds.{fold-TypeTree, fold-Field}
use Rattle.stab_symbols.specs.Keys.{key_of}

-- a key and the type that is its definition
pub record Definition : Type 0 where
  pub key : Key
  pub body : TypeTree

-- ---- a type with what is in it

-- a type, and the definitions in it
abbrev pub Walked : Type 0
Walked = TypeTree × List Definition

-- a field, and the definitions in it
abbrev pub WalkedField : Type 0
WalkedField = Field × List Definition

abbrev pub field_itself : WalkedField → Field
field_itself w = w.0

abbrev pub field_definitions : WalkedField → List Definition
field_definitions w = w.1

-- one level of a type, the types and fields inside put back in their places
abbrev pub whole_step : TypeTree-F Walked WalkedField → TypeTree
whole_step (TypeTree-F.Ref n) = Ref n
whole_step (TypeTree-F.Def n t) = Def n t.0
whole_step (TypeTree-F.Pointer t) = Pointer t.0
whole_step (TypeTree-F.Function t) = Function t.0
whole_step (TypeTree-F.Const t) = Const t.0
whole_step (TypeTree-F.Volatile t) = Volatile t.0
whole_step (TypeTree-F.Range t low high) = Range t.0 low high
whole_step (TypeTree-F.Array i low high t) = Array i.0 low high t.0
whole_step (TypeTree-F.Struct size fields) = Struct size (map field_itself fields)
whole_step (TypeTree-F.Union size fields) = Union size (map field_itself fields)
whole_step (TypeTree-F.Enum choices) = Enum choices
whole_step (TypeTree-F.Cross tag name) = Cross tag name
whole_step (TypeTree-F.Sized bits t) = Sized bits t.0
whole_step (TypeTree-F.Builtin n) = Builtin n
whole_step (TypeTree-F.Real a b c) = Real a b c

-- one level of a type, from the definitions in the types and fields inside
abbrev pub definitions_step : TypeTree-F Walked WalkedField → List Definition
definitions_step (TypeTree-F.Ref n) = []
definitions_step (TypeTree-F.Def n t) = record { key = key_of n; body = t.0 } ∷ t.1
definitions_step (TypeTree-F.Pointer t) = t.1
definitions_step (TypeTree-F.Function t) = t.1
definitions_step (TypeTree-F.Const t) = t.1
definitions_step (TypeTree-F.Volatile t) = t.1
definitions_step (TypeTree-F.Range t low high) = t.1
definitions_step (TypeTree-F.Array i low high t) = i.1 ++ t.1
definitions_step (TypeTree-F.Struct size fields) = flat_map field_definitions fields
definitions_step (TypeTree-F.Union size fields) = flat_map field_definitions fields
definitions_step (TypeTree-F.Enum choices) = []
definitions_step (TypeTree-F.Cross tag name) = []
definitions_step (TypeTree-F.Sized bits t) = t.1
definitions_step (TypeTree-F.Builtin n) = []
definitions_step (TypeTree-F.Real a b c) = []

abbrev pub walk_step : TypeTree-F Walked WalkedField → Walked
walk_step level = (whole_step level, definitions_step level)

abbrev pub walk_field : Field-F Walked WalkedField → WalkedField
walk_field f = (roll-Field (record { name = f.name; tree = f.tree.0; bit = f.bit; bits = f.bits }), f.tree.1)

abbrev pub walked : TypeTree → Walked
walked = fold-TypeTree Walked WalkedField walk_step walk_field

-- the definitions in a type, outermost first and from left to right
abbrev pub definitions_in : TypeTree → List Definition
definitions_in t = (walked t).1

-- a field with the definitions in it
abbrev pub walked_field : Field → WalkedField
walked_field = fold-Field Walked WalkedField walk_step walk_field

-- those in a field
abbrev pub definitions_in_field : Field → List Definition
definitions_in_field f = (walked_field f).1

-- ---- the outermost form

abbrev pub no_field : {A : Type 0} → Field-F A (Unit {0}) → Unit {0}
no_field f = tt

abbrev pub cross_step : TypeTree-F Bool (Unit {0}) → Bool
cross_step (TypeTree-F.Cross tag name) = true
cross_step other = false

-- whether the type is a cross reference
abbrev pub is_cross : TypeTree → Bool
is_cross = fold-TypeTree Bool (Unit {0}) cross_step no_field

abbrev pub outer_step : TypeTree-F (Option Key) (Unit {0}) → Option Key
outer_step (TypeTree-F.Ref n) = Some (key_of n)
outer_step (TypeTree-F.Def n t) = Some (key_of n)
outer_step other = None

-- the key of the outermost type, where that is a number with or without a definition
abbrev pub outer_key : TypeTree → Option Key
outer_key = fold-TypeTree (Option Key) (Unit {0}) outer_step no_field
