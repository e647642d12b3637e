-- The definitions in a type, whether it is a cross reference and its outermost key, by the forms of types; and that a type which
-- is walked for its definitions comes out whole.
use Rattle.std.proofs.Common.{◌≡◌, ℕ, List, [], ◌∷◌, ◌++◌, refl, sym, ap, subst, ◌∙◌}
use Rattle.std.specs.Prelude.{Bool, true, false, Option, Some, None, map, flat_map}
use Rattle.stab_symbols.specs.declared.tree.TypeTree.{TypeTree}
use Rattle.stab_symbols.specs.declared.tree.TypeTree.TheVariants.{Ref, Def, Pointer, Function, Const, Volatile, Range, Array, Struct, Union, Enum, Cross, Sized, Builtin, Real, rolls-Ref, rolls-Def, rolls-Pointer, rolls-Function, rolls-Const, rolls-Volatile, rolls-Range, rolls-Array, rolls-Struct, rolls-Union, rolls-Enum, rolls-Cross, rolls-Sized, rolls-Builtin, rolls-Real}
use Rattle.stab_symbols.specs.declared.tree.TypeTree.TheOpen.{TypeTree-F, Field-F}
use Rattle.stab_symbols.specs.declared.tree.TypeTree.TheViews.{roll-TypeTree}
use Rattle.stab_symbols.specs.declared.tree.TypeTree.TheFolds.{fold-roll-TypeTree, fold-roll-Field, map-TypeTree, map-Field, ind-TypeTree, ind-Field}
use Rattle.stab_symbols.specs.declared.tree.Field.{Field, roll-Field}
use Rattle.stab_symbols.specs.declared.tree.Num.{Num}
use Rattle.stab_symbols.specs.declared.tree.Numeral.{Numeral}
use Rattle.stab_symbols.specs.declared.tree.Choice.{Choice}
use Rattle.stab_symbols.specs.declared.tree.Tag.{Tag}
use Rattle.stab_symbols.specs.declared.tree.Key.{Key}
use Rattle.stab_symbols.specs.Keys.{key_of}
use Rattle.stab_symbols.specs.Definitions.{Definition, Walked, WalkedField, whole_step, definitions_step, walk_step, walk_field, walked, walked_field, field_itself, field_definitions, definitions_in, definitions_in_field, is_cross, cross_step, outer_key, outer_step, no_field}

-- ---- a type that is walked comes out whole

abbrev IsWhole : TypeTree → Type 0
IsWhole t = (walked t).0 ≡ t

abbrev IsWholeField : Field → Type 0
IsWholeField f = (walked_field f).0 ≡ f

abbrev SoundTree : Type 0
SoundTree = (t : TypeTree) × IsWhole t

abbrev SoundField : Type 0
SoundField = (f : Field) × IsWholeField f

abbrev tree_of : SoundTree → TypeTree
tree_of s = s.0

abbrev field_of : SoundField → Field
field_of s = s.0

whole_fields : (fields : List SoundField) → map field_itself (map walked_field (map field_of fields)) ≡ map field_of fields
whole_fields [] = refl
whole_fields (f ∷ fields) = ap (λ (g : Field). g ∷ map field_itself (map walked_field (map field_of fields))) f.1 ∙ ap (λ (gs : List Field). f.0 ∷ gs) (whole_fields fields)

-- one level, where the types and fields inside come out whole
abbrev level : TypeTree-F SoundTree SoundField → TypeTree-F TypeTree Field
level y = map-TypeTree SoundTree SoundField TypeTree Field tree_of field_of y

abbrev walked_level : TypeTree-F TypeTree Field → TypeTree-F Walked WalkedField
walked_level x = map-TypeTree TypeTree Field Walked WalkedField walked walked_field x

whole_level : (y : TypeTree-F SoundTree SoundField) → whole_step (walked_level (level y)) ≡ roll-TypeTree (level y)
whole_level (TypeTree-F.Ref n) = sym (rolls-Ref n)
whole_level (TypeTree-F.Def n t) = ap (λ (z : TypeTree). Def n z) t.1 ∙ sym (rolls-Def n t.0)
whole_level (TypeTree-F.Pointer t) = ap (λ (z : TypeTree). Pointer z) t.1 ∙ sym (rolls-Pointer t.0)
whole_level (TypeTree-F.Function t) = ap (λ (z : TypeTree). Function z) t.1 ∙ sym (rolls-Function t.0)
whole_level (TypeTree-F.Const t) = ap (λ (z : TypeTree). Const z) t.1 ∙ sym (rolls-Const t.0)
whole_level (TypeTree-F.Volatile t) = ap (λ (z : TypeTree). Volatile z) t.1 ∙ sym (rolls-Volatile t.0)
whole_level (TypeTree-F.Range t low high) = ap (λ (z : TypeTree). Range z low high) t.1 ∙ sym (rolls-Range t.0 low high)
whole_level (TypeTree-F.Array i low high t) =
    ap (λ (z : TypeTree). Array z low high (walked t.0).0) i.1 ∙ ap (λ (z : TypeTree). Array i.0 low high z) t.1 ∙ sym (rolls-Array i.0 low high t.0)
whole_level (TypeTree-F.Struct size fields) = ap (λ (z : List Field). Struct size z) (whole_fields fields) ∙ sym (rolls-Struct size (map field_of fields))
whole_level (TypeTree-F.Union size fields) = ap (λ (z : List Field). Union size z) (whole_fields fields) ∙ sym (rolls-Union size (map field_of fields))
whole_level (TypeTree-F.Enum choices) = sym (rolls-Enum choices)
whole_level (TypeTree-F.Cross tag name) = sym (rolls-Cross tag name)
whole_level (TypeTree-F.Sized bits t) = ap (λ (z : TypeTree). Sized bits z) t.1 ∙ sym (rolls-Sized bits t.0)
whole_level (TypeTree-F.Builtin n) = sym (rolls-Builtin n)
whole_level (TypeTree-F.Real a b c) = sym (rolls-Real a b c)

whole_tree_step : (x : TypeTree-F TypeTree Field) (y : TypeTree-F SoundTree SoundField) → level y ≡ x → IsWhole (roll-TypeTree x)
whole_tree_step x y e =
    let made : whole_step (walked_level x) ≡ roll-TypeTree x = subst (λ (z : TypeTree-F TypeTree Field). whole_step (walked_level z) ≡ roll-TypeTree z) e (whole_level y) in
    ap (λ (w : Walked). w.0) (fold-roll-TypeTree Walked WalkedField walk_step walk_field x) ∙ made

abbrev field_level : Field-F SoundTree SoundField → Field-F TypeTree Field
field_level y = map-Field SoundTree SoundField TypeTree Field tree_of field_of y

abbrev with_tree : Field-F SoundTree SoundField → TypeTree → Field
with_tree y t = roll-Field (record { name = y.name; tree = t; bit = y.bit; bits = y.bits })

whole_field_step : (x : Field-F TypeTree Field) (y : Field-F SoundTree SoundField) → field_level y ≡ x → IsWholeField (roll-Field x)
whole_field_step x y e = subst (λ (z : Field-F TypeTree Field). IsWholeField (roll-Field z)) e
    (ap (λ (w : WalkedField). w.0) (fold-roll-Field Walked WalkedField walk_step walk_field (field_level y)) ∙ ap (with_tree y) y.tree.1)

-- the type that is walked is the type itself
pub whole : (t : TypeTree) → (walked t).0 ≡ t
whole = ind-TypeTree IsWhole IsWholeField whole_tree_step whole_field_step

-- and so with a field
pub whole_field : (f : Field) → (walked_field f).0 ≡ f
whole_field = ind-Field IsWhole IsWholeField whole_tree_step whole_field_step

-- ---- the definitions in each form

at_level : (x : TypeTree-F TypeTree Field) → definitions_in (roll-TypeTree x) ≡ definitions_step (walked_level x)
at_level x = ap (λ (w : Walked). w.1) (fold-roll-TypeTree Walked WalkedField walk_step walk_field x)

each_field : (fields : List Field) → flat_map field_definitions (map walked_field fields) ≡ flat_map definitions_in_field fields
each_field [] = refl
each_field (f ∷ fields) = ap (λ (ds : List Definition). definitions_in_field f ++ ds) (each_field fields)

-- the type is the definition of the number
abbrev pub defined : Num → TypeTree → Definition
defined n t = record { key = key_of n; body = t }

-- a number alone defines nothing
pub definitions-Ref : (n : Num) → definitions_in (Ref n) ≡ []
definitions-Ref n = ap definitions_in (sym (rolls-Ref n)) ∙ at_level (TypeTree-F.Ref n)

-- `number=type` defines the number, before all that is inside
pub definitions-Def : (n : Num) (t : TypeTree) → definitions_in (Def n t) ≡ defined n t ∷ definitions_in t
definitions-Def n t = ap definitions_in (sym (rolls-Def n t)) ∙ at_level (TypeTree-F.Def n t) ∙ ap (λ (z : TypeTree). defined n z ∷ definitions_in t) (whole t)

-- those of a pointer, a function, and a type that is constant or volatile, are those inside
pub definitions-Pointer : (t : TypeTree) → definitions_in (Pointer t) ≡ definitions_in t
definitions-Pointer t = ap definitions_in (sym (rolls-Pointer t)) ∙ at_level (TypeTree-F.Pointer t)

pub definitions-Function : (t : TypeTree) → definitions_in (Function t) ≡ definitions_in t
definitions-Function t = ap definitions_in (sym (rolls-Function t)) ∙ at_level (TypeTree-F.Function t)

pub definitions-Const : (t : TypeTree) → definitions_in (Const t) ≡ definitions_in t
definitions-Const t = ap definitions_in (sym (rolls-Const t)) ∙ at_level (TypeTree-F.Const t)

pub definitions-Volatile : (t : TypeTree) → definitions_in (Volatile t) ≡ definitions_in t
definitions-Volatile t = ap definitions_in (sym (rolls-Volatile t)) ∙ at_level (TypeTree-F.Volatile t)

-- and so with a range
pub definitions-Range : (t : TypeTree) (low high : Numeral) → definitions_in (Range t low high) ≡ definitions_in t
definitions-Range t low high = ap definitions_in (sym (rolls-Range t low high)) ∙ at_level (TypeTree-F.Range t low high)

-- those of an array are those of its index, and then those of its items
pub definitions-Array : (i : TypeTree) (low high : Numeral) (t : TypeTree) → definitions_in (Array i low high t) ≡ definitions_in i ++ definitions_in t
definitions-Array i low high t = ap definitions_in (sym (rolls-Array i low high t)) ∙ at_level (TypeTree-F.Array i low high t)

-- those of a structure or union are those of its fields
pub definitions-Struct : (size : ℕ) (fields : List Field) → definitions_in (Struct size fields) ≡ flat_map definitions_in_field fields
definitions-Struct size fields = ap definitions_in (sym (rolls-Struct size fields)) ∙ at_level (TypeTree-F.Struct size fields) ∙ each_field fields

pub definitions-Union : (size : ℕ) (fields : List Field) → definitions_in (Union size fields) ≡ flat_map definitions_in_field fields
definitions-Union size fields = ap definitions_in (sym (rolls-Union size fields)) ∙ at_level (TypeTree-F.Union size fields) ∙ each_field fields

-- an enumeration and a cross reference define nothing
pub definitions-Enum : (choices : List Choice) → definitions_in (Enum choices) ≡ []
definitions-Enum choices = ap definitions_in (sym (rolls-Enum choices)) ∙ at_level (TypeTree-F.Enum choices)

pub definitions-Cross : (tag : Tag) (name : List ℕ) → definitions_in (Cross tag name) ≡ []
definitions-Cross tag name = ap definitions_in (sym (rolls-Cross tag name)) ∙ at_level (TypeTree-F.Cross tag name)

-- those of a type with its size are those inside
pub definitions-Sized : (bits : ℕ) (t : TypeTree) → definitions_in (Sized bits t) ≡ definitions_in t
definitions-Sized bits t = ap definitions_in (sym (rolls-Sized bits t)) ∙ at_level (TypeTree-F.Sized bits t)

-- types known by numbers define nothing
pub definitions-Builtin : (n : ℕ) → definitions_in (Builtin n) ≡ []
definitions-Builtin n = ap definitions_in (sym (rolls-Builtin n)) ∙ at_level (TypeTree-F.Builtin n)

pub definitions-Real : (a b c : ℕ) → definitions_in (Real a b c) ≡ []
definitions-Real a b c = ap definitions_in (sym (rolls-Real a b c)) ∙ at_level (TypeTree-F.Real a b c)

-- the parts of a field
abbrev pub parts_of : Field → Field-F TypeTree Field
parts_of f = record { name = f.name; tree = f.tree; bit = f.bit; bits = f.bits }

-- those of a field are those of its type
pub definitions-field : (f : Field) → definitions_in_field f ≡ definitions_in f.tree
definitions-field f = ap (λ (w : WalkedField). w.1) (fold-roll-Field Walked WalkedField walk_step walk_field (parts_of f))

-- ---- whether a type is a cross reference

pub is_cross-Ref : (n : Num) → is_cross (Ref n) ≡ false
is_cross-Ref n = ap is_cross (sym (rolls-Ref n)) ∙ fold-roll-TypeTree Bool (Unit {0}) cross_step no_field (TypeTree-F.Ref n)

pub is_cross-Def : (n : Num) (t : TypeTree) → is_cross (Def n t) ≡ false
is_cross-Def n t = ap is_cross (sym (rolls-Def n t)) ∙ fold-roll-TypeTree Bool (Unit {0}) cross_step no_field (TypeTree-F.Def n t)

pub is_cross-Pointer : (t : TypeTree) → is_cross (Pointer t) ≡ false
is_cross-Pointer t = ap is_cross (sym (rolls-Pointer t)) ∙ fold-roll-TypeTree Bool (Unit {0}) cross_step no_field (TypeTree-F.Pointer t)

pub is_cross-Function : (t : TypeTree) → is_cross (Function t) ≡ false
is_cross-Function t = ap is_cross (sym (rolls-Function t)) ∙ fold-roll-TypeTree Bool (Unit {0}) cross_step no_field (TypeTree-F.Function t)

pub is_cross-Const : (t : TypeTree) → is_cross (Const t) ≡ false
is_cross-Const t = ap is_cross (sym (rolls-Const t)) ∙ fold-roll-TypeTree Bool (Unit {0}) cross_step no_field (TypeTree-F.Const t)

pub is_cross-Volatile : (t : TypeTree) → is_cross (Volatile t) ≡ false
is_cross-Volatile t = ap is_cross (sym (rolls-Volatile t)) ∙ fold-roll-TypeTree Bool (Unit {0}) cross_step no_field (TypeTree-F.Volatile t)

pub is_cross-Range : (t : TypeTree) (low high : Numeral) → is_cross (Range t low high) ≡ false
is_cross-Range t low high = ap is_cross (sym (rolls-Range t low high)) ∙ fold-roll-TypeTree Bool (Unit {0}) cross_step no_field (TypeTree-F.Range t low high)

pub is_cross-Array : (i : TypeTree) (low high : Numeral) (t : TypeTree) → is_cross (Array i low high t) ≡ false
is_cross-Array i low high t = ap is_cross (sym (rolls-Array i low high t)) ∙ fold-roll-TypeTree Bool (Unit {0}) cross_step no_field (TypeTree-F.Array i low high t)

pub is_cross-Struct : (size : ℕ) (fields : List Field) → is_cross (Struct size fields) ≡ false
is_cross-Struct size fields = ap is_cross (sym (rolls-Struct size fields)) ∙ fold-roll-TypeTree Bool (Unit {0}) cross_step no_field (TypeTree-F.Struct size fields)

pub is_cross-Union : (size : ℕ) (fields : List Field) → is_cross (Union size fields) ≡ false
is_cross-Union size fields = ap is_cross (sym (rolls-Union size fields)) ∙ fold-roll-TypeTree Bool (Unit {0}) cross_step no_field (TypeTree-F.Union size fields)

pub is_cross-Enum : (choices : List Choice) → is_cross (Enum choices) ≡ false
is_cross-Enum choices = ap is_cross (sym (rolls-Enum choices)) ∙ fold-roll-TypeTree Bool (Unit {0}) cross_step no_field (TypeTree-F.Enum choices)

pub is_cross-Cross : (tag : Tag) (name : List ℕ) → is_cross (Cross tag name) ≡ true
is_cross-Cross tag name = ap is_cross (sym (rolls-Cross tag name)) ∙ fold-roll-TypeTree Bool (Unit {0}) cross_step no_field (TypeTree-F.Cross tag name)

pub is_cross-Sized : (bits : ℕ) (t : TypeTree) → is_cross (Sized bits t) ≡ false
is_cross-Sized bits t = ap is_cross (sym (rolls-Sized bits t)) ∙ fold-roll-TypeTree Bool (Unit {0}) cross_step no_field (TypeTree-F.Sized bits t)

pub is_cross-Builtin : (n : ℕ) → is_cross (Builtin n) ≡ false
is_cross-Builtin n = ap is_cross (sym (rolls-Builtin n)) ∙ fold-roll-TypeTree Bool (Unit {0}) cross_step no_field (TypeTree-F.Builtin n)

pub is_cross-Real : (a b c : ℕ) → is_cross (Real a b c) ≡ false
is_cross-Real a b c = ap is_cross (sym (rolls-Real a b c)) ∙ fold-roll-TypeTree Bool (Unit {0}) cross_step no_field (TypeTree-F.Real a b c)

-- ---- the key of the outermost type

pub outer-Ref : (n : Num) → outer_key (Ref n) ≡ Some (key_of n)
outer-Ref n = ap outer_key (sym (rolls-Ref n)) ∙ fold-roll-TypeTree (Option Key) (Unit {0}) outer_step no_field (TypeTree-F.Ref n)

pub outer-Def : (n : Num) (t : TypeTree) → outer_key (Def n t) ≡ Some (key_of n)
outer-Def n t = ap outer_key (sym (rolls-Def n t)) ∙ fold-roll-TypeTree (Option Key) (Unit {0}) outer_step no_field (TypeTree-F.Def n t)

pub outer-Pointer : (t : TypeTree) → outer_key (Pointer t) ≡ None
outer-Pointer t = ap outer_key (sym (rolls-Pointer t)) ∙ fold-roll-TypeTree (Option Key) (Unit {0}) outer_step no_field (TypeTree-F.Pointer t)

pub outer-Function : (t : TypeTree) → outer_key (Function t) ≡ None
outer-Function t = ap outer_key (sym (rolls-Function t)) ∙ fold-roll-TypeTree (Option Key) (Unit {0}) outer_step no_field (TypeTree-F.Function t)

pub outer-Const : (t : TypeTree) → outer_key (Const t) ≡ None
outer-Const t = ap outer_key (sym (rolls-Const t)) ∙ fold-roll-TypeTree (Option Key) (Unit {0}) outer_step no_field (TypeTree-F.Const t)

pub outer-Volatile : (t : TypeTree) → outer_key (Volatile t) ≡ None
outer-Volatile t = ap outer_key (sym (rolls-Volatile t)) ∙ fold-roll-TypeTree (Option Key) (Unit {0}) outer_step no_field (TypeTree-F.Volatile t)

pub outer-Range : (t : TypeTree) (low high : Numeral) → outer_key (Range t low high) ≡ None
outer-Range t low high = ap outer_key (sym (rolls-Range t low high)) ∙ fold-roll-TypeTree (Option Key) (Unit {0}) outer_step no_field (TypeTree-F.Range t low high)

pub outer-Array : (i : TypeTree) (low high : Numeral) (t : TypeTree) → outer_key (Array i low high t) ≡ None
outer-Array i low high t = ap outer_key (sym (rolls-Array i low high t)) ∙ fold-roll-TypeTree (Option Key) (Unit {0}) outer_step no_field (TypeTree-F.Array i low high t)

pub outer-Struct : (size : ℕ) (fields : List Field) → outer_key (Struct size fields) ≡ None
outer-Struct size fields = ap outer_key (sym (rolls-Struct size fields)) ∙ fold-roll-TypeTree (Option Key) (Unit {0}) outer_step no_field (TypeTree-F.Struct size fields)

pub outer-Union : (size : ℕ) (fields : List Field) → outer_key (Union size fields) ≡ None
outer-Union size fields = ap outer_key (sym (rolls-Union size fields)) ∙ fold-roll-TypeTree (Option Key) (Unit {0}) outer_step no_field (TypeTree-F.Union size fields)

pub outer-Enum : (choices : List Choice) → outer_key (Enum choices) ≡ None
outer-Enum choices = ap outer_key (sym (rolls-Enum choices)) ∙ fold-roll-TypeTree (Option Key) (Unit {0}) outer_step no_field (TypeTree-F.Enum choices)

pub outer-Cross : (tag : Tag) (name : List ℕ) → outer_key (Cross tag name) ≡ None
outer-Cross tag name = ap outer_key (sym (rolls-Cross tag name)) ∙ fold-roll-TypeTree (Option Key) (Unit {0}) outer_step no_field (TypeTree-F.Cross tag name)

pub outer-Sized : (bits : ℕ) (t : TypeTree) → outer_key (Sized bits t) ≡ None
outer-Sized bits t = ap outer_key (sym (rolls-Sized bits t)) ∙ fold-roll-TypeTree (Option Key) (Unit {0}) outer_step no_field (TypeTree-F.Sized bits t)

pub outer-Builtin : (n : ℕ) → outer_key (Builtin n) ≡ None
outer-Builtin n = ap outer_key (sym (rolls-Builtin n)) ∙ fold-roll-TypeTree (Option Key) (Unit {0}) outer_step no_field (TypeTree-F.Builtin n)

pub outer-Real : (a b c : ℕ) → outer_key (Real a b c) ≡ None
outer-Real a b c = ap outer_key (sym (rolls-Real a b c)) ∙ fold-roll-TypeTree (Option Key) (Unit {0}) outer_step no_field (TypeTree-F.Real a b c)
