-- The forms of a type, as a choice of the parts that make it: each type with a spelling is of one form, and each form of parts
-- with spellings has one.
use Rattle.std.proofs.Common.{◌≡◌, ℕ, ◌⊎◌, inl, inr, true, List, ◌++◌, map, Option, None, Some, refl, sym, subst, ◌∙◌}
use Rattle.std.specs.Prelude.{nat_le, ◌&&◌}
use Rattle.std.proofs.lemmas.Bool.{and_parts, and_from}
use Rattle.std.proofs.lemmas.List.{append-nil}
use Rattle.readers.specs.Spelling.{all_of}
use Rattle.readers.specs.Words.{is_digit}
use Rattle.readers.proofs.Made.{Of}
use Rattle.readers.proofs.Optional.{opt_shaped, opt_print}
use Rattle.readers.proofs.Starts.{Starts, starts_more}
use Rattle.readers.proofs.Alternatives.{Alternatives, or_byte, or_alternative}
use Rattle.stab_symbols.specs.declared.limits.TheConstants.{GREATEST_NUMBER}
use Rattle.stab_symbols.specs.declared.tree.Num.{Num}
use Rattle.stab_symbols.specs.declared.tree.Numeral.{Numeral}
use Rattle.stab_symbols.specs.declared.tree.Field.{Field}
use Rattle.stab_symbols.specs.declared.tree.TypeTree.{TypeTree}
use Rattle.stab_symbols.specs.declared.tree.TypeTree.TheVariants.{Pointer, Function, Const, Volatile, Enum, Builtin}
use Rattle.stab_symbols.specs.declared.tree.TypeTree.TheVariants.{rolls-Ref, rolls-Def, rolls-Pointer, rolls-Function, rolls-Const, rolls-Volatile, rolls-Range, rolls-Array, rolls-Struct, rolls-Union, rolls-Enum, rolls-Cross, rolls-Sized, rolls-Builtin, rolls-Real}
use Rattle.stab_symbols.specs.declared.tree.TypeTree.TheOpen.{TypeTree-F}
use Rattle.stab_symbols.specs.declared.tree.TypeTree.TheViews.{roll-TypeTree}
use Rattle.stab_symbols.specs.SymbolSpelling.{num, print_of}
use Rattle.stab_symbols.specs.Shape.{num_ok, numeral_ok, left, first_fine, ok, ok_field, Shaped}
use Rattle.stab_grammar.specs.Grammar.{a_range, an_array, a_struct, a_union, a_cross, a_sized, a_real, numbered, a_numbered, begins_type}
use Rattle.stab_grammar.proofs.Parts.{NumberOk, NumOk, starts_num, NumeralOk, ChoicesOk, CrossParts, RealParts}
use Rattle.stab_grammar.proofs.Equations.{by_layer, print-Ref, print-Def, print-Pointer, print-Function, print-Const, print-Volatile, print-Range, print-Array, print-Struct, print-Union, print-Enum, print-Cross, print-Sized, print-Builtin, print-Real, ok-Ref, ok-Def, ok-Pointer, ok-Function, ok-Const, ok-Volatile, ok-Range, ok-Array, ok-Struct, ok-Union, ok-Enum, ok-Cross, ok-Sized, ok-Builtin, ok-Real}
use Rattle.stab_grammar.proofs.Fields.{BodyParts, lefts_to, lefts_from, fine_to, fine_from}

-- ---- the parts of each form

-- a type and two bounds with spellings
abbrev pub RangeParts : TypeTree × (Numeral × Numeral) → Type 0
RangeParts p = Shaped p.0 × (NumeralOk p.1.0 × NumeralOk p.1.1)

-- an index type, two bounds and an item type
abbrev pub ArrayParts : TypeTree × (Numeral × (Numeral × TypeTree)) → Type 0
ArrayParts p = Shaped p.0 × (NumeralOk p.1.0 × (NumeralOk p.1.1.0 × Shaped p.1.1.1))

-- a size and a type
abbrev pub SizedParts : ℕ × TypeTree → Type 0
SizedParts p = NumberOk p.0 × Shaped p.1

-- a type number, and its definition if it has one
abbrev pub NumberedParts : Num × Option TypeTree → Type 0
NumberedParts p = NumOk p.0 × opt_shaped Shaped p.1

-- ---- the choice, from the last form to the first

-- a number, with a definition or without
abbrev pub IsNumbered : TypeTree → Type 0
IsNumbered = Of a_numbered NumberedParts

-- a floating point type, or one of the above
abbrev pub FromReal : TypeTree → Type 0
FromReal t = Of a_real RealParts t ⊎ IsNumbered t

-- a type known by a negative number, or one of the above
abbrev pub FromBuiltin : TypeTree → Type 0
FromBuiltin t = Of Builtin NumberOk t ⊎ FromReal t

-- a type with its size, or one of the above
abbrev pub FromSized : TypeTree → Type 0
FromSized t = Of a_sized SizedParts t ⊎ FromBuiltin t

-- a cross reference, or one of the above
abbrev pub FromCross : TypeTree → Type 0
FromCross t = Of a_cross CrossParts t ⊎ FromSized t

-- an enumeration, or one of the above
abbrev pub FromEnum : TypeTree → Type 0
FromEnum t = Of Enum ChoicesOk t ⊎ FromCross t

-- a union, or one of the above
abbrev pub FromUnion : TypeTree → Type 0
FromUnion t = Of a_union BodyParts t ⊎ FromEnum t

-- a structure, or one of the above
abbrev pub FromStruct : TypeTree → Type 0
FromStruct t = Of a_struct BodyParts t ⊎ FromUnion t

-- an array, or one of the above
abbrev pub FromArray : TypeTree → Type 0
FromArray t = Of an_array ArrayParts t ⊎ FromStruct t

-- a range, or one of the above
abbrev pub FromRange : TypeTree → Type 0
FromRange t = Of a_range RangeParts t ⊎ FromArray t

-- a volatile type, or one of the above
abbrev pub FromVolatile : TypeTree → Type 0
FromVolatile t = Of Volatile Shaped t ⊎ FromRange t

-- a constant type, or one of the above
abbrev pub FromConst : TypeTree → Type 0
FromConst t = Of Const Shaped t ⊎ FromVolatile t

-- a function, or one of the above
abbrev pub FromFunction : TypeTree → Type 0
FromFunction t = Of Function Shaped t ⊎ FromConst t

-- a pointer, or one of the above: any type
abbrev pub FromPointer : TypeTree → Type 0
FromPointer t = Of Pointer Shaped t ⊎ FromFunction t

-- ---- each form of parts with spellings has a spelling

-- a number, and its definition
pub numbered_shaped : (p : Num × Option TypeTree) → NumberedParts p → Shaped (a_numbered p)
numbered_shaped (n, None) f = ok-Ref n ∙ f.0
numbered_shaped (n, Some t) f = ok-Def n t ∙ and_from (num_ok n) (ok t) f.0 f.1

-- a range
pub range_shaped : (p : TypeTree × (Numeral × Numeral)) → RangeParts p → Shaped (a_range p)
range_shaped p f = ok-Range p.0 p.1.0 p.1.1 ∙ and_from (ok p.0) _ f.0 (and_from (numeral_ok p.1.0) (numeral_ok p.1.1) f.1.0 f.1.1)

-- an array
pub array_shaped : (p : TypeTree × (Numeral × (Numeral × TypeTree))) → ArrayParts p → Shaped (an_array p)
array_shaped p f = ok-Array p.0 p.1.0 p.1.1.0 p.1.1.1 ∙ and_from (ok p.0) _ f.0 (and_from (numeral_ok p.1.0) _ f.1.0 (and_from (numeral_ok p.1.1.0) (ok p.1.1.1) f.1.1.0 f.1.1.1))

-- a size and fields
body_shaped : (p : ℕ × List Field) → BodyParts p → (nat_le p.0 GREATEST_NUMBER && (all_of left (map ok_field p.1) && first_fine (map ok_field p.1))) ≡ true
body_shaped p f = and_from (nat_le p.0 GREATEST_NUMBER) _ f.0 (and_from (all_of left (map ok_field p.1)) (first_fine (map ok_field p.1)) (lefts_to p.1 f.1.0) (fine_to p.1 f.1.1))

-- a structure
pub struct_shaped : (p : ℕ × List Field) → BodyParts p → Shaped (a_struct p)
struct_shaped p f = ok-Struct p.0 p.1 ∙ body_shaped p f

-- a union
pub union_shaped : (p : ℕ × List Field) → BodyParts p → Shaped (a_union p)
union_shaped p f = ok-Union p.0 p.1 ∙ body_shaped p f

-- a type with its size
pub sized_shaped : (p : ℕ × TypeTree) → SizedParts p → Shaped (a_sized p)
sized_shaped p f = ok-Sized p.0 p.1 ∙ and_from (nat_le p.0 GREATEST_NUMBER) (ok p.1) f.0 f.1

-- a floating point type
pub real_shaped : (p : ℕ × (ℕ × ℕ)) → RealParts p → Shaped (a_real p)
real_shaped p f = ok-Real p.0 p.1.0 p.1.1 ∙ and_from (nat_le p.0 GREATEST_NUMBER) _ f.0 (and_from (nat_le p.1.0 GREATEST_NUMBER) (nat_le p.1.1 GREATEST_NUMBER) f.1.0 f.1.1)

-- ---- where each form stands in the choice

abbrev in_pointer : (t : TypeTree) → FromPointer t → FromPointer t
in_pointer t s = s

abbrev in_function : (t : TypeTree) → FromFunction t → FromPointer t
in_function t s = in_pointer t (inr s)

abbrev in_const : (t : TypeTree) → FromConst t → FromPointer t
in_const t s = in_function t (inr s)

abbrev in_volatile : (t : TypeTree) → FromVolatile t → FromPointer t
in_volatile t s = in_const t (inr s)

abbrev in_range : (t : TypeTree) → FromRange t → FromPointer t
in_range t s = in_volatile t (inr s)

abbrev in_array : (t : TypeTree) → FromArray t → FromPointer t
in_array t s = in_range t (inr s)

abbrev in_struct : (t : TypeTree) → FromStruct t → FromPointer t
in_struct t s = in_array t (inr s)

abbrev in_union : (t : TypeTree) → FromUnion t → FromPointer t
in_union t s = in_struct t (inr s)

abbrev in_enum : (t : TypeTree) → FromEnum t → FromPointer t
in_enum t s = in_union t (inr s)

abbrev in_cross : (t : TypeTree) → FromCross t → FromPointer t
in_cross t s = in_enum t (inr s)

abbrev in_sized : (t : TypeTree) → FromSized t → FromPointer t
in_sized t s = in_cross t (inr s)

abbrev in_builtin : (t : TypeTree) → FromBuiltin t → FromPointer t
in_builtin t s = in_sized t (inr s)

abbrev in_real : (t : TypeTree) → FromReal t → FromPointer t
in_real t s = in_builtin t (inr s)

abbrev in_numbered : (t : TypeTree) → IsNumbered t → FromPointer t
in_numbered t s = in_real t (inr s)

-- ---- what each form begins with

-- some forms of types
abbrev pub Forms : (TypeTree → Type 0) → Type 0
Forms = Alternatives print_of Shaped

-- a number, and what is after `=`
pub numbered_print : (n : Num) (o : Option TypeTree) → print_of (numbered n o) ≡ num n ++ opt_print 61 print_of o
numbered_print n None = print-Ref n ∙ sym (append-nil (num n))
numbered_print n (Some t) = print-Def n t

-- a number begins with `(` or a digit
pub numbered_starts : (t : TypeTree) → IsNumbered t → Starts (or_byte 40 is_digit) (print_of t)
numbered_starts t f =
    let first : Starts (or_byte 40 is_digit) (num f.0.0 ++ opt_print 61 print_of f.0.1) = starts_more (or_byte 40 is_digit) (num f.0.0) (opt_print 61 print_of f.0.1) (starts_num f.0.0 f.1.0) in
    subst (λ (z : TypeTree). Starts (or_byte 40 is_digit) (print_of z)) f.2 (subst (Starts (or_byte 40 is_digit)) (sym (numbered_print f.0.0 f.0.1)) first)

-- the last form
abbrev pub numbered_forms : Forms IsNumbered
numbered_forms = record { test = or_byte 40 is_digit; starts = numbered_starts; to = λ t f. subst Shaped f.2 (numbered_shaped f.0 f.1) }

abbrev pub real_forms : Forms FromReal
real_forms = or_alternative print_of Shaped a_real RealParts 82 _ (λ p. print-Real p.0 p.1.0 p.1.1) real_shaped IsNumbered numbered_forms

abbrev pub builtin_forms : Forms FromBuiltin
builtin_forms = or_alternative print_of Shaped Builtin NumberOk 45 _ print-Builtin (λ k f. ok-Builtin k ∙ f) FromReal real_forms

abbrev pub sized_forms : Forms FromSized
sized_forms = or_alternative print_of Shaped a_sized SizedParts 64 _ (λ p. print-Sized p.0 p.1) sized_shaped FromBuiltin builtin_forms

abbrev pub cross_forms : Forms FromCross
cross_forms = or_alternative print_of Shaped a_cross CrossParts 120 _ (λ p. print-Cross p.0 p.1) (λ p f. ok-Cross p.0 p.1 ∙ f.1) FromSized sized_forms

abbrev pub enum_forms : Forms FromEnum
enum_forms = or_alternative print_of Shaped Enum ChoicesOk 101 _ print-Enum (λ cs f. ok-Enum cs ∙ f) FromCross cross_forms

abbrev pub union_forms : Forms FromUnion
union_forms = or_alternative print_of Shaped a_union BodyParts 117 _ (λ p. print-Union p.0 p.1) union_shaped FromEnum enum_forms

abbrev pub struct_forms : Forms FromStruct
struct_forms = or_alternative print_of Shaped a_struct BodyParts 115 _ (λ p. print-Struct p.0 p.1) struct_shaped FromUnion union_forms

abbrev pub array_forms : Forms FromArray
array_forms = or_alternative print_of Shaped an_array ArrayParts 97 _ (λ p. print-Array p.0 p.1.0 p.1.1.0 p.1.1.1) array_shaped FromStruct struct_forms

abbrev pub range_forms : Forms FromRange
range_forms = or_alternative print_of Shaped a_range RangeParts 114 _ (λ p. print-Range p.0 p.1.0 p.1.1) range_shaped FromArray array_forms

abbrev pub volatile_forms : Forms FromVolatile
volatile_forms = or_alternative print_of Shaped Volatile Shaped 66 _ print-Volatile (λ t f. ok-Volatile t ∙ f) FromRange range_forms

abbrev pub const_forms : Forms FromConst
const_forms = or_alternative print_of Shaped Const Shaped 107 _ print-Const (λ t f. ok-Const t ∙ f) FromVolatile volatile_forms

abbrev pub function_forms : Forms FromFunction
function_forms = or_alternative print_of Shaped Function Shaped 102 _ print-Function (λ t f. ok-Function t ∙ f) FromConst const_forms

abbrev pub pointer_forms : Forms FromPointer
pointer_forms = or_alternative print_of Shaped Pointer Shaped 42 _ print-Pointer (λ t f. ok-Pointer t ∙ f) FromFunction function_forms

-- ---- each type with a spelling is of one form

-- a type with a spelling is of one of the forms
abbrev Sorts : TypeTree → Type 0
Sorts t = Shaped t → FromPointer t

-- the parts of a body
body_parts : (size : ℕ) (fields : List Field) → (nat_le size GREATEST_NUMBER && (all_of left (map ok_field fields) && first_fine (map ok_field fields))) ≡ true → BodyParts (size, fields)
body_parts size fields e =
    let a = and_parts (nat_le size GREATEST_NUMBER) (all_of left (map ok_field fields) && first_fine (map ok_field fields)) e in
    let b = and_parts (all_of left (map ok_field fields)) (first_fine (map ok_field fields)) a.1 in
    (a.0, (lefts_from fields b.0, fine_from fields b.1))

-- for each form
sorts_layer : (x : TypeTree-F TypeTree Field) → Sorts (roll-TypeTree x)
sorts_layer (TypeTree-F.Ref n) = subst Sorts (sym (rolls-Ref n)) (λ e. in_numbered _ ((n, None), (sym (ok-Ref n) ∙ e, tt), refl))
sorts_layer (TypeTree-F.Def n t) = subst Sorts (sym (rolls-Def n t)) (λ e. in_numbered _ ((n, Some t), and_parts (num_ok n) (ok t) (sym (ok-Def n t) ∙ e), refl))
sorts_layer (TypeTree-F.Pointer t) = subst Sorts (sym (rolls-Pointer t)) (λ e. in_pointer _ (inl (t, sym (ok-Pointer t) ∙ e, refl)))
sorts_layer (TypeTree-F.Function t) = subst Sorts (sym (rolls-Function t)) (λ e. in_function _ (inl (t, sym (ok-Function t) ∙ e, refl)))
sorts_layer (TypeTree-F.Const t) = subst Sorts (sym (rolls-Const t)) (λ e. in_const _ (inl (t, sym (ok-Const t) ∙ e, refl)))
sorts_layer (TypeTree-F.Volatile t) = subst Sorts (sym (rolls-Volatile t)) (λ e. in_volatile _ (inl (t, sym (ok-Volatile t) ∙ e, refl)))
sorts_layer (TypeTree-F.Range t low high) = subst Sorts (sym (rolls-Range t low high)) (λ e.
    let k = and_parts (ok t) (numeral_ok low && numeral_ok high) (sym (ok-Range t low high) ∙ e) in
    in_range _ (inl ((t, (low, high)), (k.0, and_parts (numeral_ok low) (numeral_ok high) k.1), refl)))
sorts_layer (TypeTree-F.Array i low high t) = subst Sorts (sym (rolls-Array i low high t)) (λ e.
    let k = and_parts (ok i) (numeral_ok low && (numeral_ok high && ok t)) (sym (ok-Array i low high t) ∙ e) in
    let m = and_parts (numeral_ok low) (numeral_ok high && ok t) k.1 in
    in_array _ (inl ((i, (low, (high, t))), (k.0, (m.0, and_parts (numeral_ok high) (ok t) m.1)), refl)))
sorts_layer (TypeTree-F.Struct size fields) = subst Sorts (sym (rolls-Struct size fields)) (λ e. in_struct _ (inl ((size, fields), body_parts size fields (sym (ok-Struct size fields) ∙ e), refl)))
sorts_layer (TypeTree-F.Union size fields) = subst Sorts (sym (rolls-Union size fields)) (λ e. in_union _ (inl ((size, fields), body_parts size fields (sym (ok-Union size fields) ∙ e), refl)))
sorts_layer (TypeTree-F.Enum choices) = subst Sorts (sym (rolls-Enum choices)) (λ e. in_enum _ (inl (choices, sym (ok-Enum choices) ∙ e, refl)))
sorts_layer (TypeTree-F.Cross tag name) = subst Sorts (sym (rolls-Cross tag name)) (λ e. in_cross _ (inl ((tag, name), (tt, sym (ok-Cross tag name) ∙ e), refl)))
sorts_layer (TypeTree-F.Sized bits t) = subst Sorts (sym (rolls-Sized bits t)) (λ e. in_sized _ (inl ((bits, t), and_parts (nat_le bits GREATEST_NUMBER) (ok t) (sym (ok-Sized bits t) ∙ e), refl)))
sorts_layer (TypeTree-F.Builtin n) = subst Sorts (sym (rolls-Builtin n)) (λ e. in_builtin _ (inl (n, sym (ok-Builtin n) ∙ e, refl)))
sorts_layer (TypeTree-F.Real a b c) = subst Sorts (sym (rolls-Real a b c)) (λ e.
    let k = and_parts (nat_le a GREATEST_NUMBER) (nat_le b GREATEST_NUMBER && nat_le c GREATEST_NUMBER) (sym (ok-Real a b c) ∙ e) in
    in_real _ (inl ((a, (b, c)), (k.0, and_parts (nat_le b GREATEST_NUMBER) (nat_le c GREATEST_NUMBER) k.1), refl)))

-- for each type
pub sorts : (t : TypeTree) → Shaped t → FromPointer t
sorts = by_layer Sorts sorts_layer

-- a type begins with one of these bytes
pub type_starts : (t : TypeTree) → Shaped t → Starts begins_type (print_of t)
type_starts t f = pointer_forms.starts t (sorts t f)
