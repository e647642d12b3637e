-- Which symbols and types have a spelling. The limits are this project's own; the bytes that end a name are those of
-- "The stabs debug format".
use Rattle.std.specs.Prelude.{◌≡◌, ℕ, Bool, true, false, not, ◌&&◌, ◌||◌, ◌==◌, nat_le, List, [], ◌∷◌}
use Rattle.readers.specs.Spelling.{all_of}
use Rattle.readers.specs.Words.{is_digit, is_digits, is_name, not_in_name}
use Rattle.stab_symbols.specs.declared.limits.TheConstants.{GREATEST_FILE, GREATEST_NUMBER, MOST_DIGITS}
use Rattle.stab_symbols.specs.declared.tree.Num.{Num}
use Rattle.stab_symbols.specs.declared.tree.Num.TheVariants.{Plain, Pair}
use Rattle.stab_symbols.specs.declared.tree.Numeral.{Numeral}
use Rattle.stab_symbols.specs.declared.tree.Numeral.TheVariants.{Unbounded, Digits}
use Rattle.stab_symbols.specs.declared.tree.Choice.{Choice}
use Rattle.stab_symbols.specs.declared.tree.Field.{Field}
use Rattle.stab_symbols.specs.declared.tree.TypeTree.{TypeTree}
use Rattle.stab_symbols.specs.declared.tree.TypeTree.TheOpen.{TypeTree-F, Field-F}
use Rattle.stab_symbols.specs.declared.tree.TypeTree.TheFolds.{fold-TypeTree, fold-Field}
use Rattle.stab_symbols.specs.declared.tree.Descriptor.{Descriptor}
use Rattle.stab_symbols.specs.declared.tree.Descriptor.TheVariants as descriptors
use Rattle.stab_symbols.specs.declared.tree.Symbol.{Symbol}
use Rattle.stab_symbols.specs.SymbolSpelling.{print_of}

-- ---- names

-- a name of a symbol or of a cross reference holds no zero byte
abbrev pub refused : ℕ → Bool
refused = not_in_name 0

-- nor does one of a field or choice, and no `;`
abbrev pub refused_item : ℕ → Bool
refused_item = not_in_name 59

-- ---- the parts of a type that hold no type

-- the number and the file are within their limits
abbrev pub num_ok : Num → Bool
num_ok (Plain n) = nat_le n GREATEST_NUMBER
num_ok (Pair f n) = nat_le f GREATEST_FILE && nat_le n GREATEST_NUMBER

-- `J`, or 1 to 40 decimal digits
abbrev pub numeral_ok : Numeral → Bool
numeral_ok Unbounded = true
numeral_ok (Digits negative digits) = is_digits MOST_DIGITS digits

-- the value of a choice is not `J`
abbrev pub value_ok : Numeral → Bool
value_ok Unbounded = false
value_ok (Digits negative digits) = is_digits MOST_DIGITS digits

-- the name and the value have a spelling
abbrev pub choice_ok : Choice → Bool
choice_ok c = is_name refused_item 58 c.name && value_ok c.number

-- ---- types

-- the text begins with a digit
abbrev pub begins_digit : List ℕ → Bool
begins_digit [] = false
begins_digit (b ∷ text) = is_digit b

-- whether a field has a spelling, and whether its name begins with a digit
abbrev pub field_ok : Field-F Bool (Bool × Bool) → Bool × Bool
field_ok f = (is_name refused_item 58 f.name && (f.tree && (nat_le f.bit GREATEST_NUMBER && nat_le f.bits GREATEST_NUMBER)), begins_digit f.name)

-- the first of two
abbrev pub left : Bool × Bool → Bool
left p = p.0

-- all digits after `s` or `u` belong to the size, so the name of the first field begins with none
abbrev pub first_fine : List (Bool × Bool) → Bool
first_fine [] = true
first_fine (p ∷ ps) = not p.1

-- one level of a type, from what holds of the types and fields inside
abbrev pub ok_step : TypeTree-F Bool (Bool × Bool) → Bool
ok_step (TypeTree-F.Ref n) = num_ok n
ok_step (TypeTree-F.Def n t) = num_ok n && t
ok_step (TypeTree-F.Pointer t) = t
ok_step (TypeTree-F.Function t) = t
ok_step (TypeTree-F.Const t) = t
ok_step (TypeTree-F.Volatile t) = t
ok_step (TypeTree-F.Range t low high) = t && (numeral_ok low && numeral_ok high)
ok_step (TypeTree-F.Array i low high t) = i && (numeral_ok low && (numeral_ok high && t))
ok_step (TypeTree-F.Struct size fields) = nat_le size GREATEST_NUMBER && (all_of left fields && first_fine fields)
ok_step (TypeTree-F.Union size fields) = nat_le size GREATEST_NUMBER && (all_of left fields && first_fine fields)
ok_step (TypeTree-F.Enum choices) = all_of choice_ok choices
ok_step (TypeTree-F.Cross tag name) = is_name refused 58 name
ok_step (TypeTree-F.Sized bits t) = nat_le bits GREATEST_NUMBER && t
ok_step (TypeTree-F.Builtin n) = nat_le n GREATEST_NUMBER
ok_step (TypeTree-F.Real a b c) = nat_le a GREATEST_NUMBER && (nat_le b GREATEST_NUMBER && nat_le c GREATEST_NUMBER)

-- whether a type has a spelling
abbrev pub ok : TypeTree → Bool
ok = fold-TypeTree Bool (Bool × Bool) ok_step field_ok

-- whether a field has one, and whether its name begins with a digit
abbrev pub ok_field : Field → Bool × Bool
ok_field = fold-Field Bool (Bool × Bool) ok_step field_ok

-- the type has a spelling
abbrev pub Shaped : TypeTree → Type 0
Shaped t = ok t ≡ true

-- ---- symbols

-- what may stand after the colon where there is no descriptor: a digit, `(` or `-`
abbrev pub begins_stack : List ℕ → Bool
begins_stack [] = false
begins_stack (b ∷ text) = is_digit b || (b == 40 || b == 45)

-- without a descriptor the type begins with a digit, `(` or `-`
abbrev pub descriptor_ok : Descriptor → TypeTree → Bool
descriptor_ok descriptors.Stack t = begins_stack (print_of t)
descriptor_ok other t = true

-- the name, the descriptor before this type, and the type have a spelling
abbrev pub symbol_ok : Symbol → Bool
symbol_ok s = is_name refused 58 s.name && (descriptor_ok s.descriptor s.tree && ok s.tree)

-- the symbol has a spelling
abbrev pub ShapedSymbol : Symbol → Type 0
ShapedSymbol s = symbol_ok s ≡ true
