-- Reading a symbol or a type from left to right, form by form, in the order of their spellings. The laws in proofs/ show that
-- exactly the spellings are read, and that reading stops at the first fault. After "The stabs debug format".
use Rattle.std.specs.Prelude.{◌-◌, ℕ, zero, suc, List, Option, None, Some, Bool, true, false, not, Result, ◌==◌, ◌||◌}
use Rattle.readers.specs.declared.stop.Stop.{Stop}
use Rattle.readers.specs.Readers.{Reader, seq, made, choose, nothing, done, byte_at, closed, optional, unless, many, too_deep, whole_of}
use Rattle.readers.specs.Words.{is_digit, number_at, name_at, run_at}
use Rattle.stab_symbols.specs.declared.limits.TheConstants.{GREATEST_DEPTH, GREATEST_FILE, GREATEST_NUMBER, MOST_DIGITS}
use Rattle.stab_symbols.specs.declared.tree.Num.{Num}
use Rattle.stab_symbols.specs.declared.tree.Num.TheVariants.{Plain, Pair}
use Rattle.stab_symbols.specs.declared.tree.Numeral.{Numeral}
use Rattle.stab_symbols.specs.declared.tree.Numeral.TheVariants.{Unbounded, Digits}
use Rattle.stab_symbols.specs.declared.tree.Tag.{Tag}
use Rattle.stab_symbols.specs.declared.tree.Tag.TheVariants as tags
use Rattle.stab_symbols.specs.declared.tree.Choice.{Choice}
use Rattle.stab_symbols.specs.declared.tree.Field.{Field, roll-Field}
use Rattle.stab_symbols.specs.declared.tree.TypeTree.{TypeTree}
use Rattle.stab_symbols.specs.declared.tree.TypeTree.TheVariants.{Ref, Def, Pointer, Function, Const, Volatile, Range, Array, Struct, Union, Enum, Cross, Sized, Builtin, Real}
use Rattle.stab_symbols.specs.declared.tree.Descriptor.{Descriptor}
use Rattle.stab_symbols.specs.declared.tree.Descriptor.TheVariants as descriptors
use Rattle.stab_symbols.specs.declared.tree.Symbol.{Symbol}
use Rattle.stab_symbols.specs.Shape.{refused, refused_item}

-- ---- the parts of a type that hold no type

-- a type number's number, a size, a bit position
abbrev pub plain_number : Reader ℕ
plain_number = number_at GREATEST_NUMBER

-- a file and a number make a type number
abbrev pub a_pair : ℕ × ℕ → Num
a_pair p = Pair p.0 p.1

-- `n`, or `(file,number)`
unfoldable pub num_at : Reader Num
num_at = choose 40 (made a_pair (seq (closed (number_at GREATEST_FILE) 44) (closed plain_number 41))) (made Plain plain_number)

-- `J` is no bound
abbrev pub unbounded : Unit {0} → Numeral
unbounded x = Unbounded

-- 1 to 40 digits
abbrev pub digits_at : Reader (List ℕ)
digits_at = run_at is_digit (MOST_DIGITS - 1)

-- the value of a choice: `-` or not, and digits
unfoldable pub value_at : Reader Numeral
value_at = choose 45 (made (Digits true) digits_at) (made (Digits false) digits_at)

-- the bound of a range: `J`, or `-` or not, and digits
unfoldable pub numeral_at : Reader Numeral
numeral_at = choose 74 (made unbounded done) value_at

-- a name and a value make a choice
abbrev pub a_choice : List ℕ × Numeral → Choice
a_choice p = record { name = p.0; number = p.1 }

-- `name:value,`
unfoldable pub choice_at : Reader Choice
choice_at = made a_choice (seq (name_at refused_item 58) (closed value_at 44))

-- `s`
abbrev pub a_struct_tag : Unit {0} → Tag
a_struct_tag x = tags.Struct

-- `u`
abbrev pub a_union_tag : Unit {0} → Tag
a_union_tag x = tags.Union

-- `e`
abbrev pub an_enum_tag : Unit {0} → Tag
an_enum_tag x = tags.Enum

-- `s`, `u` or `e`
unfoldable pub tag_at : Reader Tag
tag_at = choose 115 (made a_struct_tag done) (choose 117 (made a_union_tag done) (made an_enum_tag (byte_at 101)))

-- after `x`: the tag's letter, `name:`
unfoldable pub cross_at : Reader (Tag × List ℕ)
cross_at = seq tag_at (name_at refused 58)

-- after `R`: `a;b;c;`
unfoldable pub real_at : Reader (ℕ × (ℕ × ℕ))
real_at = seq (closed plain_number 59) (seq (closed plain_number 59) (closed plain_number 59))

-- ---- types of their parts

-- a name, a type, a bit position and a size in bits make a field
abbrev pub a_field : List ℕ × (TypeTree × (ℕ × ℕ)) → Field
a_field p = roll-Field (record { name = p.0; tree = p.1.0; bit = p.1.1.0; bits = p.1.1.1 })

-- a type and two bounds make a range
abbrev pub a_range : TypeTree × (Numeral × Numeral) → TypeTree
a_range p = Range p.0 p.1.0 p.1.1

-- an index type, two bounds and an item type make an array
abbrev pub an_array : TypeTree × (Numeral × (Numeral × TypeTree)) → TypeTree
an_array p = Array p.0 p.1.0 p.1.1.0 p.1.1.1

-- a size and fields make a structure
abbrev pub a_struct : ℕ × List Field → TypeTree
a_struct p = Struct p.0 p.1

-- or a union
abbrev pub a_union : ℕ × List Field → TypeTree
a_union p = Union p.0 p.1

-- a tag and a name make a cross reference
abbrev pub a_cross : Tag × List ℕ → TypeTree
a_cross p = Cross p.0 p.1

-- a size in bits and a type make a type of that size
abbrev pub a_sized : ℕ × TypeTree → TypeTree
a_sized p = Sized p.0 p.1

-- three numbers make a floating point type
abbrev pub a_real : ℕ × (ℕ × ℕ) → TypeTree
a_real p = Real p.0 p.1.0 p.1.1

-- a number without a definition, or with one
abbrev pub numbered : Num → Option TypeTree → TypeTree
numbered n None = Ref n
numbered n (Some t) = Def n t

-- a type number, and perhaps its definition, make a type
abbrev pub a_numbered : Num × Option TypeTree → TypeTree
a_numbered p = numbered p.0 p.1

-- ---- types, over a reader of the types inside

module _ (inner : Reader TypeTree) where
  -- `name:type,bit,bits;`
  unfoldable pub field_at : Reader Field
  field_at = made a_field (seq (name_at refused_item 58) (seq (closed inner 44) (seq (closed plain_number 44) (closed plain_number 59))))

  -- after `s` or `u`: the size, which takes all digits, the fields, `;`
  unfoldable pub body_at : Reader (ℕ × List Field)
  body_at = seq plain_number (unless is_digit (many 59 field_at))

  -- after `r`: `type;low;high;`
  unfoldable pub range_at : Reader (TypeTree × (Numeral × Numeral))
  range_at = seq (closed inner 59) (seq (closed numeral_at 59) (closed numeral_at 59))

  -- after `a`: `rindex;low;high;item`
  unfoldable pub array_at : Reader (TypeTree × (Numeral × (Numeral × TypeTree)))
  array_at = choose 114 (seq (closed inner 59) (seq (closed numeral_at 59) (seq (closed numeral_at 59) inner))) nothing

  -- after `@`: `sbits;type`
  unfoldable pub sized_at : Reader (ℕ × TypeTree)
  sized_at = choose 115 (seq (closed plain_number 59) inner) nothing

  -- a number, and `=type` or not
  unfoldable pub numbered_at : Reader TypeTree
  numbered_at = made a_numbered (seq num_at (optional 61 inner))

  -- a type, by its first byte
  unfoldable pub level : Reader TypeTree
  level =
      choose 42 (made Pointer inner)
      (choose 102 (made Function inner)
      (choose 107 (made Const inner)
      (choose 66 (made Volatile inner)
      (choose 114 (made a_range (range_at))
      (choose 97 (made an_array array_at)
      (choose 115 (made a_struct body_at)
      (choose 117 (made a_union body_at)
      (choose 101 (made Enum (many 59 choice_at))
      (choose 120 (made a_cross cross_at)
      (choose 64 (made a_sized sized_at)
      (choose 45 (made Builtin (closed plain_number 59))
      (choose 82 (made a_real real_at)
      numbered_at))))))))))))

-- the bytes that begin a type, in the same order
abbrev pub begins_type : ℕ → Bool
begins_type b =
    b == 42 || (b == 102 || (b == 107 || (b == 66 || (b == 114 || (b == 97 || (b == 115 || (b == 117 || (b == 101 || (b == 120 || (b == 64 || (b == 45 || (b == 82
    || (b == 40 || is_digit b)))))))))))))

-- where no type may begin
abbrev pub no_type : Reader TypeTree
no_type = too_deep begins_type

-- a type that may be so many types deep
unfoldable pub type_at : ℕ → Reader TypeTree
type_at zero = no_type
type_at (suc n) = level (type_at n)

-- ---- symbols

-- a descriptor and a type
abbrev pub Described : Type 0
Described = Descriptor × TypeTree

-- a descriptor with a type
abbrev pub described : Descriptor → TypeTree → Described
described d t = (d, t)

-- a tag, or with `t` after `T` a tag that is a typedef too
abbrev pub tagged : Option (Unit {0}) → TypeTree → Described
tagged None t = (descriptors.Tag, t)
tagged (Some u) t = (descriptors.TagTypedef, t)

-- `t` or not, and a type, make a tag
abbrev pub a_tagged : Option (Unit {0}) × TypeTree → Described
a_tagged p = tagged p.0 p.1

-- without a descriptor a type begins with a digit, `(` or `-`
abbrev pub no_stack : ℕ → Bool
no_stack b = not (is_digit b || (b == 40 || b == 45))

-- after `T`: `t` or not, and the type
abbrev pub tagged_at : Reader TypeTree → Reader Described
tagged_at whole = made a_tagged (seq (optional 116 done) whole)

-- no descriptor, and a type that begins with a digit, `(` or `-`
abbrev pub stack_at : Reader TypeTree → Reader Described
stack_at whole = made (described descriptors.Stack) (unless no_stack whole)

-- after the colon: the descriptor, by its letter, and the type
unfoldable pub described_at : Reader TypeTree → Reader Described
described_at whole =
    choose 102 (made (described descriptors.StaticFun) whole)
    (choose 70 (made (described descriptors.GlobalFun) whole)
    (choose 71 (made (described descriptors.Global) whole)
    (choose 83 (made (described descriptors.FileStatic) whole)
    (choose 86 (made (described descriptors.ProcStatic) whole)
    (choose 112 (made (described descriptors.Param) whole)
    (choose 80 (made (described descriptors.RegParam) whole)
    (choose 114 (made (described descriptors.Register) whole)
    (choose 97 (made (described descriptors.RefRegParam) whole)
    (choose 118 (made (described descriptors.RefParam) whole)
    (choose 116 (made (described descriptors.Typedef) whole)
    (choose 84 (tagged_at whole)
    (stack_at whole))))))))))))

-- a name, and a descriptor with a type, make a symbol
abbrev pub a_symbol : List ℕ × Described → Symbol
a_symbol p = record { name = p.0; descriptor = p.1.0; tree = p.1.1 }

-- `name:`, the descriptor, the type
unfoldable pub symbol_at : Reader Symbol
symbol_at = made a_symbol (seq (name_at refused 58) (described_at (type_at GREATEST_DEPTH)))

-- a text that is a symbol
unfoldable pub whole_symbol : List ℕ → Result Symbol Stop
whole_symbol = whole_of symbol_at
