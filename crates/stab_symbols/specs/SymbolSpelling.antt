-- How symbols and types are spelled: a concatenation for each form. After "The stabs debug format", on type and symbol
-- descriptors; the size attribute `@s` after the type attributes there. That each tree has one spelling is this project's own.
use Rattle.std.specs.Prelude.{ℕ, true, false, List, [], ◌∷◌, ◌++◌, decimal}
use Rattle.readers.specs.Spelling.{ended}
use Rattle.stab_symbols.specs.declared.tree.Num.{Num}
use Rattle.stab_symbols.specs.declared.tree.Num.TheVariants.{Plain, Pair}
use Rattle.stab_symbols.specs.declared.tree.Numeral.{Numeral}
use Rattle.stab_symbols.specs.declared.tree.Numeral.TheVariants.{Unbounded, Digits}
use Rattle.stab_symbols.specs.declared.tree.Tag.{Tag}
use Rattle.stab_symbols.specs.declared.tree.Tag.TheVariants as tags
use Rattle.stab_symbols.specs.declared.tree.Choice.{Choice}
use Rattle.stab_symbols.specs.declared.tree.Field.{Field}
use Rattle.stab_symbols.specs.declared.tree.TypeTree.{TypeTree}
use Rattle.stab_symbols.specs.declared.tree.TypeTree.TheOpen.{TypeTree-F, Field-F}
use Rattle.stab_symbols.specs.declared.tree.TypeTree.TheFolds.{fold-TypeTree, fold-Field}
use Rattle.stab_symbols.specs.declared.tree.Descriptor.{Descriptor}
use Rattle.stab_symbols.specs.declared.tree.Descriptor.TheVariants as descriptors
use Rattle.stab_symbols.specs.declared.tree.Symbol.{Symbol}

-- ---- the parts of a type that hold no type

-- `n`, or `(file,number)`
abbrev pub num : Num → List ℕ
num (Plain n) = decimal n
num (Pair f n) = 40 ∷ ((decimal f ++ 44 ∷ []) ++ (decimal n ++ 41 ∷ []))

-- `J`, or the digits, with `-` before them where it is negative
abbrev pub numeral : Numeral → List ℕ
numeral Unbounded = 74 ∷ []
numeral (Digits true digits) = 45 ∷ digits
numeral (Digits false digits) = digits

-- `s`, `u` or `e`
abbrev pub tag_letter : Tag → ℕ
tag_letter tags.Struct = 115
tag_letter tags.Union = 117
tag_letter tags.Enum = 101

-- `name:value,`
abbrev pub choice : Choice → List ℕ
choice c = (c.name ++ 58 ∷ []) ++ (numeral c.number ++ 44 ∷ [])

-- ---- types, from the texts of the types inside

-- as it is
abbrev pub same : List ℕ → List ℕ
same text = text

-- `name:type,bit,bits;`
abbrev pub field_step : Field-F (List ℕ) (List ℕ) → List ℕ
field_step f = (f.name ++ 58 ∷ []) ++ ((f.tree ++ 44 ∷ []) ++ ((decimal f.bit ++ 44 ∷ []) ++ (decimal f.bits ++ 59 ∷ [])))

-- one level of a type, the texts of the types and fields inside in their places
abbrev pub step : TypeTree-F (List ℕ) (List ℕ) → List ℕ
-- `n` or `(file,number)`
step (TypeTree-F.Ref n) = num n
-- and `=type`
step (TypeTree-F.Def n t) = num n ++ 61 ∷ t
-- `*type`, `ftype`, `ktype`, `Btype`
step (TypeTree-F.Pointer t) = 42 ∷ t
step (TypeTree-F.Function t) = 102 ∷ t
step (TypeTree-F.Const t) = 107 ∷ t
step (TypeTree-F.Volatile t) = 66 ∷ t
-- `rtype;low;high;`
step (TypeTree-F.Range t low high) = 114 ∷ ((t ++ 59 ∷ []) ++ ((numeral low ++ 59 ∷ []) ++ (numeral high ++ 59 ∷ [])))
-- `arindex;low;high;item`
step (TypeTree-F.Array i low high t) = 97 ∷ (114 ∷ ((i ++ 59 ∷ []) ++ ((numeral low ++ 59 ∷ []) ++ ((numeral high ++ 59 ∷ []) ++ t))))
-- `s` or `u`, the size in bytes, the fields, `;`
step (TypeTree-F.Struct size fields) = 115 ∷ (decimal size ++ ended same (59 ∷ []) fields)
step (TypeTree-F.Union size fields) = 117 ∷ (decimal size ++ ended same (59 ∷ []) fields)
-- `e`, the choices, `;`
step (TypeTree-F.Enum choices) = 101 ∷ ended choice (59 ∷ []) choices
-- `xsname:`, `xuname:` or `xename:`
step (TypeTree-F.Cross tag name) = 120 ∷ (tag_letter tag ∷ (name ++ 58 ∷ []))
-- `@sbits;type`
step (TypeTree-F.Sized bits t) = 64 ∷ (115 ∷ ((decimal bits ++ 59 ∷ []) ++ t))
-- `-n;`
step (TypeTree-F.Builtin n) = 45 ∷ (decimal n ++ 59 ∷ [])
-- `Ra;b;c;`
step (TypeTree-F.Real a b c) = 82 ∷ ((decimal a ++ 59 ∷ []) ++ ((decimal b ++ 59 ∷ []) ++ (decimal c ++ 59 ∷ [])))

-- the spelling of a type
abbrev pub print_of : TypeTree → List ℕ
print_of = fold-TypeTree (List ℕ) (List ℕ) step field_step

-- the spelling of a field
abbrev pub print_field : Field → List ℕ
print_field = fold-Field (List ℕ) (List ℕ) step field_step

-- ---- symbols

-- the letters of a symbol descriptor
abbrev pub letters : Descriptor → List ℕ
letters descriptors.Stack = []
letters descriptors.StaticFun = 102 ∷ []
letters descriptors.GlobalFun = 70 ∷ []
letters descriptors.Global = 71 ∷ []
letters descriptors.FileStatic = 83 ∷ []
letters descriptors.ProcStatic = 86 ∷ []
letters descriptors.Param = 112 ∷ []
letters descriptors.RegParam = 80 ∷ []
letters descriptors.Register = 114 ∷ []
letters descriptors.RefRegParam = 97 ∷ []
letters descriptors.RefParam = 118 ∷ []
letters descriptors.Typedef = 116 ∷ []
letters descriptors.Tag = 84 ∷ []
letters descriptors.TagTypedef = 84 ∷ (116 ∷ [])

-- the spelling of a symbol: `name:`, the descriptor, the type
abbrev pub print_symbol : Symbol → List ℕ
print_symbol s = (s.name ++ 58 ∷ []) ++ (letters s.descriptor ++ print_of s.tree)
