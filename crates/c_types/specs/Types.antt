-- How types are written in stab strings.
use Rattle.std.specs.Prelude.{ℕ, ◌-◌, ◌==◌, ◌&&◌, not, if◌then◌else◌, Bool, true, false, List, [], ◌∷◌, ◌++◌, replicate, decimal, codes, flat_map}
use Rattle.c_types.specs.declared.ctype.Word.{Word}
use Rattle.c_types.specs.declared.ctype.Word.TheVariants as word
use Rattle.c_types.specs.declared.ctype.TypeNumber.{TypeNumber}
use Rattle.c_types.specs.declared.ctype.Spelling.{Spelling}
use Rattle.c_types.specs.declared.ctype.Spelling.TheVariants.{Numbered, Body}
use Rattle.c_types.specs.declared.ctype.Qualifiers.{Qualifiers}
use Rattle.c_types.specs.declared.ctype.Declared.{Declared}
use Rattle.c_types.specs.declared.ctype.CType.{CType}
use Rattle.c_types.specs.declared.ctype.Mention.{Mention}
use Rattle.c_types.specs.declared.sizes.Size.TheVariants as size
use Rattle.c_types.specs.Sizes.{of_basic}

-- the type descriptor of a word: `s`, `u` or `e`
abbrev pub letter : Word → ℕ
letter word.Struct = 115
letter word.Union = 117
letter word.Enum = 101

-- `(file,number)`
abbrev pub number_text : TypeNumber → List ℕ
number_text n = 40 ∷ (decimal n.file ++ (44 ∷ (decimal n.number ++ 41 ∷ [])))

-- a type by its number, or a body without a tag
abbrev pub spelling_text : Spelling → List ℕ
spelling_text (Numbered number) = number_text number
spelling_text (Body text) = text

-- `k` for const, `B` for volatile
abbrev pub qualifiers_text : Qualifiers → List ℕ
qualifiers_text q = (if q.constant then 107 ∷ [] else []) ++ (if q.volatile then 66 ∷ [] else [])

-- an array in front of its items, `ar(0,1);0;N-1;`
abbrev pub array_text : ℕ → List ℕ
array_text n = codes "ar(0,1);0;" ++ (decimal (n - 1) ++ 59 ∷ [])

-- arrays of arrays, the outermost first
abbrev pub arrays_text : List ℕ → List ℕ
arrays_text lengths = flat_map array_text lengths

-- a declared type: its arrays, its stars, its qualifiers and its base
abbrev pub declared_text : Declared → List ℕ
declared_text d = arrays_text d.lengths ++ (replicate d.stars 42 ++ (qualifiers_text d.qualifiers ++ spelling_text d.base.spelling))

-- no lengths
abbrev pub is_none : List ℕ → Bool
is_none [] = true
is_none (n ∷ ns) = false

-- the basic type of this number, 1 to 12
abbrev pub basic_type : ℕ → CType
basic_type n = record { spelling = Numbered (record { file = 0; number = n }); size = of_basic n }

-- the type of a tag that was mentioned
abbrev pub tag_type : Mention → CType
tag_type m = record { spelling = Numbered m.number; size = size.OfTag m.place }

-- a type by its number
abbrev pub is_number : Spelling → Bool
is_number (Numbered number) = true
is_number (Body text) = false

-- the type is a number alone
abbrev pub is_numbered : Declared → Bool
is_numbered d =
    is_none d.lengths && (d.stars == 0 && (not d.qualifiers.constant && (not d.qualifiers.volatile && is_number d.base.spelling)))
