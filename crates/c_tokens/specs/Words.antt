-- The words of the language, and which basic types their words spell.
use Rattle.std.specs.Prelude.{ℕ, if◌then◌else◌, List, [], ◌∷◌, Option, Some, None, codes, bytes_eq}
use Rattle.c_tokens.specs.declared.kind.Kind.{Kind}
use Rattle.c_tokens.specs.declared.kind.Kind.TheVariants as kind
use Rattle.c_tokens.specs.declared.words.BasicWord.{BasicWord}
use Rattle.c_tokens.specs.declared.words.BasicWord.TheVariants.{Int, Char, Short, Long, Signed, Unsigned}

-- what the source is made of: a word of basic types, or a token as it stands, with its bytes and its number
pub data Piece : Type 0 where
  word : BasicWord → Piece
  plain : Kind → List ℕ → ℕ → Piece

-- a token that its kind alone describes
abbrev pub mark : Kind → Piece
mark k = plain k [] 0

-- what a longest run of letters, digits and `_` is: one of the words, else a name
abbrev pub named : List ℕ → Piece
named w =
    if bytes_eq w (codes "typedef") then mark kind.Typedef
    else (if bytes_eq w (codes "static") then mark kind.Static
    else (if bytes_eq w (codes "extern") then mark kind.Extern
    else (if bytes_eq w (codes "const") then mark kind.Const
    else (if bytes_eq w (codes "volatile") then mark kind.Volatile
    else (if bytes_eq w (codes "struct") then plain kind.Struct [] 0
    else (if bytes_eq w (codes "union") then plain kind.Struct [] 1
    else (if bytes_eq w (codes "enum") then mark kind.Enum
    else (if bytes_eq w (codes "void") then plain kind.Void [] 10
    else (if bytes_eq w (codes "int") then word Int
    else (if bytes_eq w (codes "char") then word Char
    else (if bytes_eq w (codes "short") then word Short
    else (if bytes_eq w (codes "long") then word Long
    else (if bytes_eq w (codes "signed") then word Signed
    else (if bytes_eq w (codes "unsigned") then word Unsigned
    else plain kind.Name w 0))))))))))))))

-- the number of the basic type that these words spell, if they spell one
abbrev pub basic_type : List BasicWord → Option ℕ
basic_type (Int ∷ []) = Some 1
basic_type (Char ∷ []) = Some 2
basic_type (Long ∷ []) = Some 3
basic_type (Long ∷ Int ∷ []) = Some 3
basic_type (Unsigned ∷ []) = Some 4
basic_type (Unsigned ∷ Int ∷ []) = Some 4
basic_type (Unsigned ∷ Long ∷ []) = Some 5
basic_type (Unsigned ∷ Long ∷ Int ∷ []) = Some 5
basic_type (Short ∷ []) = Some 6
basic_type (Short ∷ Int ∷ []) = Some 6
basic_type (Unsigned ∷ Short ∷ []) = Some 7
basic_type (Unsigned ∷ Short ∷ Int ∷ []) = Some 7
basic_type (Unsigned ∷ Char ∷ []) = Some 8
basic_type (Signed ∷ Char ∷ []) = Some 9
basic_type (Long ∷ Long ∷ []) = Some 11
basic_type (Long ∷ Long ∷ Int ∷ []) = Some 11
basic_type (Unsigned ∷ Long ∷ Long ∷ []) = Some 12
basic_type (Unsigned ∷ Long ∷ Long ∷ Int ∷ []) = Some 12
basic_type _ = None
