-- The tokens of a source. It is cut into what stands in front, again and again; then the words of basic types that stand side by side
-- are made one token. Each is told where it begins, and what belongs to it gives nothing more.
use Rattle.std.specs.Prelude.{ℕ, zero, suc, ◌+◌, ◌^◌, ◌<◌, ◌≤◌, ◌&&◌, ◌||◌, Bool, true, false, if◌then◌else◌, List, [], ◌∷◌, Option, Some, None}
use Rattle.c_tokens.specs.declared.kind.Kind.{Kind}
use Rattle.c_tokens.specs.declared.kind.Kind.TheVariants as kind
use Rattle.c_tokens.specs.declared.words.BasicWord.{BasicWord}
use Rattle.c_tokens.specs.Tokens.{Token}
use Rattle.c_tokens.specs.Words.{Piece, basic_type}
use Rattle.c_tokens.specs.Words.Piece.{word, plain}
use Rattle.c_tokens.specs.Fronts.{front_of, is_blank, is_line_feed}

-- a piece and its line
abbrev pub Placed : Type 0
Placed = Piece × ℕ

-- the line behind a byte
abbrev pub line_behind : ℕ → ℕ → ℕ
line_behind line b = if is_line_feed b then line + 1 else line

-- whether only blanks stand on the line behind what begins with this byte
abbrev pub fresh_behind : Bool → ℕ → Bool
fresh_behind fresh b = is_line_feed b || fresh && is_blank b

-- a piece, if there is one, before others
abbrev pub with_piece : Option Piece → ℕ → List Placed → List Placed
with_piece None line ps = ps
with_piece (Some p) line ps = (p, line) ∷ ps

-- the pieces of bytes of which the first `more` belong to what was told; `line`: that of the first byte
abbrev pub pieces : ℕ → Bool → ℕ → List ℕ → List Placed
pieces more fresh line [] = []
pieces (suc more) fresh line (b ∷ rest) = pieces more fresh (line_behind line b) rest
pieces zero fresh line (b ∷ rest) =
    with_piece (front_of fresh b rest).piece line (pieces (front_of fresh b rest).more (fresh_behind fresh b) (line_behind line b) rest)

-- the words of basic types in front
abbrev pub words : List Placed → List BasicWord
words [] = []
words ((plain k text n, line) ∷ ps) = []
words ((word w, line) ∷ ps) = w ∷ words ps

abbrev pub token : Kind → List ℕ → ℕ → ℕ → Token
token k text n line = (k, record { text = text; number = n; line = line })

-- the token of a longest run of words of basic types
abbrev pub basic_token : Option ℕ → ℕ → Token
basic_token (Some n) line = token kind.Basic [] n line
basic_token None line = token kind.Bad [] 0 line

-- the tokens of pieces; `told`: the words in front belong to a run that was told
abbrev pub merged : Bool → List Placed → List Token
merged told [] = []
merged told ((plain k text n, line) ∷ ps) = token k text n line ∷ merged false ps
merged true ((word w, line) ∷ ps) = merged true ps
merged false ((word w, line) ∷ ps) = basic_token (basic_type (w ∷ words ps)) line ∷ merged true ps

-- the tokens of a whole source
abbrev pub tokens : List ℕ → List Token
tokens source = merged false (pieces 0 true 1 source)

-- there are so few bytes left that each line can be counted
pub record HasRoom (line left : ℕ) : Type 0 where
  pub lines : line + left ≤ 2 ^ 63
  pub bytes : left < 2 ^ 63
