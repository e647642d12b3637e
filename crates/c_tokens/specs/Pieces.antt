-- Which piece a value of the code is, and what a call takes off the front of a list.
use Rattle.std.specs.Prelude.{◌≡◌, ℕ, ◌+◌, List, [], ◌∷◌, Option, Some, None, option_map}
use Rattle.c_tokens.specs.Fronts.{Front}
use Rattle.c_tokens.specs.Scanning.{Placed, words}
use Rattle.c_tokens.specs.Words.{Piece}
use Rattle.c_tokens.specs.declared.words.BasicWord.{BasicWord}
use Rattle.c_tokens.specs.Words.Piece.{word, plain}
use Rattle.c_tokens.specs.declared.piece.Piece.{Piece as PieceOfCode}
use Rattle.c_tokens.specs.declared.piece.Piece.TheVariants.{Word, Plain}

abbrev pub piece_of : PieceOfCode → Piece
piece_of (Word w) = word w
piece_of (Plain k text n) = plain k text.now n

abbrev pub placed_of : PieceOfCode × ℕ → Placed
placed_of p = (piece_of p.0, p.1)

-- the code gives this front: its piece, and all of its bytes
pub record GivesFront (piece : Option PieceOfCode) (size : ℕ) (front : Front) : Type 0 where
  pub gives : option_map piece_of piece ≡ front.piece
  pub takes : size ≡ 1 + front.more

-- the first of a list is taken, or there is none
abbrev pub Takes : {A : Type 0} → Option A → List A → List A → Type 0
Takes None old new = (old ≡ []) × (new ≡ [])
Takes (Some a) old new = old ≡ a ∷ new

-- the first piece is taken if it is a word of basic types, else nothing is
abbrev pub TakesWord : Option BasicWord → List Placed → List Placed → Type 0
TakesWord None old new = (words old ≡ []) × (new ≡ old)
TakesWord (Some w) old new = (line : ℕ) × (old ≡ (word w, line) ∷ new)
