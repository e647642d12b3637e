-- There are no more tokens than bytes.
use Rattle.std.proofs.Common.{◌≡◌, ℕ, zero, suc, ◌^◌, ◌<◌, ◌≤◌, Bool, true, false, List, [], ◌∷◌, length, Option, Some, None, ap, arith}
use Rattle.c_tokens.specs.Tokens.{Token}
use Rattle.c_tokens.specs.Words.Piece.{word, plain}
use Rattle.c_tokens.specs.Words.{Piece}
use Rattle.c_tokens.specs.Fronts.{front_of}
use Rattle.c_tokens.specs.Scanning.{Placed, pieces, with_piece, line_behind, fresh_behind, merged}

-- a front gives one piece at most
one_more : (piece : Option Piece) (line : ℕ) (ps : List Placed) (n : ℕ) → length ps ≤ n → length (with_piece piece line ps) ≤ suc n
one_more None line ps n h = omega arith
one_more (Some p) line ps n h = omega arith

-- no more pieces than bytes
pub few_pieces : (more : ℕ) (fresh : Bool) (line : ℕ) (bytes : List ℕ) → length (pieces more fresh line bytes) ≤ length bytes
few_pieces more fresh line [] = none more
  where
    none : (more : ℕ) → length (pieces more fresh line []) ≤ 0
    none zero = omega arith
    none (suc more) = omega arith
few_pieces zero fresh line (b ∷ bytes) =
    one_more (front_of fresh b bytes).piece line _ (length bytes) (few_pieces (front_of fresh b bytes).more (fresh_behind fresh b) (line_behind line b) bytes)
few_pieces (suc more) fresh line (b ∷ bytes) = let rest = few_pieces more fresh (line_behind line b) bytes in omega (arith, rest)

-- no more tokens than pieces
pub few_tokens : (told : Bool) (ps : List Placed) → length (merged told ps) ≤ length ps
few_tokens told [] = omega arith
few_tokens told ((plain k text n, line) ∷ ps) = let rest = few_tokens false ps in omega (arith, rest)
few_tokens true ((word w, line) ∷ ps) = let rest = few_tokens true ps in omega (arith, rest)
few_tokens false ((word w, line) ∷ ps) = let rest = few_tokens true ps in omega (arith, rest)

pub short_pieces : (fresh : Bool) (line : ℕ) (bytes : List ℕ) (ps : List Placed) → length bytes < 2 ^ 63 → pieces 0 fresh line bytes ≡ ps → length ps < 2 ^ 63
short_pieces fresh line bytes ps short is = let few = few_pieces 0 fresh line bytes in let same : length (pieces 0 fresh line bytes) ≡ length ps = ap length is in omega (arith, few, same)

pub short_tokens : (ps : List Placed) (ts : List Token) → length ps < 2 ^ 63 → merged false ps ≡ ts → length ts < 2 ^ 63
short_tokens ps ts short is = let few = few_tokens false ps in let same : length (merged false ps) ≡ length ts = ap length is in omega (arith, few, same)
