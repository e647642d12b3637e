-- What is told is not told again: behind a front the pieces are those of the bytes that are left.
use Rattle.std.proofs.Common.{◌≡◌, ℕ, zero, suc, ◌+◌, ◌<◌, Bool, true, false, List, [], ◌∷◌, length, take, drop, get_or, Option, refl, sym, ap, ◌∙◌, arith}
use Rattle.std.specs.Prelude.{count_by, option_map, cond, if◌then◌else◌}
use Rattle.std.proofs.lemmas.List.Sums.{sum_by-cons}
use Rattle.c_tokens.specs.Fronts.{front_of, is_line_feed}
use Rattle.c_tokens.specs.Scanning.{Placed, pieces, with_piece, line_behind, fresh_behind}
use Rattle.c_tokens.specs.Pieces.{piece_of, GivesFront}
use Rattle.c_tokens.specs.declared.piece.Piece.{Piece}

-- the line behind bytes: one more for each line feed
one_line : (line : ℕ) (is : Bool) → (if is then line + 1 else line) ≡ line + cond is 1 0
one_line line true = refl
one_line line false = omega arith

lines : (line b : ℕ) (bytes : List ℕ) → line_behind line b + count_by is_line_feed bytes ≡ line + count_by is_line_feed (b ∷ bytes)
lines line b bytes =
    let first = one_line line (is_line_feed b) in
    let more = sum_by-cons (λ (x : ℕ). cond (is_line_feed x) 1 0) b bytes in
    omega (arith, first, more)

-- bytes that belong to what was told give nothing
skipped : (n : ℕ) (fresh : Bool) (line : ℕ) (bytes : List ℕ) → pieces n fresh line bytes ≡ pieces zero fresh (line + count_by is_line_feed (take n bytes)) (drop n bytes)
skipped n fresh line [] = skipped_none n
  where
    skipped_none : (n : ℕ) → pieces n fresh line [] ≡ pieces zero fresh (line + count_by is_line_feed (take n [])) (drop n [])
    skipped_none zero = refl
    skipped_none (suc n) = refl
skipped zero fresh line (b ∷ bytes) = ap (λ k. pieces zero fresh k (b ∷ bytes)) (omega arith)
skipped (suc n) fresh line (b ∷ bytes) =
    skipped n fresh (line_behind line b) bytes ∙ ap (λ k. pieces zero fresh k (drop n bytes)) (lines line b (take n bytes))

-- the first byte is among the first bytes
first_kept : (size : ℕ) (bytes : List ℕ) → 0 < size → get_or (take size bytes) 0 0 ≡ get_or bytes 0 0
first_kept zero bytes some = absurd (omega arith)
first_kept (suc size) [] some = refl
first_kept (suc size) (b ∷ bytes) some = refl

-- what stands in front, and then the pieces of what stands behind it
pub front_taken : (fresh : Bool) (line : ℕ) (bytes : List ℕ) (piece : Option Piece) (size : ℕ) → 0 < length bytes
    → GivesFront piece size (front_of fresh (get_or bytes 0 0) (drop 1 bytes))
    → pieces 0 fresh line bytes
    ≡ with_piece (option_map piece_of piece) line (pieces 0 (fresh_behind fresh (get_or bytes 0 0)) (line + count_by is_line_feed (take size bytes)) (drop size bytes))
front_taken fresh line [] piece size some front = absurd (omega arith)
front_taken fresh line (b ∷ bytes) piece size some front =
    let f = front_of fresh b bytes in
    let more : size ≡ suc f.more = front.takes ∙ omega arith in
    let rest : pieces f.more (fresh_behind fresh b) (line_behind line b) bytes
    ≡ pieces 0 (fresh_behind fresh b) (line + count_by is_line_feed (take size (b ∷ bytes))) (drop size (b ∷ bytes)) =
    skipped f.more (fresh_behind fresh b) (line_behind line b) bytes
    ∙ ap (λ k. pieces zero (fresh_behind fresh b) k (drop f.more bytes)) (lines line b (take f.more bytes))
    ∙ ap (λ k. pieces 0 (fresh_behind fresh b) (line + count_by is_line_feed (take k (b ∷ bytes))) (drop k (b ∷ bytes))) (sym more) in
    ap (with_piece f.piece line) rest ∙ ap (λ p. with_piece p line (pieces 0 (fresh_behind fresh b) (line + count_by is_line_feed (take size (b ∷ bytes))) (drop size (b ∷ bytes)))) (sym front.gives)

-- a front that the code has cut off
pub cut_off : (fresh next : Bool) (line feeds : ℕ) (bytes taken behind : List ℕ) (piece known : Option Piece) (size : ℕ) (whole : List Placed) → pieces 0 fresh line bytes ≡ whole
    → 0 < length bytes → GivesFront piece size (front_of fresh (get_or bytes 0 0) (drop 1 bytes)) → taken ≡ take size bytes → behind ≡ drop size bytes
    → feeds ≡ count_by is_line_feed taken → next ≡ fresh_behind fresh (get_or taken 0 0) → piece ≡ known
    → whole ≡ with_piece (option_map piece_of known) line (pieces 0 next (line + feeds) behind)
cut_off fresh next line feeds bytes taken behind piece known size whole is some front front_is behind_is feeds_are next_is known_is =
    let first : get_or taken 0 0 ≡ get_or bytes 0 0 = ap (λ l. get_or l 0 0) front_is ∙ first_kept size bytes (omega (arith, front.takes)) in
    let next_here : next ≡ fresh_behind fresh (get_or bytes 0 0) = next_is ∙ ap (fresh_behind fresh) first in
    let feeds_here : feeds ≡ count_by is_line_feed (take size bytes) = feeds_are ∙ ap (count_by is_line_feed) front_is in
    sym is ∙ front_taken fresh line bytes piece size some front ∙ sym (rw (next_here, feeds_here, behind_is, ← known_is) refl)
