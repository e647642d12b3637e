-- A name in front is the run of its bytes.
use Rattle.std.proofs.Common.{◌≡◌, ℕ, ◌+◌, ◌-◌, ◌<◌, List, [], ◌∷◌, length, take, drop, get_or, Some, refl, ap, ◌∙◌, arith, add-one}
use Rattle.std.proofs.lemmas.List.{take_all, length-drop}
use Rattle.std.specs.List.{prefix_len}
use Rattle.c_tokens.specs.Words.{named}
use Rattle.c_tokens.specs.Fronts.{in_name, name}
use Rattle.c_tokens.specs.Pieces.{piece_of, GivesFront}
use Rattle.c_tokens.specs.declared.piece.Piece.{Piece}

-- the first bytes of a list that has some
take_first : (n : ℕ) (bytes : List ℕ) → 0 < length bytes → take (n + 1) bytes ≡ get_or bytes 0 0 ∷ take n (drop 1 bytes)
take_first n [] some = absurd (omega arith)
take_first n (b ∷ bytes) some = rw (add-one n) refl

-- what stands behind the first byte, as a slice shows it
all_behind : (bytes : List ℕ) → take (length bytes - 1) (drop 1 bytes) ≡ drop 1 bytes
all_behind bytes = take_all (length bytes - 1) (drop 1 bytes) (simp length-drop (omega arith))

pub name_in_front : (bytes : List ℕ) (piece : Piece) (n : ℕ) → 0 < length bytes → piece_of piece ≡ named (take (n + 1) bytes) → n ≡ prefix_len in_name (take (length bytes - 1) (drop 1 bytes))
    → GivesFront (Some piece) (n + 1) (name (get_or bytes 0 0) (drop 1 bytes))
name_in_front bytes piece n some is end = let size = end ∙ ap (prefix_len in_name) (all_behind bytes) in record {
  gives = ap Some (is ∙ ap named (take_first n bytes some ∙ ap (λ k. get_or bytes 0 0 ∷ take k (drop 1 bytes)) size));
  takes = omega (arith, size);
}
