-- Where words go wrong, from a place on.
use Rattle.std.proofs.Common.{◌≡◌, ◌≤◌, ◌<◌, ℕ, Bool, List, [], ◌∷◌, length, drop, Some, refl, arith}
use Rattle.std.proofs.Math.Seq.{drop-cons, drop-length}
use Rattle.std.proofs.Math.ListN.{drop_of_length-le}
use Rattle.std.proofs.lemmas.List.{length-drop}
use Rattle.query_text.specs.WordPlaces.{wrong_from}

module _ {W : Type 0} (wants : W → List ℕ → Bool) where
  -- where there are places and no words, the first place is answered
  no_words : (at : ℕ) (places : List W) → 0 < length places → wrong_from wants at places [] ≡ Some at
  no_words at [] some = absurd (let none : 0 < 0 = some in omega (arith, none))
  no_words at (want ∷ places) some = refl

  -- where a word is missing, its place is answered
  pub wrong_from-missing : (places : List W) (words : List (List ℕ)) (at : ℕ) → at < length places → length words ≤ at
      → wrong_from wants at (drop at places) (drop at words) ≡ Some at
  wrong_from-missing places words at within past =
      let left = length-drop at places in rw (drop_of_length-le words past) (no_words at (drop at places) (omega (arith, left)))

  -- where there are too many, the first of them is answered
  pub wrong_from-many : (places : List W) (words : List (List ℕ)) → length places < length words
      → wrong_from wants (length places) (drop (length places) places) (drop (length places) words) ≡ Some (length places)
  wrong_from-many places words more = rw (drop-length places, drop-cons words (length places) [] more) refl
