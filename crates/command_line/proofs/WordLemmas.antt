-- Which word is an operand, from a place on.
use Rattle.std.proofs.Common.{◌≡◌, ◌<◌, ℕ, zero, suc, ◌+◌, Bool, false, List, [], ◌∷◌, length, drop, get_or, refl, sym, ap, ◌∙◌, add-one, cond}
use Rattle.std.proofs.Math.Seq.{drop-cons}
use Rattle.command_line.specs.declared.words.Operand.{Operand}
use Rattle.command_line.specs.declared.words.Want.{Want}
use Rattle.command_line.specs.CommandWords.{word_of, is_operand, first, behind}

-- one word more is behind
drop-behind : (at : ℕ) (words : List (List ℕ)) → drop (at + 1) words ≡ behind (drop at words)
drop-behind at words = ap (λ (n : ℕ). drop n words) (add-one at) ∙ step at words where
  step : (at : ℕ) (words : List (List ℕ)) → drop (suc at) words ≡ behind (drop at words)
  step zero [] = refl
  step zero (word ∷ words) = refl
  step (suc at) [] = refl
  step (suc at) (word ∷ words) = step at words

module _ (places : List Want) (words : List (List ℕ)) (at : ℕ) (d : Want) (within : at < length places) where
  place : Want
  place = get_or places at d

  split : drop at places ≡ place ∷ drop (at + 1) places
  unfolding place
  split = drop-cons places at d within ∙ ap (λ (n : ℕ). place ∷ drop n places) (sym (add-one at))

  -- a place that does not want the operand is passed over
  pub word_of-past : (operand : Operand) → is_operand operand (get_or places at d) ≡ false
      → word_of operand (drop (at + 1) places) (drop (at + 1) words) ≡ word_of operand (drop at places) (drop at words)
  unfolding place
  word_of-past operand other =
      rw (split, drop-behind at words) (sym (ap (λ (b : Bool). cond b (first (drop at words)) (word_of operand (drop (at + 1) places) (behind (drop at words)))) other))
