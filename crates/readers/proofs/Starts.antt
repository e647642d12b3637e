-- The byte that a spelling begins with.
use Rattle.std.proofs.Common.{◌≡◌, ℕ, ◌+◌, ◌%◌, ◌^◌, ◌≤◌, ◌<◌, inl, inr, Bool, true, false, eqb, List, [], ◌∷◌, ◌++◌, length, subst, arith}
use Rattle.std.specs.Prelude.{decimal, ◌||◌}
use Rattle.std.proofs.lemmas.Bool.{eqb-true, both_ways, or_right}
use Rattle.std.proofs.lemmas.Fmt.{decimal_by_steps}
use Rattle.readers.specs.Words.{is_digit}
use Rattle.readers.proofs.Cases.{which}
use Rattle.readers.proofs.Choose.{Apart}
use Rattle.readers.proofs.Cuts.{After}
use Rattle.readers.proofs.Numbers.{is_digit_of}

-- the text begins with a byte that passes the test
abbrev pub Starts : (ℕ → Bool) → List ℕ → Type 0
Starts test [] = ⊥
Starts test (b ∷ p) = test b ≡ true

-- such a text is not empty
pub starts_solid : (test : ℕ → Bool) (p : List ℕ) → Starts test p → 1 ≤ length p
starts_solid test [] s = absurd s
starts_solid test (b ∷ p) s = omega arith

-- what begins with a byte that passes begins with no byte that doesn't
pub apart_of : (test : ℕ → Bool) (c : ℕ) → test c ≡ false → (p : List ℕ) → Starts test p → Apart c p
apart_of test c miss [] s = absurd s
apart_of test c miss (b ∷ p) s = elim (which (eqb b c)) [
  | inl h ↦ absurd (both_ways (test c) miss (subst (λ (z : ℕ). test z ≡ true) (eqb-true b c h) s))
  | inr h ↦ h
]

-- more after it
pub starts_more : (test : ℕ → Bool) (p q : List ℕ) → Starts test p → Starts test (p ++ q)
starts_more test [] q s = absurd s
starts_more test (b ∷ p) q s = s

-- a wider test
pub starts_as : (test wider : ℕ → Bool) → ((b : ℕ) → test b ≡ true → wider b ≡ true) → (p : List ℕ) → Starts test p → Starts wider p
starts_as test wider wide [] s = absurd s
starts_as test wider wide (b ∷ p) s = wide b s

-- one byte more passes
pub starts_right : (c : ℕ) (test : ℕ → Bool) (p : List ℕ) → Starts test p → Starts (λ b. eqb b c || test b) p
starts_right c test [] s = absurd s
starts_right c test (b ∷ p) s = or_right (eqb b c) (test b) s

-- what begins so may follow where the test lets it
pub after_starts : (test follows : ℕ → Bool) → ((b : ℕ) → test b ≡ true → follows b ≡ true) → (p rest : List ℕ) → Starts test p → After follows (p ++ rest)
after_starts test follows wide [] rest s = absurd s
after_starts test follows wide (b ∷ p) rest s = wide b s

-- ---- numbers

-- it begins with a digit
FirstDigit : List ℕ → Type 0
FirstDigit ds = Starts is_digit ds

-- a decimal number begins with a digit
first_of : (n : ℕ) → n < 2 ^ 64 → FirstDigit (decimal n)
unfolding FirstDigit
first_of = decimal_by_steps (λ n ds. FirstDigit ds) (λ n lt. is_digit_of n lt) (λ n ds big f. starts_more is_digit ds ((48 + n % 10) ∷ []) f)

-- a number begins with a digit
pub starts_decimal : (k : ℕ) → k < 2 ^ 64 → Starts is_digit (decimal k)
unfolding FirstDigit
starts_decimal k lt = first_of k lt
