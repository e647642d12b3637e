-- Texts with a `0` after each `(`: they have their bytes back, are made part by part, and digits and numbers stay as they are.
use Rattle.std.proofs.Common.{◌≡◌, ℕ, ◌+◌, ◌%◌, ◌^◌, ◌<◌, inl, inr, Bool, true, false, eqb, cond, List, [], ◌∷◌, ◌++◌, refl, ap, subst, ◌∙◌, arith}
use Rattle.std.specs.Prelude.{decimal}
use Rattle.std.proofs.lemmas.Bool.{and_parts, and_from, eqb-true, both_ways}
use Rattle.std.proofs.lemmas.Fmt.{decimal_by_steps}
use Rattle.readers.specs.Spelling.{all_of}
use Rattle.readers.specs.Words.{is_digit}
use Rattle.readers.proofs.Cases.{which}
use Rattle.readers.proofs.Numbers.{is_digit_of}
use Rattle.stab_grammar.proofs.WithFiles.{joined}

-- ---- a `0` after each `(`

-- with a `0` after each `(`
abbrev pub spread : List ℕ → List ℕ
spread [] = []
spread (b ∷ p) = b ∷ cond (eqb b 40) (48 ∷ spread p) (spread p)

-- and without it; `skip` says that the byte before was a `(`
abbrev gather_on : Bool → List ℕ → List ℕ
gather_on skip [] = []
gather_on true (b ∷ p) = gather_on false p
gather_on false (b ∷ p) = b ∷ gather_on (eqb b 40) p

abbrev pub gather : List ℕ → List ℕ
gather = gather_on false

-- the bytes come back
pub gathered : (p : List ℕ) → gather (spread p) ≡ p
gathered [] = refl
gathered (b ∷ p) = elim (which (eqb b 40)) [
  | inl h ↦ rw h (ap (λ (z : List ℕ). b ∷ z) (gathered p))
  | inr h ↦ rw h (ap (λ (z : List ℕ). b ∷ z) (gathered p))
]

-- a text is spread part by part
pub spread-append : (p q : List ℕ) → spread (p ++ q) ≡ spread p ++ spread q
spread-append [] q = refl
spread-append (b ∷ p) q = elim (which (eqb b 40)) [
  | inl h ↦ rw h (ap (λ (z : List ℕ). b ∷ (48 ∷ z)) (spread-append p q))
  | inr h ↦ rw h (ap (λ (z : List ℕ). b ∷ z) (spread-append p q))
]

-- a text of other bytes stays
pub plain_byte : (b : ℕ) (p q : List ℕ) → eqb b 40 ≡ false → spread p ≡ q → spread (b ∷ p) ≡ b ∷ q
plain_byte b p q miss e = rw miss (ap (λ (z : List ℕ). b ∷ z) e)

-- no digit is `(`
digit_not : (b : ℕ) → is_digit b ≡ true → eqb b 40 ≡ false
digit_not b e = elim (which (eqb b 40)) [
  | inl h ↦ absurd (both_ways (is_digit 40) refl (subst (λ (z : ℕ). is_digit z ≡ true) (eqb-true b 40 h) e))
  | inr h ↦ h
]

-- digits stay
pub spread_digits : (p : List ℕ) → all_of is_digit p ≡ true → spread p ≡ p
spread_digits [] e = refl
spread_digits (b ∷ p) e =
    let k = and_parts (is_digit b) (all_of is_digit p) e in
    plain_byte b p p (digit_not b k.0) (spread_digits p k.1)

-- a decimal number stays
StaysSo : List ℕ → Type 0
StaysSo p = spread p ≡ p

stays : (n : ℕ) → n < 2 ^ 64 → StaysSo (decimal n)
unfolding StaysSo
stays = decimal_by_steps (λ n ds. StaysSo ds)
    (λ n lt. plain_byte (48 + n) [] [] (digit_not (48 + n) (is_digit_of n lt)) refl)
    (λ n ds big f. spread-append ds ((48 + n % 10) ∷ []) ∙ joined _ _ _ _ f (plain_byte (48 + n % 10) [] [] (digit_not (48 + n % 10) (is_digit_of (n % 10) (omega arith))) refl))

-- as an equation
pub spread_decimal : (n : ℕ) → n < 2 ^ 64 → spread (decimal n) ≡ decimal n
unfolding StaysSo
spread_decimal n small = stays n small

-- bytes that pass a test that `0` passes still do
pub all_spread : (test : ℕ → Bool) (p : List ℕ) → test 48 ≡ true → all_of test p ≡ true → all_of test (spread p) ≡ true
all_spread test [] zero e = refl
all_spread test (b ∷ p) zero e =
    let k = and_parts (test b) (all_of test p) e in
    elim (which (eqb b 40)) [
      | inl h ↦ rw h (and_from (test b) _ k.0 (and_from (test 48) _ zero (all_spread test p zero k.1)))
      | inr h ↦ rw h (and_from (test b) _ k.0 (all_spread test p zero k.1))
    ]
