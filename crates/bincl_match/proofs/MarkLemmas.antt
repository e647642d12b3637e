-- Numbers and their marks: numbers that agree have marks of one group, and marks of one group are those of numbers that agree.
use Rattle.std.proofs.Common.{◌≡◌, ◌≢◌, ℕ, zero, suc, ◌+◌, ◌⊎◌, List, [], ◌∷◌, length, get_or, map, refl, sym, ap, ◌∙◌, arith, inl, inr, subst}
use Rattle.std.proofs.lemmas.Bool.{cases_eq}
use Rattle.std.proofs.lemmas.Option.{slice_get_within}
use Rattle.bincl_match.specs.declared.range.RangeOf.{RangeOf}
use Rattle.bincl_match.specs.Lawful.{IsHeader, IsLawful}
use Rattle.bincl_match.specs.Matching.{AllAgree, NumbersAgree, Shares}
use Rattle.bincl_match.specs.Refining.{AreMarks, HasLost, IsMark, group_of}

-- no header opens file 0
zero_opens : (rs : List RangeOf) (law : IsLawful rs) (u n k : ℕ) → n ≡ 0 → IsHeader rs u n k → ⊥
zero_opens rs law u n k e h = law.no_zero u k (subst (λ (z : ℕ). IsHeader rs u z k) e h)

-- ---- from numbers to marks

module _ (rs : List RangeOf) (P : ℕ → ℕ → Type 0) (g : List ℕ) (law : IsLawful rs) (keep : (k l : ℕ) → P k l → get_or g k 0 ≡ get_or g l 0) where
  -- one number
  mark_of : (u v m n a b : ℕ) → NumbersAgree rs P u v m n → IsMark rs u m a → IsMark rs v n b → group_of g a ≡ group_of g b
  mark_of u v m n zero zero agree x y = refl
  mark_of u v m n zero (suc l) (inl z) x y = absurd (zero_opens rs law v n l z.1 y)
  mark_of u v m n zero (suc l) (inr (h, q, hh, hq, p)) x y = absurd (zero_opens rs law u m h x hh)
  mark_of u v m n (suc k) b (inl z) x y = absurd (zero_opens rs law u m k z.0 x)
  mark_of u v m n (suc k) zero (inr (h, q, hh, hq, p)) x y = absurd (zero_opens rs law v n q y hq)
  mark_of u v m n (suc k) (suc l) (inr (h, q, hh, hq, p)) x y =
      ap (λ (z : ℕ). get_or g z 0 + 1) (law.one_header u m k h x hh) ∙ ap (λ (z : ℕ). z + 1) (both_of p) ∙ sym (ap (λ (z : ℕ). get_or g z 0 + 1) (law.one_header v n l q y hq)) where
        both_of : (h ≡ q) ⊎ P h q → get_or g h 0 ≡ get_or g q 0
        both_of (inl e) = ap (λ (z : ℕ). get_or g z 0) e
        both_of (inr pair) = keep h q pair

  -- all numbers
  pub marks_of : (u v : ℕ) (ms ns as1 bs : List ℕ) → AllAgree rs P u v ms ns → AreMarks rs u ms as1 → AreMarks rs v ns bs → map (group_of g) as1 ≡ map (group_of g) bs
  marks_of u v [] [] [] [] agree x y = refl
  marks_of u v [] [] [] (b ∷ bs) agree x y = absurd y
  marks_of u v [] [] (a ∷ as1) bs agree x y = absurd x
  marks_of u v [] (n ∷ ns) as1 bs agree x y = absurd agree
  marks_of u v (m ∷ ms) [] as1 bs agree x y = absurd agree
  marks_of u v (m ∷ ms) (n ∷ ns) [] bs agree x y = absurd x
  marks_of u v (m ∷ ms) (n ∷ ns) (a ∷ as1) [] agree x y = absurd y
  marks_of u v (m ∷ ms) (n ∷ ns) (a ∷ as1) (b ∷ bs) agree x y =
      let e : group_of g a ≡ group_of g b = mark_of u v m n a b agree.0 x.0 y.0 in
      let f : map (group_of g) as1 ≡ map (group_of g) bs = marks_of u v ms ns as1 bs agree.1 x.1 y.1 in
      cc

-- ---- lost numbers

module _ (rs : List RangeOf) (P : ℕ → ℕ → Type 0) (u v : ℕ) where
  -- a number that agrees with another is not lost
  number_found : (m n : ℕ) → NumbersAgree rs P u v m n → (m ≢ 0) → ((k : ℕ) → IsHeader rs u m k → ⊥) → ⊥
  number_found m n (inl z) a b = a z.0
  number_found m n (inr (k, l, hk, hl, p)) a b = b k hk

  -- nor is the other
  other_found : (m n : ℕ) → NumbersAgree rs P u v m n → (n ≢ 0) → ((k : ℕ) → IsHeader rs v n k → ⊥) → ⊥
  other_found m n (inl z) a b = a z.1
  other_found m n (inr (k, l, hk, hl, p)) a b = b l hl

  -- none of numbers that agree is lost
  pub none_lost : (ms ns : List ℕ) → AllAgree rs P u v ms ns → HasLost rs u ms → ⊥
  none_lost [] ns agree lost = absurd lost
  none_lost (m ∷ ms) [] agree lost = absurd agree
  none_lost (m ∷ ms) (n ∷ ns) agree (inl z) = number_found m n agree.0 z.0 z.1
  none_lost (m ∷ ms) (n ∷ ns) agree (inr more) = none_lost ms ns agree.1 more

  -- nor of the others
  pub others_not_lost : (ms ns : List ℕ) → AllAgree rs P u v ms ns → HasLost rs v ns → ⊥
  others_not_lost ms [] agree lost = absurd lost
  others_not_lost [] (n ∷ ns) agree lost = absurd agree
  others_not_lost (m ∷ ms) (n ∷ ns) agree (inl z) = other_found m n agree.0 z.0 z.1
  others_not_lost (m ∷ ms) (n ∷ ns) agree (inr more) = others_not_lost ms ns agree.1 more

-- ---- from marks to numbers

module _ (rs : List RangeOf) (g : List ℕ) (u v : ℕ) where
  -- one number
  agree_of : (m n a b : ℕ) → IsMark rs u m a → IsMark rs v n b → group_of g a ≡ group_of g b → NumbersAgree rs (Shares (length rs) g) u v m n
  agree_of m n zero zero x y e = inl (x, y)
  agree_of m n zero (suc l) x y e = absurd (omega arith)
  agree_of m n (suc k) zero x y e = absurd (omega arith)
  agree_of m n (suc k) (suc l) x y e = inr (k, l, x, y, by_case (cases_eq k l)) where
    by_case : (k ≡ l) ⊎ (k ≡ l → ⊥) → (k ≡ l) ⊎ Shares (length rs) g k l
    by_case (inl same) = inl same
    by_case (inr ne) = inr (slice_get_within rs k x.0 x.1, slice_get_within rs l y.0 y.1, ne, omega (arith, e))

  -- all numbers
  pub all_agree_of : (ms ns as1 bs : List ℕ) → AreMarks rs u ms as1 → AreMarks rs v ns bs → map (group_of g) as1 ≡ map (group_of g) bs → AllAgree rs (Shares (length rs) g) u v ms ns
  all_agree_of [] [] as1 bs x y e = tt
  all_agree_of [] (n ∷ ns) [] [] x y e = absurd y
  all_agree_of [] (n ∷ ns) [] (b ∷ bs) x y e = let h : [] ≡ group_of g b ∷ map (group_of g) bs = e in cc
  all_agree_of [] (n ∷ ns) (a ∷ as1) bs x y e = absurd x
  all_agree_of (m ∷ ms) ns [] bs x y e = absurd x
  all_agree_of (m ∷ ms) [] (a ∷ as1) [] x y e = let h : group_of g a ∷ map (group_of g) as1 ≡ [] = e in cc
  all_agree_of (m ∷ ms) [] (a ∷ as1) (b ∷ bs) x y e = absurd y
  all_agree_of (m ∷ ms) (n ∷ ns) (a ∷ as1) [] x y e = absurd y
  all_agree_of (m ∷ ms) (n ∷ ns) (a ∷ as1) (b ∷ bs) x y e =
      let h : group_of g a ∷ map (group_of g) as1 ≡ group_of g b ∷ map (group_of g) bs = e in
      let e0 : group_of g a ≡ group_of g b = cc in
      let e1 : map (group_of g) as1 ≡ map (group_of g) bs = cc in
      (agree_of m n a b x.0 y.0 e0, all_agree_of ms ns as1 bs x.1 y.1 e1)
