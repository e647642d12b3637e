-- Worked values of matchings, by hand: two units that include two headers which name each other, and a header that names none.
use Rattle.std.proofs.Common.{◌≡◌, ◌≢◌, ℕ, zero, suc, ◌⊎◌, true, List, [], ◌∷◌, codes, refl, sym, ap, ◌∙◌, arith, lit<, inl, inr, subst}
use Rattle.std.specs.Prelude.{slice_get}
use Rattle.std.specs.List.{Contains}
use Rattle.bincl_match.specs.declared.range.RangeOf.{RangeOf}
use Rattle.bincl_match.specs.Lawful.{IsHeader}
use Rattle.bincl_match.specs.Matching.{AllAgree, Among, InOneClass, IsMatching, MayPair, NumbersAgree}
use Rattle.bincl_match.proofs.ListLemmas.{none_is, some_is}

-- a range of this unit and file, with a name, one text of shape, and these numbers
abbrev of : ℕ → ℕ → List ℕ → List ℕ → RangeOf
of unit file name numbers = record { unit = unit; file = file; name = name; shape = codes "p:t(,1)=*(,1)" ∷ []; numbers = numbers; sum = 0; candidate = true }

-- ---- two headers that name each other

-- in both units `x` names itself and `y`, and `y` names itself and `x`; the files have other numbers in the second unit
abbrev ring : List RangeOf
ring = of 0 1 (codes "x") (1 ∷ 2 ∷ []) ∷ of 0 2 (codes "y") (2 ∷ 1 ∷ []) ∷ of 1 1 (codes "y") (1 ∷ 2 ∷ []) ∷ of 1 2 (codes "x") (2 ∷ 1 ∷ []) ∷ []

-- the two `x`, and the two `y`
abbrev pairs : List (ℕ × ℕ)
pairs = (0, 3) ∷ (1, 2) ∷ []

x_first : IsHeader ring 0 1 0
x_first = (of 0 1 (codes "x") (1 ∷ 2 ∷ []), refl, refl, refl)

y_first : IsHeader ring 0 2 1
y_first = (of 0 2 (codes "y") (2 ∷ 1 ∷ []), refl, refl, refl)

y_second : IsHeader ring 1 1 2
y_second = (of 1 1 (codes "y") (1 ∷ 2 ∷ []), refl, refl, refl)

x_second : IsHeader ring 1 2 3
x_second = (of 1 2 (codes "x") (2 ∷ 1 ∷ []), refl, refl, refl)

x_pair : Among pairs 0 3
x_pair = inl (0, lit< tt, refl)

y_pair : Among pairs 1 2
y_pair = inl (1, lit< tt, refl)

x_turned : Among pairs 3 0
x_turned = inr (0, lit< tt, refl)

y_turned : Among pairs 2 1
y_turned = inr (1, lit< tt, refl)

-- units 0 and 1
units : zero ≢ suc zero
units e = omega (arith, e)

-- the two `x` may be one where the two `y` are
x_may : MayPair ring (Among pairs) 0 3
x_may = record {
  first = of 0 1 (codes "x") (1 ∷ 2 ∷ []);
  second = of 1 2 (codes "x") (2 ∷ 1 ∷ []);
  first_is = refl;
  second_is = refl;
  candidates = (refl, refl);
  units = units;
  names = refl;
  shapes = refl;
  agree = (inr (0, 3, x_first, x_second, inr x_pair), (inr (1, 2, y_first, y_second, inr y_pair), tt));
}

-- and these where the two `x` are
y_may : MayPair ring (Among pairs) 1 2
y_may = record {
  first = of 0 2 (codes "y") (2 ∷ 1 ∷ []);
  second = of 1 1 (codes "y") (1 ∷ 2 ∷ []);
  first_is = refl;
  second_is = refl;
  candidates = (refl, refl);
  units = units;
  names = refl;
  shapes = refl;
  agree = (inr (1, 2, y_first, y_second, inr y_pair), (inr (0, 3, x_first, x_second, inr x_pair), tt));
}

-- the other way round
x_may_too : MayPair ring (Among pairs) 3 0
x_may_too = record {
  first = of 1 2 (codes "x") (2 ∷ 1 ∷ []);
  second = of 0 1 (codes "x") (1 ∷ 2 ∷ []);
  first_is = refl;
  second_is = refl;
  candidates = (refl, refl);
  units = λ e. units (sym e);
  names = refl;
  shapes = refl;
  agree = (inr (3, 0, x_second, x_first, inr x_turned), (inr (2, 1, y_second, y_first, inr y_turned), tt));
}

y_may_too : MayPair ring (Among pairs) 2 1
y_may_too = record {
  first = of 1 1 (codes "y") (1 ∷ 2 ∷ []);
  second = of 0 2 (codes "y") (2 ∷ 1 ∷ []);
  first_is = refl;
  second_is = refl;
  candidates = (refl, refl);
  units = λ e. units (sym e);
  names = refl;
  shapes = refl;
  agree = (inr (2, 1, y_second, y_first, inr y_turned), (inr (3, 0, x_second, x_first, inr x_turned), tt));
}

-- there are no other pairs
pairs_are : (i j : ℕ) → Contains pairs (i, j) → ((i ≡ 0) × (j ≡ 3)) ⊎ ((i ≡ 1) × (j ≡ 2))
pairs_are i j (zero, lt, e) = inl (sym (ap (λ (z : ℕ × ℕ). z.0) e), sym (ap (λ (z : ℕ × ℕ). z.1) e))
pairs_are i j (suc zero, lt, e) = inr (sym (ap (λ (z : ℕ × ℕ). z.0) e), sym (ap (λ (z : ℕ × ℕ). z.1) e))
pairs_are i j (suc (suc k), lt, e) = absurd (omega (arith, lt))

-- a fact of two places is one of equal places
at : (P : ℕ → ℕ → Type 0) (i j k l : ℕ) → i ≡ k → j ≡ l → P k l → P i j
at P i j k l a b p = subst (λ (z : ℕ). P z j) (sym a) (subst (P k) (sym b) p)

-- so both pairs together are a matching
ring_matching : IsMatching ring (Among pairs)
ring_matching i j (inl h) = by_case (pairs_are i j h) where
  by_case : ((i ≡ 0) × (j ≡ 3)) ⊎ ((i ≡ 1) × (j ≡ 2)) → MayPair ring (Among pairs) i j
  by_case (inl e) = at (MayPair ring (Among pairs)) i j 0 3 e.0 e.1 x_may
  by_case (inr e) = at (MayPair ring (Among pairs)) i j 1 2 e.0 e.1 y_may
ring_matching i j (inr h) = by_case (pairs_are j i h) where
  by_case : ((j ≡ 0) × (i ≡ 3)) ⊎ ((j ≡ 1) × (i ≡ 2)) → MayPair ring (Among pairs) i j
  by_case (inl e) = at (MayPair ring (Among pairs)) i j 3 0 e.1 e.0 x_may_too
  by_case (inr e) = at (MayPair ring (Among pairs)) i j 2 1 e.1 e.0 y_may_too

-- and the two `x` are one
x_is_one : InOneClass ring 0 3
x_is_one = inr (pairs, ring_matching, x_pair)

-- ---- a header that names none

-- in both units `x` has a number that is the file of no header
abbrev lost : List RangeOf
lost = of 0 1 (codes "x") (5 ∷ []) ∷ of 1 1 (codes "x") (5 ∷ []) ∷ []

-- unit 0 has no file 5
no_file : (k : ℕ) → IsHeader lost 0 5 k → ⊥
no_file zero (x, is, unit, file) = let e : 1 ≡ 5 = ap (λ (z : RangeOf). z.file) (some_is (slice_get lost 0) (of 0 1 (codes "x") (5 ∷ [])) x refl is) ∙ file in absurd (omega (arith, e))
no_file (suc zero) (x, is, unit, file) = let e : 1 ≡ 0 = ap (λ (z : RangeOf). z.unit) (some_is (slice_get lost 1) (of 1 1 (codes "x") (5 ∷ [])) x refl is) ∙ unit in absurd (omega (arith, e))
no_file (suc (suc k)) (x, is, unit, file) = absurd (none_is x is)

-- so the number agrees with none
disagree : (P : ℕ → ℕ → Type 0) (n : ℕ) → NumbersAgree lost P 0 1 5 n → ⊥
disagree P n (inl e) = omega (arith, e.0)
disagree P n (inr (k, l, is, also, p)) = no_file k is

-- and the two are not one, though they have one name and one shape
not_one : (P : ℕ → ℕ → Type 0) → MayPair lost P 0 1 → ⊥
not_one P m =
    let a : of 0 1 (codes "x") (5 ∷ []) ≡ m.first = some_is (slice_get lost 0) (of 0 1 (codes "x") (5 ∷ [])) m.first refl m.first_is in
    let b : of 1 1 (codes "x") (5 ∷ []) ≡ m.second = some_is (slice_get lost 1) (of 1 1 (codes "x") (5 ∷ [])) m.second refl m.second_is in
    let agree = subst (λ (z : RangeOf). AllAgree lost P 0 z.unit (5 ∷ []) z.numbers) (sym b) (subst (λ (z : RangeOf). AllAgree lost P z.unit m.second.unit z.numbers m.second.numbers) (sym a) m.agree) in
    disagree P 5 agree.0
