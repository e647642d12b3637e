-- Tests that pass or fail, and lists of one item more or one item set.
use Rattle.std.proofs.Common.{◌≡◌, ℕ, zero, suc, ◌+◌, ◌<◌, ◌⊎◌, ◌&&◌, Bool, true, false, List, [], ◌∷◌, ◌++◌, length, take, drop, Some, None, refl, sym, ap, ◌∙◌, arith, inl, inr, map, slice_set}
use Rattle.std.specs.Prelude.{slice_get}
use Rattle.std.proofs.lemmas.Option.{same_Some}

-- ---- tests

pub both : (a b : Bool) → (a && b) ≡ true → (a ≡ true) × (b ≡ true)
both true true e = (refl, refl)
both true false e = let h : false ≡ true = e in cc
both false b e = let h : false ≡ true = e in cc

pub both_true : (a b : Bool) → a ≡ true → b ≡ true → (a && b) ≡ true
both_true a b p q = rw p (rw q refl)

pub which : (b : Bool) → (b ≡ true) ⊎ (b ≡ false)
which true = inl refl
which false = inr refl

pub not_both : {P : Type 0} (b : Bool) → b ≡ true → b ≡ false → P
not_both b p q = let h : true ≡ false = sym p ∙ q in cc

-- ---- lists by places

pub none_is : {A : Type 0} (x : A) → None ≡ Some x → ⊥
none_is x e = cc

-- from an item on
pub drop_get : {A : Type 0} (xs : List A) (at : ℕ) (x : A) → slice_get xs at ≡ Some x → drop at xs ≡ x ∷ drop (at + 1) xs
drop_get [] at x e = absurd (none_is x e)
drop_get (y ∷ xs) zero x e = ap (λ z. z ∷ xs) (same_Some y x e)
drop_get (y ∷ xs) (suc at) x e = let h : suc at + 1 ≡ suc (at + 1) = omega arith in drop_get xs at x e ∙ ap (λ n. x ∷ drop n (y ∷ xs)) (sym h)

-- up to an item that was set
pub take_set : {A : Type 0} (xs : List A) (at : ℕ) (x : A) → at < length xs → take (at + 1) (slice_set xs at x) ≡ take at xs ++ x ∷ []
take_set [] at x l = absurd (omega arith)
take_set (y ∷ xs) zero x l = refl
take_set (y ∷ xs) (suc at) x l = let h : suc at + 1 ≡ suc (at + 1) = omega arith in ap (λ n. take n (y ∷ slice_set xs at x)) h ∙ ap (λ z. y ∷ z) (take_set xs at x (omega arith))

-- what is set twice has what was set last
pub set_twice : {A : Type 0} (xs : List A) (at : ℕ) (x y : A) → slice_set (slice_set xs at x) at y ≡ slice_set xs at y
set_twice [] at x y = refl
set_twice (z ∷ xs) zero x y = refl
set_twice (z ∷ xs) (suc at) x y = ap (λ w. z ∷ w) (set_twice xs at x y)

-- maps that agree at each item
pub map_same : {A B : Type 0} (f g : A → B) → ((x : A) → f x ≡ g x) → (xs : List A) → map f xs ≡ map g xs
map_same f g same [] = refl
map_same f g same (x ∷ xs) = ap (λ z. z ∷ map f xs) (same x) ∙ ap (λ z. g x ∷ z) (map_same f g same xs)

pub map_length : {A B : Type 0} (f : A → B) (xs : List A) → length (map f xs) ≡ length xs
map_length f [] = refl
map_length f (x ∷ xs) = ap suc (map_length f xs)
