-- Lists by places, what holds of each item, and filters that take nothing away.
use Rattle.std.proofs.Common.{◌≡◌, ℕ, zero, suc, ◌+◌, Bool, true, false, cond, List, [], ◌∷◌, ◌++◌, length, Some, refl, sym, ap, subst, ◌∙◌, arith, slice_get}
use Rattle.std.specs.Prelude.{filter, flat_map}
use Rattle.std.specs.List.{AllByRecursion}
use Rattle.bincl_match.proofs.ListLemmas.{none_is, some_is}

-- ---- items at places

-- an item of the first of two lists in a row
pub get_front : {A : Type 0} (xs ys : List A) (k : ℕ) (x : A) → slice_get xs k ≡ Some x → slice_get (xs ++ ys) k ≡ Some x
get_front [] ys k x is = absurd (none_is x is)
get_front (z ∷ xs) ys zero x is = is
get_front (z ∷ xs) ys (suc k) x is = get_front xs ys k x is

-- the items of the second
pub get_back : {A : Type 0} (xs ys : List A) (k : ℕ) → slice_get (xs ++ ys) (length xs + k) ≡ slice_get ys k
get_back [] ys k = let same : zero + k ≡ k = omega arith in ap (slice_get ys) same
get_back (z ∷ xs) ys k = let same : suc (length xs) + k ≡ suc (length xs + k) = omega arith in ap (slice_get (z ∷ (xs ++ ys))) same ∙ get_back xs ys k

-- ---- what holds of each item

-- what holds of anything
pub all_from : {A : Type 0} (P : A → Type 0) → ((x : A) → P x) → (xs : List A) → AllByRecursion P xs
all_from P holds [] = tt
all_from P holds (x ∷ xs) = (holds x, all_from P holds xs)

-- of two lists in a row
pub all_append : {A : Type 0} (P : A → Type 0) (xs ys : List A) → AllByRecursion P xs → AllByRecursion P ys → AllByRecursion P (xs ++ ys)
all_append P [] ys first second = second
all_append P (x ∷ xs) ys first second = (first.0, all_append P xs ys first.1 second)

-- of a list that may be left out
pub all_cond : {A : Type 0} (P : A → Type 0) (b : Bool) (xs : List A) → AllByRecursion P xs → AllByRecursion P (cond b xs [])
all_cond P true xs all = all
all_cond P false xs all = tt

-- at a place
pub all_at : {A : Type 0} (P : A → Type 0) (xs : List A) (k : ℕ) (x : A) → AllByRecursion P xs → slice_get xs k ≡ Some x → P x
all_at P [] k x all is = absurd (none_is x is)
all_at P (z ∷ xs) zero x all is = subst P (some_is (Some z) z x refl is) all.0
all_at P (z ∷ xs) (suc k) x all is = all_at P xs k x all.1 is

-- ---- filters

filtered_one : {A B : Type 0} (f : A → List B) (b : Bool) (x : A) (rest xs : List A) → (b ≡ false → f x ≡ []) → flat_map f rest ≡ flat_map f xs
    → flat_map f (cond b (x ∷ rest) rest) ≡ f x ++ flat_map f xs
filtered_one f true x rest xs none same = ap (λ z. f x ++ z) same
filtered_one f false x rest xs none same = same ∙ ap (λ z. z ++ flat_map f xs) (sym (none refl))

-- what does not pass has nothing to give
pub flat_filter : {A B : Type 0} (f : A → List B) (test : A → Bool) (xs : List A) → AllByRecursion (λ x. test x ≡ false → f x ≡ []) xs
    → flat_map f (filter test xs) ≡ flat_map f xs
flat_filter f test [] all = refl
flat_filter f test (x ∷ xs) all = filtered_one f (test x) x (filter test xs) xs all.0 (flat_filter f test xs all.1)
