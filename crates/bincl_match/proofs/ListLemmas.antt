-- Lists by places: fronts and ends, maps, the items of a list from a place on, and lists of what each place has.
use Rattle.std.proofs.Common.{◌≡◌, ℕ, zero, suc, ◌+◌, ◌<◌, ◌≤◌, ◌⊎◌, ◌&&◌, Bool, true, false, List, [], ◌∷◌, ◌++◌, length, get_or, drop, map, Option, Some, None, refl, sym, ap, ◌∙◌, arith, inl, inr, subst, below_more}
use Rattle.std.specs.Prelude.{slice_get}
use Rattle.std.proofs.lemmas.List.{drop_more}
use Rattle.std.proofs.Math.Seq.{get_or-append_seam}
use Rattle.std.proofs.Math.ListN.{get_or-append, length-append}

-- ---- tests

-- an option is one value at most
pub some_is : {A : Type 0} (o : Option A) (x y : A) → o ≡ Some x → o ≡ Some y → x ≡ y
some_is o x y e f = let h : Some x ≡ Some y = sym e ∙ f in cc

-- nothing is no value
pub none_is : {A : Type 0} (x : A) → None ≡ Some x → ⊥
none_is x e = cc

-- both parts of a test that passes pass
pub both : (a b : Bool) → (a && b) ≡ true → (a ≡ true) × (b ≡ true)
both true true e = (refl, refl)
both true false e = let h : false ≡ true = e in cc
both false b e = let h : false ≡ true = e in cc

-- and the other way round
pub both_true : (a b : Bool) → a ≡ true → b ≡ true → (a && b) ≡ true
both_true a b p q = rw p (rw q refl)

-- a test passes or fails
pub which : (b : Bool) → (b ≡ true) ⊎ (b ≡ false)
which true = inl refl
which false = inr refl

-- a test does not pass and fail
pub not_both : {P : Type 0} (b : Bool) → b ≡ true → b ≡ false → P
not_both b p q = let h : true ≡ false = sym p ∙ q in cc

-- ---- items at places

-- an item of two lists in a row is one of the first or of the second
abbrev pub InBack : {A : Type 0} → List A → List A → ℕ → A → Type 0
InBack xs ys k x = (j : ℕ) × (k ≡ length xs + j) × (slice_get ys j ≡ Some x)

-- in each case one of the two
pub get_cases : {A : Type 0} (xs ys : List A) (k : ℕ) (x : A) → slice_get (xs ++ ys) k ≡ Some x → (slice_get xs k ≡ Some x) ⊎ InBack xs ys k x
get_cases [] ys k x e = inr (k, omega arith, e)
get_cases (z ∷ xs) ys zero x e = inl e
get_cases (z ∷ xs) ys (suc k) x e = more (get_cases xs ys k x e) where
  more : (slice_get xs k ≡ Some x) ⊎ InBack xs ys k x → (slice_get xs k ≡ Some x) ⊎ InBack (z ∷ xs) ys (suc k) x
  more (inl h) = inl h
  more (inr (j, p, q)) = inr (j, omega arith, q)

-- an item of a map is that of an item
pub get_unmap : {A B : Type 0} (f : A → B) (xs : List A) (k : ℕ) (y : B) → slice_get (map f xs) k ≡ Some y → (x : A) × (slice_get xs k ≡ Some x) × (f x ≡ y)
get_unmap f [] k y e = absurd (none_is y e)
get_unmap f (z ∷ xs) zero y e = (z, refl, some_is (Some (f z)) (f z) y refl e)
get_unmap f (z ∷ xs) (suc k) y e = get_unmap f xs k y e

-- of two lists of one length, where one has an item the other has one
pub get_beside : {A B : Type 0} (xs : List A) (ys : List B) (k : ℕ) (x : A) → length xs ≡ length ys → slice_get xs k ≡ Some x → (y : B) × (slice_get ys k ≡ Some y)
get_beside [] ys k x l e = absurd (none_is x e)
get_beside (z ∷ xs) [] k x l e = absurd (omega arith)
get_beside (z ∷ xs) (y ∷ ys) zero x l e = (y, refl)
get_beside (z ∷ xs) (y ∷ ys) (suc k) x l e = get_beside xs ys k x (omega arith) e

-- ---- items from a place on

-- the item at a place, and those after it
pub drop_item : {E : Type 0} (xs : List E) (at : ℕ) (x : E) → at < length xs → x ≡ get_or xs at x → drop at xs ≡ x ∷ drop (at + 1) xs
drop_item xs at x within is = drop_more xs at x within ∙ ap (λ z. z ∷ drop (at + 1) xs) (sym is)

-- there are none past the end
pub drop_past : {E : Type 0} (xs : List E) (at : ℕ) → length xs ≤ at → drop at xs ≡ []
drop_past [] zero past = refl
drop_past [] (suc at) past = refl
drop_past (x ∷ xs) zero past = absurd (omega arith)
drop_past (x ∷ xs) (suc at) past = drop_past xs at (omega arith)

-- ---- what each place has

-- one more item
pub each_more : {A : Type 0} (none : A) (P : ℕ → A → Type 0) (n : ℕ) (xs : List A) (x : A) → length xs ≡ n → ((i : ℕ) → i < n → P i (get_or xs i none)) → P n x → (i : ℕ) → i < n + 1 → P i (get_or (xs ++ x ∷ []) i none)
each_more none P n xs x count old here =
    below_more (λ i. P i (get_or (xs ++ x ∷ []) i none)) n
    (λ i lt. subst (P i) (sym (get_or-append xs (x ∷ []) none i (omega (arith, count)))) (old i lt))
    (let e : x ≡ get_or (xs ++ x ∷ []) n none = sym (ap (λ (z : ℕ). get_or (xs ++ x ∷ []) z none) (sym count) ∙ get_or-append_seam xs x [] none) in
    subst (P n) e here)

-- a list of n items that are as P says
abbrev pub Listed : {A : Type 0} → A → (ℕ → A → Type 0) → ℕ → Type 0
Listed {A} none P n = (xs : List A) × (length xs ≡ n) × ((i : ℕ) → i < n → P i (get_or xs i none))

-- one more item
listed_more : {A : Type 0} (none : A) (P : ℕ → A → Type 0) (n : ℕ) → Listed none P n → (x : A) × P n x → Listed none P (suc n)
listed_more none P n (xs, count, each) (x, is) =
    (xs ++ x ∷ [], length-append xs (x ∷ []) ∙ omega (arith, count), λ i lt. each_more none P n xs x count each is i (omega arith))

-- where each of the first n places has a value, there is a list of them
pub listed : {A : Type 0} (none : A) (P : ℕ → A → Type 0) (n : ℕ) → ((i : ℕ) → i < n → (x : A) × P i x) → Listed none P n
listed none P zero each = ([], refl, λ i lt. absurd (omega arith))
listed none P (suc n) each = listed_more none P n (listed none P n (λ i lt. each i (omega arith))) (each n (omega arith))

-- ---- the first place at which a test passes

-- a test passes at this place, and before it at none
abbrev pub PassesFirst : (ℕ → Bool) → ℕ → Type 0
PassesFirst test k = (test k ≡ true) × ((j : ℕ) → j < k → test j ≡ false)

-- below n there is such a place, or the test passes nowhere
abbrev Below : (ℕ → Bool) → ℕ → Type 0
Below test n = ((k : ℕ) × (k < n) × PassesFirst test k) ⊎ ((j : ℕ) → j < n → test j ≡ false)

-- in each case one of the two
first_below : (test : ℕ → Bool) (n : ℕ) → Below test n
first_below test zero = inr (λ j lt. absurd (omega arith))
first_below test (suc n) = by_case (first_below test n) (which (test n)) where
  by_case : Below test n → (test n ≡ true) ⊎ (test n ≡ false) → Below test (suc n)
  by_case (inl (k, lt, first)) w = inl (k, omega arith, first)
  by_case (inr never) (inl is) = inl (n, omega arith, (is, never))
  by_case (inr never) (inr not) = inr (λ j lt. below_more (λ j. test j ≡ false) n never not j (omega arith))

-- where a test passes, it passes at a first place
pub first_place : (test : ℕ → Bool) (i : ℕ) → test i ≡ true → (k : ℕ) × (k ≤ i) × PassesFirst test k
first_place test i is = by_case (first_below test (i + 1)) where
  by_case : Below test (i + 1) → (k : ℕ) × (k ≤ i) × PassesFirst test k
  by_case (inl (k, lt, first)) = (k, omega arith, first)
  by_case (inr never) = not_both (test i) is (never i (omega arith))
