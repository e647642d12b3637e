-- Among the numbers from a sum on there is one that a name does not have; and what is known of numbers that were tried.
use Rattle.std.proofs.Common.{◌≡◌, ℕ, zero, suc, ◌+◌, ◌%◌, ◌^◌, ◌<◌, ◌≤◌, ◌⊎◌, ◌&&◌, Option, Bool, true, false, cond, List, [], ◌∷◌, length, get_or, Some, refl, sym, ap, ◌∙◌, arith, inl, inr, subst, eqb, None}
use Rattle.std.specs.Prelude.{unwrap_or, nat_eq}
use Rattle.std.specs.List.{list_any}
use Rattle.std.proofs.lemmas.Bool.{cases_eq, eq-eqb, eqb-true, ne_eqb}
use Rattle.std.specs.Cmp.Lexicographic.{pointwise}
use Rattle.std.proofs.lemmas.Slice.Eq.{bytes_eq-Decides}
use denote.Ref.{Bor}
use Rattle.bincl_match.specs.Instances.{FirstFrom}
use Rattle.bincl_match.specs.Crowding.{AreTried}
use Rattle.bincl_match.proofs.ListLemmas.{both, not_both}

-- ---- keys in a list

-- a name with a number
abbrev pub Key : Type 0
Key = Bor (List ℕ) × ℕ

-- the key has this name and this number
abbrev pub key_is : List ℕ → ℕ → Key → Bool
key_is n v k = pointwise nat_eq n k.0.now && nat_eq v k.1

-- no key
abbrev none : Key
none = (record { ref_ptr = (0, 0); now = [] }, 0)

-- the place of the first key that passes
place : (Key → Bool) → List (Key) → ℕ
place p [] = 0
place p (x ∷ xs) = cond (p x) 0 (suc (place p xs))

-- the key at this place passes
Good : (Key → Bool) → List (Key) → ℕ → Type 0
Good p xs k = (k < length xs) × (p (get_or xs k none) ≡ true)

-- the first key, or one of the others
good_at : (p : Key → Bool) (x : Key) (xs : List (Key)) (k : ℕ) (b : Bool) → p x ≡ b → (b ≡ false → Good p xs k) → Good p (x ∷ xs) (cond b 0 (suc k))
unfolding Good
good_at p x xs k true e rest = (omega arith, e)
good_at p x xs k false e rest = let r = rest refl in (omega (arith, r.0), r.1)

-- where some key passes, the first that does is at its place
place_good : (p : Key → Bool) (xs : List (Key)) → list_any p xs ≡ true → Good p xs (place p xs)
unfolding place
place_good p [] any = let h : false ≡ true = any in cc
place_good p (x ∷ xs) any = good_at p x xs (place p xs) (p x) refl (λ e. place_good p xs (rw e at any))

-- below 2 ^ 32, numbers after a sum stay apart
mod_apart : (s a b : ℕ) → a < 2 ^ 32 → b < 2 ^ 32 → (s + a) % 2 ^ 32 ≡ (s + b) % 2 ^ 32 → a ≡ b
mod_apart s a b p q e = omega arith

-- ---- the pigeonhole principle

-- the first n numbers are sent below m
Into : (ℕ → ℕ) → ℕ → ℕ → Type 0
Into f n m = (i : ℕ) → i < n → f i < m

-- no two of them are sent to one
OneToOne : (ℕ → ℕ) → ℕ → Type 0
OneToOne f n = (i j : ℕ) → i < n → j < n → f i ≡ f j → i ≡ j

-- f, with the value m sent where the last is sent
avoiding : (ℕ → ℕ) → ℕ → ℕ → ℕ → ℕ
avoiding f m last i = cond (eqb (f i) m) (f last) (f i)

-- r is x, but y where x is m
Avoids : ℕ → ℕ → ℕ → ℕ → Type 0
Avoids x m y r = ((x ≡ m) × (r ≡ y)) ⊎ ((x ≡ m → ⊥) × (r ≡ x))

-- in each case one of the two
avoids : (f : ℕ → ℕ) (m last i : ℕ) → Avoids (f i) m (f last) (avoiding f m last i)
unfolding Avoids avoiding
avoids f m last i = by_case (cases_eq (f i) m) where
  by_case : (f i ≡ m) ⊎ (f i ≡ m → ⊥) → Avoids (f i) m (f last) (cond (eqb (f i) m) (f last) (f i))
  by_case (inl e) = inl (e, rw (eq-eqb (f i) m e) refl)
  by_case (inr ne) = inr (ne, rw (ne_eqb (f i) m ne) refl)

-- one number less is sent below one less
into_less : (f : ℕ → ℕ) (n m : ℕ) → Into f (suc n) (suc m) → OneToOne f (suc n) → Into (avoiding f m n) n m
unfolding Into OneToOne Avoids
into_less f n m into one i p = by_case (avoids f m n i) where
  by_case : Avoids (f i) m (f n) (avoiding f m n i) → avoiding f m n i < m
  by_case (inl w) =
      let b : f n < suc m = into n (omega arith) in
      let ne : f n ≡ m → ⊥ = λ h. let z : i ≡ n = one i n (omega arith) (omega arith) (w.0 ∙ sym h) in absurd (omega (arith, z, p)) in
      omega (arith, w.1, ne)
  by_case (inr w) = let a : f i < suc m = into i (omega arith) in omega (arith, w.0, w.1)

-- and still no two to one
one_less : (f : ℕ → ℕ) (n m : ℕ) → OneToOne f (suc n) → OneToOne (avoiding f m n) n
unfolding OneToOne Avoids
one_less f n m one i j p q e = by_case (avoids f m n i) (avoids f m n j) where
  by_case : Avoids (f i) m (f n) (avoiding f m n i) → Avoids (f j) m (f n) (avoiding f m n j) → i ≡ j
  by_case (inl v) (inl w) = one i j (omega arith) (omega arith) (v.0 ∙ sym w.0)
  by_case (inl v) (inr w) = let z : n ≡ j = one n j (omega arith) (omega arith) (sym v.1 ∙ e ∙ w.1) in absurd (omega arith)
  by_case (inr v) (inl w) = let z : i ≡ n = one i n (omega arith) (omega arith) (sym v.1 ∙ e ∙ w.1) in absurd (omega arith)
  by_case (inr v) (inr w) = one i j (omega arith) (omega arith) (sym v.1 ∙ e ∙ w.1)

-- so there are no more numbers than places
pigeonhole : (n m : ℕ) (f : ℕ → ℕ) → Into f n m → OneToOne f n → n ≤ m
unfolding Into
pigeonhole zero m f into one = omega arith
pigeonhole (suc n) zero f into one = absurd (omega (arith, into n (omega arith)))
pigeonhole (suc n) (suc m) f into one = omega (arith, pigeonhole n m (avoiding f m n) (into_less f n m into one) (one_less f n m one))

-- ---- there is a free number

-- a key has one number
key_value : (name : List ℕ) (v w : ℕ) (k : Key) → key_is name v k ≡ true → key_is name w k ≡ true → v ≡ w
key_value name v w k a b =
    eqb-true v k.1 (both (pointwise nat_eq name k.0.now) (nat_eq v k.1) a).1 ∙ sym (eqb-true w k.1 (both (pointwise nat_eq name k.0.now) (nat_eq w k.1) b).1)

-- where the first n numbers from the sum on are all among the keys of a name, there are n keys
pub tries_within : (keys : List (Key)) (name : List ℕ) (sum n : ℕ) → n ≤ 2 ^ 32 → ((e : ℕ) → e < n → list_any (key_is name ((sum + e) % 2 ^ 32)) keys ≡ true) → n ≤ length keys
unfolding Into OneToOne Good
tries_within keys name sum n small all =
    pigeonhole n (length keys) (λ e. place (key_is name ((sum + e) % 2 ^ 32)) keys)
    (λ e lt. (place_good (key_is name ((sum + e) % 2 ^ 32)) keys (all e lt)).0)
    (λ a b p q e.
    let x = (place_good (key_is name ((sum + a) % 2 ^ 32)) keys (all a p)).1 in
    let y = (place_good (key_is name ((sum + b) % 2 ^ 32)) keys (all b q)).1 in
    let K : ℕ → Type 0 = λ k. key_is name ((sum + a) % 2 ^ 32) (get_or keys k none) ≡ true in
    let z = subst K e x in
    mod_apart sum a b (omega arith) (omega arith) (key_value name ((sum + a) % 2 ^ 32) ((sum + b) % 2 ^ 32) (get_or keys (place (key_is name ((sum + b) % 2 ^ 32)) keys) none) z y))

-- ---- numbers that were tried

-- what was tried is taken
abbrev pub KnowsTried : (List ℕ → ℕ → Bool) → (List ℕ → ℕ → Option ℕ) → Type 0
KnowsTried found tries = (name : List ℕ) (sum n : ℕ) → tries name sum ≡ Some n → AreTried (found name) sum n

-- what is known of a name and a sum, or nothing
pub tried_by : (found : List ℕ → ℕ → Bool) (tries : List ℕ → ℕ → Option ℕ) (name : List ℕ) (sum : ℕ) (o : Option ℕ) (n : ℕ) → KnowsTried found tries → tries name sum ≡ o → n ≡ unwrap_or o 0 → AreTried (found name) sum n
tried_by found tries name sum None n knows e is d lt = let z : n ≡ 0 = is in absurd (omega arith)
tried_by found tries name sum (Some m) n knows e is d lt = let z : n ≡ m = is in knows name sum m e d (subst (λ (k : ℕ). d < k) z lt)

-- what is taken stays so
stays_taken : (b c : Bool) → c ≡ true → cond b true c ≡ true
stays_taken true c e = refl
stays_taken false c e = e

-- one more number is known
pub tried_more : (found new : List ℕ → ℕ → Bool) (tries more : List ℕ → ℕ → Option ℕ) (key : List ℕ) (s n w : ℕ) → KnowsTried found tries → AreTried (found key) s n
    → ((name : List ℕ) (v : ℕ) → new name v ≡ cond (pointwise nat_eq key name && nat_eq w v) true (found name v))
    → ((name : List ℕ) (sum : ℕ) → more name sum ≡ cond (pointwise nat_eq key name && nat_eq s sum) (Some n) (tries name sum)) → KnowsTried new more
tried_more found new tries more key s n w knows tried news mores name sum m is d lt =
    news name ((sum + d) % 2 ^ 32)
    ∙ stays_taken (pointwise nat_eq key name && nat_eq w ((sum + d) % 2 ^ 32)) (found name ((sum + d) % 2 ^ 32))
    (by_case (pointwise nat_eq key name && nat_eq s sum) refl (sym (mores name sum) ∙ is)) where
      by_case : (b : Bool) → (pointwise nat_eq key name && nat_eq s sum) ≡ b → cond (pointwise nat_eq key name && nat_eq s sum) (Some n) (tries name sum) ≡ Some m → found name ((sum + d) % 2 ^ 32) ≡ true
      by_case true e h =
          let p = both (pointwise nat_eq key name) (nat_eq s sum) e in
          let k : key ≡ name = (bytes_eq-Decides key name).0 p.0 in
          let t : s ≡ sum = eqb-true s sum p.1 in
          let i : Some n ≡ Some m = sym (ap (λ (z : Bool). cond z (Some n) (tries name sum)) e) ∙ h in
          let j : n ≡ m = cc in
          ap (λ (z : List ℕ). found z ((sum + d) % 2 ^ 32)) (sym k) ∙ ap (λ (z : ℕ). found key ((z + d) % 2 ^ 32)) (sym t) ∙ tried d (subst (λ (z : ℕ). d < z) (sym j) lt)
      by_case false e h = knows name sum m (sym (ap (λ (z : Bool). cond z (Some n) (tries name sum)) e) ∙ h) d lt

-- the number so far after the sum is the first that is free
pub first_free : (taken : ℕ → Bool) (sum d v : ℕ) → v ≡ (sum + d) % 2 ^ 32 → taken ((sum + d) % 2 ^ 32) ≡ false → AreTried taken sum d → FirstFrom sum (λ w. taken w ≡ true) v
first_free taken sum d v is free tried = (d, is, (λ t. not_both (taken v) t (ap taken is ∙ free)), tried)
