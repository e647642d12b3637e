-- A map from keys to places gives for each key the first place that has it.
use Rattle.std.proofs.Common.{◌≡◌, ◌≢◌, ℕ, ◌+◌, ◌<◌, Bool, true, false, cond, List, [], ◌∷◌, ◌++◌, length, get_or, Option, Some, None, refl, sym, ap, ◌∙◌, arith, below_more, subst}
use Rattle.std.specs.Prelude.{nat_eq}
use Rattle.std.specs.Cmp.Lexicographic.{pointwise}
use Rattle.std.proofs.lemmas.Slice.Eq.{bytes_eq-Decides}
use Rattle.std.proofs.Math.Seq.{get_or-append_seam}
use Rattle.std.proofs.Math.ListN.{get_or-append, length-append}
use Rattle.std.proofs.lemmas.List.{get_or_default}
use Rattle.bincl_match.specs.Crowding.{key_at, IsFirst, or_new, Placed}

-- what a map has after a key was noted that it had not
pub noted_more : (old : Option ℕ) (a : Bool) (new : Option ℕ) (b : Bool) (at : ℕ) → new ≡ cond a (Some at) old → (a ≡ true → old ≡ None) → a ≡ b → new ≡ or_new old b at
noted_more None true new b at e n s = e ∙ ap (λ (z : Bool). or_new None z at) s
noted_more None false new b at e n s = e ∙ ap (λ (z : Bool). or_new None z at) s
noted_more (Some k) true new b at e n s = let h : Some k ≡ None = n refl in cc
noted_more (Some k) false new b at e n s = e

-- one more key: it has the place that was found, or the new one
pub placed_more : (keys : List (List ℕ)) (i : ℕ) (q : List ℕ) (o : Option ℕ) (b : Bool) → (b ≡ true → q ≡ key_at keys i) → (q ≡ key_at keys i → b ≡ true)
    → Placed keys i q o → Placed keys (i + 1) q (or_new o b i)
placed_more keys i q (Some k) b to from p = (omega (arith, p.0), p.1, p.2)
placed_more keys i q None true to from p = (omega arith, sym (to refl), p)
placed_more keys i q None false to from p = below_more (λ j. key_at keys j ≢ q) i p (λ h. let e : false ≡ true = from (sym h) in cc)

-- the first i keys are noted, and each has its first place
pub record FirstsSoFar (keys : List (List ℕ)) (find : List ℕ → Option ℕ) (i : ℕ) (out : List ℕ) : Type 0 where
  pub count : length out ≡ i
  pub seen : (q : List ℕ) → Placed keys i q (find q)
  pub each : (j : ℕ) → j < i → IsFirst keys j (get_or out j 0)

-- the place that is found for the key itself is its first
first_now : (keys : List (List ℕ)) (i r : ℕ) → Placed keys (i + 1) (key_at keys i) (Some r) → IsFirst keys i r
first_now keys i r p = (omega (arith, p.0), p.1, p.2)

-- one more key
pub firsts_more : (keys : List (List ℕ)) (find new : List ℕ → Option ℕ) (i : ℕ) (out : List ℕ) (r : ℕ) → FirstsSoFar keys find i out
    → ((q : List ℕ) → new q ≡ or_new (find q) (pointwise nat_eq q (key_at keys i)) i)
    → or_new (find (key_at keys i)) (pointwise nat_eq (key_at keys i) (key_at keys i)) i ≡ Some r
    → FirstsSoFar keys new (i + 1) (out ++ r ∷ [])
firsts_more keys find new i out r old noted found =
    let next : (q : List ℕ) → Placed keys (i + 1) q (or_new (find q) (pointwise nat_eq q (key_at keys i)) i) =
    λ q. placed_more keys i q (find q) (pointwise nat_eq q (key_at keys i)) (bytes_eq-Decides q (key_at keys i)).0 (bytes_eq-Decides q (key_at keys i)).1 (old.seen q) in
    let P : Option ℕ → Type 0 = Placed keys (i + 1) (key_at keys i) in
    let here : IsFirst keys i r = first_now keys i r (subst P found (next (key_at keys i))) in
    record {
      count = length-append out (r ∷ []) ∙ omega (arith, old.count);
      seen = λ q. let Q : Option ℕ → Type 0 = Placed keys (i + 1) q in subst Q (sym (noted q)) (next q);
      each = below_more (λ j. IsFirst keys j (get_or (out ++ r ∷ []) j 0)) i
          (λ j lt. let e : get_or out j 0 ≡ get_or (out ++ r ∷ []) j 0 = sym (get_or-append out (r ∷ []) 0 j (omega (arith, old.count))) in
          let R : ℕ → Type 0 = IsFirst keys j in subst R e (old.each j lt))
          (let e : r ≡ get_or (out ++ r ∷ []) i 0 = sym (ap (λ (n : ℕ). get_or (out ++ r ∷ []) n 0) (sym old.count) ∙ get_or-append_seam out r [] 0) in
          let R : ℕ → Type 0 = IsFirst keys i in subst R e here);
    }

-- two tests that pass together are one
by_which : (a b : Bool) → (a ≡ true → b ≡ true) → (b ≡ true → a ≡ true) → a ≡ b
by_which true true f g = refl
by_which true false f g = sym (f refl)
by_which false true f g = g refl
by_which false false f g = refl

-- the test of two texts is the same the other way round
pub same_test : (x y : List ℕ) → pointwise nat_eq x y ≡ pointwise nat_eq y x
same_test x y = by_which _ _ (λ e. (bytes_eq-Decides y x).1 (sym ((bytes_eq-Decides x y).0 e))) (λ e. (bytes_eq-Decides x y).1 (sym ((bytes_eq-Decides y x).0 e)))

-- a key that equals one that is in no map is in none
pub old_none : (find : List ℕ → Option ℕ) (key q : List ℕ) → find key ≡ None → pointwise nat_eq key q ≡ true → find q ≡ None
old_none find key q n e = ap find (sym ((bytes_eq-Decides key q).0 e)) ∙ n

-- one more key, as the code reads it
pub firsts_step : (keys : List (List ℕ)) (find new : List ℕ → Option ℕ) (i : ℕ) (out : List ℕ) (r : ℕ) (key : List ℕ) → FirstsSoFar keys find i out → i < length keys → key ≡ get_or keys i key
    → ((q : List ℕ) → new q ≡ or_new (find q) (pointwise nat_eq q key) i)
    → or_new (find key) (pointwise nat_eq key key) i ≡ Some r
    → FirstsSoFar keys new (i + 1) (out ++ r ∷ [])
firsts_step keys find new i out r key old lt is noted found =
    let e : key ≡ key_at keys i = is ∙ get_or_default keys i key [] lt in
    let P : List ℕ → Type 0 = λ k. (q : List ℕ) → new q ≡ or_new (find q) (pointwise nat_eq q k) i in
    let Q : List ℕ → Type 0 = λ k. or_new (find k) (pointwise nat_eq k k) i ≡ Some r in
    firsts_more keys find new i out r old (subst P e noted) (subst Q e found)
