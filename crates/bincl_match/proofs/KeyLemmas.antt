-- Texts and their numbers, and the keys of ranges that are made of them.
use Rattle.std.proofs.Common.{◌≡◌, ℕ, ◌+◌, ◌<◌, ◌⊎◌, Bool, true, false, cond, List, [], ◌∷◌, ◌++◌, length, get_or, take, Option, Some, None, refl, sym, ap, ◌∙◌, arith, inl, inr, subst, below_more}
use Rattle.std.specs.Prelude.{slice_get, is_some}
use Rattle.std.proofs.Math.Seq.{get_or-append_seam}
use Rattle.std.proofs.Math.ListN.{get_or-append, length-append}
use Rattle.std.proofs.lemmas.List.{take_more}
use Rattle.std.proofs.lemmas.Option.{slice_get_read, slice_get_within}
use Rattle.bincl_match.specs.declared.range.RangeOf.{RangeOf}
use Rattle.bincl_match.specs.Crowding.{key_at, Numbering, Grows, Numbered, AreKeys, or_new}
use Rattle.bincl_match.proofs.ListLemmas.{some_is}

-- the first i keys are as P says
pub record Keyed (P : ℕ → List ℕ → Type 0) (i : ℕ) (keys : List (List ℕ)) : Type 0 where
  pub count : length keys ≡ i
  pub each : (j : ℕ) → j < i → P j (key_at keys j)

-- one more key
pub keyed_more : (P : ℕ → List ℕ → Type 0) (i : ℕ) (keys : List (List ℕ)) (k : List ℕ) → Keyed P i keys → P i k → Keyed P (i + 1) (keys ++ k ∷ [])
keyed_more P i keys k old here = record {
  count = length-append keys (k ∷ []) ∙ omega (arith, old.count);
  each = below_more (λ j. P j (key_at (keys ++ k ∷ []) j)) i
      (λ j lt. let e : key_at keys j ≡ key_at (keys ++ k ∷ []) j = sym (get_or-append keys (k ∷ []) [] j (omega (arith, old.count))) in
      let Q : List ℕ → Type 0 = P j in subst Q e (old.each j lt))
      (let e : k ≡ key_at (keys ++ k ∷ []) i = sym (ap (λ (n : ℕ). key_at (keys ++ k ∷ []) n) (sym old.count) ∙ get_or-append_seam keys k [] []) in
      let Q : List ℕ → Type 0 = P i in subst Q e here);
}

-- one more text
new_is : (old : Option ℕ) (b : Bool) (at k : ℕ) → or_new old b at ≡ Some k → (old ≡ Some k) ⊎ ((b ≡ true) × (k ≡ at))
new_is (Some j) b at k e = inl e
new_is None true at k e = let h : Some at ≡ Some k = e in inr (refl, cc)
new_is None false at k e = let h : None ≡ Some k = e in cc

-- what was found stays
old_stays : (old : Option ℕ) (b : Bool) (at k : ℕ) → old ≡ Some k → or_new old b at ≡ Some k
old_stays (Some j) b at k e = e
old_stays None b at k e = let h : None ≡ Some k = e in cc

-- one more text is numbered with the count of those before
pub numbering_more : (find new : List ℕ → Option ℕ) (test : List ℕ → Bool) (n m at : ℕ) (text : List ℕ) → Numbering find n → at ≡ n → m ≡ n + 1 → ((t : List ℕ) → test t ≡ true → t ≡ text)
    → ((t : List ℕ) → new t ≡ or_new (find t) (test t) at) → Numbering new m
numbering_more find new test n m at text old here size one news = record {
  below = λ t k e. below_by t k (new_is (find t) (test t) at k (sym (news t) ∙ e));
  one = λ t u k e f. one_by t u k (new_is (find t) (test t) at k (sym (news t) ∙ e)) (new_is (find u) (test u) at k (sym (news u) ∙ f));
} where
  below_by : (t : List ℕ) (k : ℕ) → (find t ≡ Some k) ⊎ ((test t ≡ true) × (k ≡ at)) → k < m
  below_by t k (inl h) = omega (arith, old.below t k h)
  below_by t k (inr h) = omega (arith, h.1)

  one_by : (t u : List ℕ) (k : ℕ) → (find t ≡ Some k) ⊎ ((test t ≡ true) × (k ≡ at)) → (find u ≡ Some k) ⊎ ((test u ≡ true) × (k ≡ at)) → t ≡ u
  one_by t u k (inl h) (inl g) = old.one t u k h g
  one_by t u k (inl h) (inr g) = absurd (omega (arith, old.below t k h, g.1))
  one_by t u k (inr h) (inl g) = absurd (omega (arith, old.below u k g, h.1))
  one_by t u k (inr h) (inr g) = one t h.0 ∙ sym (one u g.0)

-- all that was found is found still
pub grows_more : (find new : List ℕ → Option ℕ) (test : List ℕ → Bool) (n : ℕ) → ((t : List ℕ) → new t ≡ or_new (find t) (test t) n) → Grows find new
grows_more find new test n news t k e = news t ∙ old_stays (find t) (test t) n k e

-- texts keep their numbers
pub numbered_on : (find new : List ℕ → Option ℕ) → Grows find new → (ts : List (List ℕ)) (ks : List ℕ) → Numbered find ts ks → Numbered new ts ks
numbered_on find new g [] [] h = tt
numbered_on find new g [] (k ∷ ks) h = absurd h
numbered_on find new g (t ∷ ts) [] h = absurd h
numbered_on find new g (t ∷ ts) (k ∷ ks) h = (g t k h.0, numbered_on find new g ts ks h.1)

-- one more text has its number
pub numbered_push : (find : List ℕ → Option ℕ) (ts : List (List ℕ)) (ks : List ℕ) (t : List ℕ) (k : ℕ) → Numbered find ts ks → find t ≡ Some k → Numbered find (ts ++ t ∷ []) (ks ++ k ∷ [])
numbered_push find [] [] t k h e = (e, tt)
numbered_push find [] (b ∷ ks) t k h e = absurd h
numbered_push find (a ∷ ts) [] t k h e = absurd h
numbered_push find (a ∷ ts) (b ∷ ks) t k h e = (h.0, numbered_push find ts ks t k h.1 e)

-- the numbers determine the texts
texts_equal : (find : List ℕ → Option ℕ) (n : ℕ) → Numbering find n → (ts us : List (List ℕ)) (ks : List ℕ) → Numbered find ts ks → Numbered find us ks → ts ≡ us
texts_equal find n num [] [] ks h g = refl
texts_equal find n num [] (u ∷ us) [] h g = absurd g
texts_equal find n num [] (u ∷ us) (k ∷ ks) h g = absurd h
texts_equal find n num (t ∷ ts) us [] h g = absurd h
texts_equal find n num (t ∷ ts) [] (k ∷ ks) h g = absurd g
texts_equal find n num (t ∷ ts) (u ∷ us) (k ∷ ks) h g =
    let a : t ≡ u = num.one t u k h.0 g.0 in
    let b : ts ≡ us = texts_equal find n num ts us ks h.1 g.1 in
    cc

-- the texts determine their numbers
numbers_equal : (find : List ℕ → Option ℕ) (ts : List (List ℕ)) (ks ls : List ℕ) → Numbered find ts ks → Numbered find ts ls → ks ≡ ls
numbers_equal find [] [] [] h g = refl
numbers_equal find [] [] (l ∷ ls) h g = absurd g
numbers_equal find [] (k ∷ ks) ls h g = absurd h
numbers_equal find (t ∷ ts) [] ls h g = absurd h
numbers_equal find (t ∷ ts) (k ∷ ks) [] h g = absurd g
numbers_equal find (t ∷ ts) (k ∷ ks) (l ∷ ls) h g =
    let a : k ≡ l = some_is (find t) k l h.0 g.0 in
    let b : ks ≡ ls = numbers_equal find ts ks ls h.1 g.1 in
    cc

-- a key that was in no map makes it longer by one
pub len_new : (m n : ℕ) (o p : Option ℕ) → o ≡ p → p ≡ None → m ≡ n + cond (is_some o) 0 1 → m ≡ n + 1
len_new m n None p e f g = g
len_new m n (Some k) p e f g = let h : Some k ≡ None = e ∙ f in cc

-- one more text of a shape
pub texts_more : (new : List ℕ → Option ℕ) (name : List ℕ) (shape items : List (List ℕ)) (i : ℕ) (ks : List ℕ) (text key : List ℕ) (k : ℕ) → items ≡ shape → i < length items → text ≡ get_or items i text → key ≡ text
    → Numbered new (name ∷ take i shape) ks → new key ≡ Some k → Numbered new (name ∷ take (i + 1) shape) (ks ++ k ∷ [])
texts_more new name shape items i ks text key k same lt is spelled old found =
    let I : List (List ℕ) → Type 0 = λ z. (i < length z) × (text ≡ get_or z i text) in
    let at = subst I same (lt, is) in
    let e : take i shape ++ key ∷ [] ≡ take (i + 1) shape = ap (λ (z : List ℕ). take i shape ++ z ∷ []) (spelled ∙ at.1) ∙ sym (take_more shape i text at.0) in
    let N : List (List ℕ) → Type 0 = λ z. Numbered new (name ∷ z) (ks ++ k ∷ []) in
    subst N e (numbered_push new (name ∷ take i shape) ks key k old found)

-- ---- the keys of ranges

-- the key of the range at i
abbrev pub KeyAt : List RangeOf → (List ℕ → Option ℕ) → ℕ → List ℕ → Type 0
KeyAt rs find i key = (x : RangeOf) → slice_get rs i ≡ Some x → Numbered find (x.name ∷ x.shape) key

-- keys stay where more texts are numbered
pub keyed_on : (rs : List RangeOf) (find new : List ℕ → Option ℕ) (i : ℕ) (keys : List (List ℕ)) → Grows find new → Keyed (KeyAt rs find) i keys → Keyed (KeyAt rs new) i keys
keyed_on rs find new i keys g k = record { count = k.count; each = λ j lt x xis. numbered_on find new g (x.name ∷ x.shape) (key_at keys j) (k.each j lt x xis) }

-- the key of the range at a place
pub key_here : (rs : List RangeOf) (find : List ℕ → Option ℕ) (i : ℕ) (key : List ℕ) (x : RangeOf) → i < length rs → x ≡ get_or rs i x → Numbered find (x.name ∷ x.shape) key → KeyAt rs find i key
key_here rs find i key x lt xis is y yis =
    let e : x ≡ y = some_is (slice_get rs i) x y (slice_get_read rs (length rs) i x refl lt xis) yis in
    let X : RangeOf → Type 0 = λ z. Numbered find (z.name ∷ z.shape) key in
    subst X e is

-- keys of numbers tell names and shapes apart
pub keys_all : (rs : List RangeOf) (find : List ℕ → Option ℕ) (n : ℕ) (keys : List (List ℕ)) → Numbering find n → Keyed (KeyAt rs find) (length rs) keys → AreKeys rs keys
keys_all rs find n keys num k = record {
  count = k.count;
  alike = λ i j x y xis yis e.
      let N : List ℕ → Type 0 = Numbered find (x.name ∷ x.shape) in
      let all : x.name ∷ x.shape ≡ y.name ∷ y.shape = texts_equal find n num (x.name ∷ x.shape) (y.name ∷ y.shape) (key_at keys j)
      (subst N e (k.each i (slice_get_within rs i x xis) x xis)) (k.each j (slice_get_within rs j y yis) y yis) in
      (cc, cc);
  keyed = λ i j x y xis yis names shapes.
      let all : y.name ∷ y.shape ≡ x.name ∷ x.shape = cc in
      let N : List (List ℕ) → Type 0 = λ z. Numbered find z (key_at keys j) in
      numbers_equal find (x.name ∷ x.shape) (key_at keys i) (key_at keys j) (k.each i (slice_get_within rs i x xis) x xis) (subst N all (k.each j (slice_get_within rs j y yis) y yis));
}
