-- What may follow a spelling, and where in a spelling the first node that is too deep begins. A spelling is cut there:
-- up to there it is read, and there a reader answers `Deep`.
use Rattle.std.proofs.Common.{◌≡◌, ℕ, suc, inl, inr, Bool, true, eqb, cond, List, [], ◌∷◌, ◌++◌, length, Option, None, Some, refl, sym, ap, ◌∙◌, arith}
use Rattle.std.proofs.lemmas.Bool.{eqb-true}
use Rattle.std.proofs.lemmas.Option.{none-some, some_pair_parts}
use Rattle.readers.specs.Spelling.{Within, none}
use Rattle.readers.proofs.Cases.{which}

-- ---- what follows a spelling

-- what stands after a text passes the test, or nothing stands there
abbrev pub After : (ℕ → Bool) → List ℕ → Type 0
After follows [] = Unit {0}
After follows (b ∷ rest) = follows b ≡ true

-- any byte may follow
abbrev pub any : ℕ → Bool
any b = true

-- whatever follows may follow
pub any_after : (p : List ℕ) → After any p
any_after [] = tt
any_after (c ∷ p) = refl

-- what passes the narrower test passes the wider one
pub fewer_after : (follows follows' : ℕ → Bool) → ((c : ℕ) → follows' c ≡ true → follows c ≡ true) → (rest : List ℕ) → After follows' rest → After follows rest
fewer_after follows follows' fewer [] a = tt
fewer_after follows follows' fewer (c ∷ rest) a = fewer c a

-- the test reads the first byte alone
pub same_first : (follows : ℕ → Bool) (f : List ℕ) (b : ℕ) (more other : List ℕ) → After follows (f ++ (b ∷ more)) → After follows (f ++ (b ∷ other))
same_first follows [] b more other a = a
same_first follows (c ∷ f) b more other a = a

-- ---- where a node of depth n + 1 begins

-- one byte stands in front
abbrev pub later : ℕ → Option (List ℕ × ℕ) → Option (List ℕ × ℕ)
later b None = None
later b (Some x) = Some (b ∷ x.0, x.1)

-- the text before the first type of depth n + 1, and its first byte
abbrev pub cut : ℕ → List ℕ → List ℕ → Option (List ℕ × ℕ)
cut n [] ds = None
cut n (b ∷ p) [] = None
cut n (b ∷ p) (d ∷ ds) = cond (eqb d (suc n)) (Some ([], b)) (later b (cut n p ds))

-- the place in a longer text, of which p is the front
abbrev pub shift : List ℕ → Option (List ℕ × ℕ) → Option (List ℕ × ℕ)
shift p None = None
shift p (Some x) = Some (p ++ x.0, x.1)

-- a byte more in front
later_shift : (c : ℕ) (p : List ℕ) (o : Option (List ℕ × ℕ)) → later c (shift p o) ≡ shift (c ∷ p) o
later_shift c p None = refl
later_shift c p (Some x) = refl

-- nothing in front
shift_nil : (o : Option (List ℕ × ℕ)) → shift [] o ≡ o
shift_nil None = refl
shift_nil (Some x) = refl

-- a cut after one byte
pub later_some : (c : ℕ) (o : Option (List ℕ × ℕ)) (f : List ℕ) (b : ℕ) → later c o ≡ Some (f, b) → (g : List ℕ) × (o ≡ Some (g, b)) × (f ≡ c ∷ g)
later_some c None f b e = absurd cc
later_some c (Some x) f b e =
    let k = some_pair_parts (c ∷ x.0) f x.1 b e in
    (x.0, ap (λ (z : ℕ). Some (x.0, z)) k.1, sym k.0)

-- no cut after one byte
pub later_none : (c : ℕ) (o : Option (List ℕ × ℕ)) → later c o ≡ None → o ≡ None
later_none c None e = refl
later_none c (Some x) e = absurd cc

-- what lies one byte further begins somewhere
later_is : (c : ℕ) (o : Option (List ℕ × ℕ)) (x : List ℕ × ℕ) → later c o ≡ Some x → (y : List ℕ × ℕ) × (o ≡ Some y)
later_is c None x e = absurd cc
later_is c (Some y) x e = (y, refl)

-- a cut in the first text is the cut of both
pub cut_here : (n : ℕ) (p ds : List ℕ) (x : List ℕ × ℕ) (q es : List ℕ) → cut n p ds ≡ Some x → cut n (p ++ q) (ds ++ es) ≡ Some x
cut_here n [] ds x q es e = absurd cc
cut_here n (c ∷ p) [] x q es e = absurd cc
cut_here n (c ∷ p) (d ∷ ds) x q es e =
    elim (which (eqb d (suc n))) [
      | inl h ↦ rw h (rw h at e)
      | inr h ↦
          let f : later c (cut n p ds) ≡ Some x = rw h at e in
          let y = later_is c (cut n p ds) x f in
          let deeper : cut n (p ++ q) (ds ++ es) ≡ Some y.0 = cut_here n p ds y.0 q es y.1 in
          rw (h, deeper) (rw y.1 at f)
    ]

-- where the first text has none, the cut is in the second
pub cut_past : (n : ℕ) (p ds q es : List ℕ) → cut n p ds ≡ None → length ds ≡ length p → cut n (p ++ q) (ds ++ es) ≡ shift p (cut n q es)
cut_past n [] [] q es e l = sym (shift_nil (cut n q es))
cut_past n [] (d ∷ ds) q es e l = absurd (omega (arith, l))
cut_past n (c ∷ p) [] q es e l = absurd (omega (arith, l))
cut_past n (c ∷ p) (d ∷ ds) q es e l =
    elim (which (eqb d (suc n))) [
      | inl h ↦
          let x : List ℕ × ℕ = ([], c) in
          let f : Some x ≡ None = rw h at e in absurd (none-some x (sym f))
      | inr h ↦
          let f : later c (cut n p ds) ≡ None = rw h at e in
          let same : length ds ≡ length p = omega (arith, l) in
          let rest : cut n (p ++ q) (ds ++ es) ≡ shift p (cut n q es) = cut_past n p ds q es (later_none c (cut n p ds) f) same in
          rw (h, rest) (later_shift c p (cut n q es))
    ]

-- a cut is a front of the text
pub cut_front : (n : ℕ) (p ds f : List ℕ) (b : ℕ) → cut n p ds ≡ Some (f, b) → (more : List ℕ) × (p ≡ f ++ (b ∷ more))
cut_front n [] ds f b e = absurd cc
cut_front n (c ∷ p) [] f b e = absurd cc
cut_front n (c ∷ p) (d ∷ ds) f b e =
    elim (which (eqb d (suc n))) [
      | inl h ↦
          let g : Some ([], c) ≡ Some (f, b) = rw h at e in
          let k = some_pair_parts [] f c b g in
          (p, ap (λ (z : ℕ). z ∷ p) k.1 ∙ ap (λ (z : List ℕ). z ++ (b ∷ p)) k.0)
      | inr h ↦
          let g : later c (cut n p ds) ≡ Some (f, b) = rw h at e in
          let y = later_is c (cut n p ds) (f, b) g in
          let u : Some (c ∷ y.0.0, y.0.1) ≡ Some (f, b) = rw y.1 at g in
          let k = some_pair_parts (c ∷ y.0.0) f y.0.1 b u in
          let w = cut_front n p ds y.0.0 y.0.1 y.1 in
          (w.0, ap (λ (z : List ℕ). c ∷ z) w.1 ∙ ap (λ (z : ℕ). (c ∷ y.0.0) ++ (z ∷ w.0)) k.1 ∙ ap (λ (z : List ℕ). z ++ (b ∷ w.0)) k.0)
    ]

-- what is not too deep has no cut
pub within_cut : (n : ℕ) (p ds : List ℕ) → Within n ds → cut n p ds ≡ None
within_cut n [] ds w = refl
within_cut n (c ∷ p) [] w = refl
within_cut n (c ∷ p) (d ∷ ds) w =
    elim (which (eqb d (suc n))) [
      | inl h ↦ absurd (omega (arith, eqb-true d (suc n) h, w.0))
      | inr h ↦ rw (h, within_cut n p ds w.1) refl
    ]

-- two texts that are not too deep
pub within-append : (n : ℕ) (ds es : List ℕ) → Within n ds → Within n es → Within n (ds ++ es)
within-append n [] es u v = v
within-append n (d ∷ ds) es u v = (u.0, within-append n ds es u.1 v)

-- ---- a text in which no node begins

-- as many zeros as bytes
pub length_none : (p : List ℕ) → length (none p) ≡ length p
length_none [] = refl
length_none (b ∷ p) = omega (arith, length_none p)

-- no node is not too deep
pub within_none : (n : ℕ) (p : List ℕ) → Within n (none p)
within_none n [] = tt
within_none n (b ∷ p) = (omega arith, within_none n p)

-- no node in two texts
pub none-append : (p q : List ℕ) → none (p ++ q) ≡ none p ++ none q
none-append [] q = refl
none-append (b ∷ p) q = ap (λ (z : List ℕ). 0 ∷ z) (none-append p q)
