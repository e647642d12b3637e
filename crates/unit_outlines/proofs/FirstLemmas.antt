-- What faults of several kinds, each with its own first, are together; and that the recursion gives the first of all that is told.
use Rattle.std.proofs.Common.{◌≡◌, ℕ, zero, suc, ◌+◌, ◌<◌, ◌≤◌, ◌⊎◌, inl, inr, Option, Some, None, Bool, true, false, cond, arith, refl, sym, ap, ◌∙◌, ltb, List, [], ◌∷◌, take, drop, slice_get}
use Rattle.std.proofs.lemmas.Option.{same_Some}
use Rattle.st_base.specs.declared.fault.Fault.{Fault}
use Rattle.st_base.specs.Faults.{fault_at}
use Rattle.unit_outlines.specs.EntryWords.{onto}
use Rattle.unit_outlines.specs.Firsts.{comes_before, sooner, FirstOf, smaller, told_at, first_told, Telling, IsTold}

-- ---- which of two comes first

which : (b : Bool) → (b ≡ true) ⊎ (b ≡ false)
which true = inl refl
which false = inr refl

before_yes : (g f : Fault) → comes_before g f ≡ true → (g.place < f.place) ⊎ ((g.place ≡ f.place) × (g.number < f.number))
before_yes g f e = grind arith

before_no : (g f : Fault) → comes_before g f ≡ false → (f.place < g.place) ⊎ ((f.place ≡ g.place) × (f.number ≤ g.number))
before_no g f e = grind arith

-- first in one sense is first in a sense that says the same
same_first : (A B : ℕ → ℕ → Type 0) (f : Option Fault) → ((n p : ℕ) → A n p → B n p) → ((n p : ℕ) → B n p → A n p) → FirstOf A f → FirstOf B f
same_first A B None to back h = λ n p b. h n p (back n p b)
same_first A B (Some f) to back h = (to f.number f.place h.0, h.1, λ n p b. h.2 n p (back n p b))

-- ---- one list

module _ {E : Type 0} (tell : Telling E) where
  -- number n is told at place q of a list at p behind `back`
  abbrev pub Told : List E → ℕ → List E → ℕ → ℕ → Type 0
  Told back p [] n q = ⊥
  Told back p (e ∷ es) n q = ((q ≡ p) × (tell back e es ≡ Some n)) ⊎ Told (e ∷ back) (p + 1) es n q

  at_least : (o : Option ℕ) (p : ℕ) (m : Option Fault) (f : Fault) → ((g : Fault) → m ≡ Some g → p + 1 ≤ g.place) → told_at o p m ≡ Some f → p ≤ f.place
  at_least None p m f h e = let w = h f e in omega arith
  at_least (Some n) p m f h e = grind arith

  -- a fault that is told stands in the list
  pub told-place : (back : List E) (p : ℕ) (es : List E) (f : Fault) → first_told tell back p es ≡ Some f → p ≤ f.place
  told-place back p [] f e = absurd cc
  told-place back p (x ∷ es) f e = at_least (tell back x es) p (first_told tell (x ∷ back) (p + 1) es) f (told-place (x ∷ back) (p + 1) es) e

  told_below : (back : List E) (p : ℕ) (es : List E) (n q : ℕ) → Told back p es n q → p ≤ q
  told_below back p [] n q h = absurd h
  told_below back p (x ∷ es) n q h = elim h [ inl w ↦ let e = w.0 in omega arith | inr w ↦ let k = told_below (x ∷ back) (p + 1) es n q w in omega arith ]

  here : (o : Option ℕ) (p : ℕ) (M : ℕ → ℕ → Type 0) (m : Option Fault) → ((n q : ℕ) → M n q → p + 1 ≤ q) → FirstOf M m
      → FirstOf (λ n q. ((q ≡ p) × (o ≡ Some n)) ⊎ M n q) (told_at o p m)
  here None p M None low h = λ n q w. elim w [ inl a ↦ let e = a.1 in absurd cc | inr b ↦ h n q b ]
  here None p M (Some f) low h = (inr h.0, h.1, λ n q w. elim w [ inl a ↦ let e = a.1 in absurd cc | inr b ↦ h.2 n q b ])
  here (Some k) p M m low h = (inl (refl, refl), refl, λ n q w. elim w [ inl a ↦ let e = a.0 in let i = a.1 in grind arith | inr b ↦ let l = low n q b in inl (omega arith) ])

  -- the recursion gives the first of what is told
  first-is : (back : List E) (p : ℕ) (es : List E) → FirstOf (Told back p es) (first_told tell back p es)
  first-is back p [] = λ n q h. h
  first-is back p (x ∷ es) = here (tell back x es) p (Told (x ∷ back) (p + 1) es) (first_told tell (x ∷ back) (p + 1) es) (told_below (x ∷ back) (p + 1) es) (first-is (x ∷ back) (p + 1) es)

  -- ---- by places

  -- number n is told of the entry at place q of a list at p behind `back`
  pub record Placed (back : List E) (p : ℕ) (es : List E) (n q : ℕ) : Type 0 where
    pub at : ℕ
    pub entry : E
    pub place : q ≡ p + at
    pub is : slice_get es at ≡ Some entry
    pub says : tell (onto (take at es) back) entry (drop (suc at) es) ≡ Some n

  told-placed : (back : List E) (p : ℕ) (es : List E) (n q : ℕ) → Told back p es n q → Placed back p es n q
  told-placed back p [] n q h = absurd h
  told-placed back p (x ∷ es) n q h = elim h [
    | inl w ↦ record { at = 0; entry = x; place = let e = w.0 in omega arith; is = refl; says = w.1 }
    | inr w ↦ let r = told-placed (x ∷ back) (p + 1) es n q w in
        record { at = suc r.at; entry = r.entry; place = let e = r.place in omega arith; is = r.is; says = r.says }
  ]

  at_front : (k : ℕ) (back : List E) (p : ℕ) (x e : E) (es : List E) (n q : ℕ) → q ≡ p + k → slice_get (x ∷ es) k ≡ Some e
      → tell (onto (take k (x ∷ es)) back) e (drop (suc k) (x ∷ es)) ≡ Some n
      → ((j : ℕ) → q ≡ p + 1 + j → slice_get es j ≡ Some e → tell (onto (take j es) (x ∷ back)) e (drop (suc j) es) ≡ Some n → Told (x ∷ back) (p + 1) es n q)
      → Told back p (x ∷ es) n q
  at_front zero back p x e es n q a b c ih = inl ((omega arith), ap (λ z. tell back z es) (same_Some x e b) ∙ c)
  at_front (suc k) back p x e es n q a b c ih = inr (ih k (omega arith) b c)

  placed-told : (back : List E) (p : ℕ) (es : List E) (n q : ℕ) → Placed back p es n q → Told back p es n q
  placed-told back p [] n q r = let h = r.is in absurd cc
  placed-told back p (x ∷ es) n q r = at_front r.at back p x r.entry es n q r.place r.is r.says
      (λ j a b c. placed-told (x ∷ back) (p + 1) es n q (record { at = j; entry = r.entry; place = a; is = b; says = c }))

  from_told : (es : List E) (n q : ℕ) → Told [] 0 es n q → IsTold tell es n q
  from_told es n q h =
      let r = told-placed [] 0 es n q h in
      let e : q ≡ r.at = let w = r.place in omega arith in
      rw e (record { entry = r.entry; is = r.is; told = r.says })

  to_told : (es : List E) (n q : ℕ) → IsTold tell es n q → Told [] 0 es n q
  to_told es n q r = placed-told [] 0 es n q (record { at = q; entry = r.entry; place = omega arith; is = r.is; says = r.told })

  -- the recursion gives the first fault of the list
  pub first_of_all : (es : List E) → FirstOf (IsTold tell es) (first_told tell [] 0 es)
  first_of_all es = same_first (Told [] 0 es) (IsTold tell es) (first_told tell [] 0 es) (from_told es) (to_told es) (first-is [] 0 es)

-- ---- two scans

later_left : (n p : ℕ) (m : Option Fault) → ((g : Fault) → m ≡ Some g → p + 1 ≤ g.place) → sooner (Some (fault_at n p)) m ≡ Some (fault_at n p)
later_left n p None h = refl
later_left n p (Some g) h = let w = h g refl in elim (which (comes_before g (fault_at n p))) [
  | inl e ↦ let l = before_yes g (fault_at n p) e in absurd (grind arith)
  | inr e ↦ ap (λ z. cond z (Some g) (Some (fault_at n p))) e
]

later_right : (n p : ℕ) (m : Option Fault) → ((g : Fault) → m ≡ Some g → p + 1 ≤ g.place) → sooner m (Some (fault_at n p)) ≡ Some (fault_at n p)
later_right n p None h = refl
later_right n p (Some g) h = let w = h g refl in elim (which (comes_before (fault_at n p) g)) [
  | inl e ↦ ap (λ z. cond z (Some (fault_at n p)) (Some g)) e
  | inr e ↦ let l = before_no (fault_at n p) g e in absurd (grind arith)
]

tie : (a b p : ℕ) → comes_before (fault_at b p) (fault_at a p) ≡ ltb b a
tie a b p = elim (which (comes_before (fault_at b p) (fault_at a p))) [
  | inl e ↦ let l = before_yes (fault_at b p) (fault_at a p) e in e ∙ sym (grind arith)
  | inr e ↦ let l = before_no (fault_at b p) (fault_at a p) e in e ∙ sym (grind arith)
]

same_place : (a b p : ℕ) (m : Option Fault) (c : Bool) → cond c (Some (fault_at b p)) (Some (fault_at a p)) ≡ told_at (cond c (Some b) (Some a)) p m
same_place a b p m true = refl
same_place a b p m false = refl

meet : (a b : Option ℕ) (p : ℕ) (f g m : Option Fault) → ((h : Fault) → f ≡ Some h → p + 1 ≤ h.place) → ((h : Fault) → g ≡ Some h → p + 1 ≤ h.place)
    → sooner f g ≡ m → sooner (told_at a p f) (told_at b p g) ≡ told_at (smaller a b) p m
meet None None p f g m x y e = e
meet None (Some b) p f g m x y e = later_right b p f x
meet (Some a) None p f g m x y e = later_left a p g y
meet (Some a) (Some b) p f g m x y e = ap (λ z. cond z (Some (fault_at b p)) (Some (fault_at a p))) (tie a b p) ∙ same_place a b p m (ltb b a)

-- scans made apart and joined give the first of all that they tell
pub sooner-smaller : {E : Type 0} (A B : Telling E) (back : List E) (p : ℕ) (es : List E)
    → sooner (first_told A back p es) (first_told B back p es) ≡ first_told (λ k e r. smaller (A k e r) (B k e r)) back p es
sooner-smaller A B back p [] = refl
sooner-smaller A B back p (x ∷ es) = meet (A back x es) (B back x es) p _ _ _ (told-place A (x ∷ back) (p + 1) es) (told-place B (x ∷ back) (p + 1) es) (sooner-smaller A B (x ∷ back) (p + 1) es)

-- ---- one first alone

-- there is one first fault at most
pub one_first : (At : ℕ → ℕ → Type 0) (f g : Option Fault) → FirstOf At f → FirstOf At g → f ≡ g
one_first At None None a b = refl
one_first At None (Some g) a b = absurd (a g.number g.place b.0)
one_first At (Some f) None a b = absurd (b f.number f.place a.0)
one_first At (Some f) (Some g) a b =
    let v = a.2 g.number g.place b.0 in let w = b.2 f.number f.place a.0 in
    let p : f.place ≡ g.place = grind arith in
    let n : f.number ≡ g.number = grind arith in
    let i : f.within ≡ g.within = a.1 ∙ sym b.1 in
    rw (p, n, i) refl
