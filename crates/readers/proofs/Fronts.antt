-- Fronts of a text, and of a spelling.
use Rattle.std.proofs.Common.{◌≡◌, ℕ, zero, suc, ◌+◌, ◌-◌, ◌≤◌, ◌<◌, inl, inr, eqb, List, [], ◌∷◌, ◌++◌, length, take, drop, get_or, Some, refl, sym, ap, subst, ◌∙◌, arith, append_assoc, length-append}
use Rattle.std.proofs.lemmas.Bool.{eqb-true, eq-eqb}
use Rattle.std.proofs.lemmas.List.{take_at, take-append-drop, length-take-le, take-take}
use Rattle.std.proofs.lemmas.Option.{some_pair_parts}
use Rattle.readers.specs.Spelling.{Begun}
use Rattle.readers.proofs.Cases.{which}
use Rattle.readers.proofs.Cuts.{later, later_some, cut}

-- the front and one byte
take_one : (f : List ℕ) (b : ℕ) (r : List ℕ) → take (length f + 1) (f ++ (b ∷ r)) ≡ f ++ (b ∷ [])
take_one f b r =
    let text : f ++ (b ∷ r) ≡ (f ++ (b ∷ [])) ++ r = sym (append_assoc f (b ∷ []) r) in
    let len : length (f ++ (b ∷ [])) ≡ length f + 1 = omega (arith, length-append f (b ∷ [])) in
    ap (take (length f + 1)) text ∙ take_at (f ++ (b ∷ [])) r (length f + 1) len

-- the text is split at place p
pub record Spot (text front : List ℕ) (byte : ℕ) (rest : List ℕ) (p : ℕ) : Type 0 where
  pub at : p ≡ length front
  pub before : take p text ≡ front
  pub through : take (p + 1) text ≡ front ++ (byte ∷ [])
  pub within : p < length text

-- a text is split at a place
pub spot : (text front : List ℕ) (byte : ℕ) (rest : List ℕ) (p : ℕ) → text ≡ front ++ (byte ∷ rest) → p ≡ length front → Spot text front byte rest p
spot text front byte rest p e at = record {
  at = at;
  before = ap (take p) e ∙ take_at front (byte ∷ rest) p (sym at);
  through = ap (take (p + 1)) e ∙ ap (λ (z : ℕ). take (z + 1) (front ++ (byte ∷ rest))) at ∙ take_one front byte rest;
  within = omega (arith, at, ap length e, length-append front (byte ∷ rest));
}

-- the place, from how much is left
pub place_is : (text front : List ℕ) (byte : ℕ) (rest : List ℕ) (left : ℕ) → text ≡ front ++ (byte ∷ rest) → left ≡ length (byte ∷ rest) → length text - left ≡ length front
place_is text front byte rest left e l = omega (arith, l, ap length e, length-append front (byte ∷ rest))

-- a front of a front
pub front_of : (f : List ℕ) (x : ℕ) (m u more : List ℕ) → f ++ (x ∷ m) ≡ u ++ more → length f < length u → (z : List ℕ) × (u ≡ f ++ (x ∷ z))
front_of [] x m [] more e le = absurd (omega (arith, le))
front_of [] x m (c ∷ u) more e le = let same : c ≡ x = cc in (u, ap (λ (z : ℕ). z ∷ u) same)
front_of (d ∷ f) x m [] more e le = absurd (omega (arith, le))
front_of (d ∷ f) x m (c ∷ u) more e le =
    let same : c ≡ d = cc in
    let tails : f ++ (x ∷ m) ≡ u ++ more = cc in
    let k = front_of f x m u more tails (omega (arith, le)) in
    (k.0, ap (λ (z : ℕ). z ∷ u) same ∙ ap (λ (z : List ℕ). d ∷ z) k.1)

-- a front of the front of a spelling
begun_less : {A : Type 0} (print : A → List ℕ) (shaped : A → Type 0) (text u v : List ℕ) → text ≡ u ++ v → Begun print shaped text → Begun print shaped u
begun_less print shaped text u v e g = record { whole = g.whole; is_shaped = g.is_shaped; more = v ++ g.more; spelled = g.spelled ∙ ap (λ (z : List ℕ). z ++ g.more) e ∙ append_assoc u v g.more }

-- the first k bytes
pub begun_take : {A : Type 0} (print : A → List ℕ) (shaped : A → Type 0) (text : List ℕ) (k : ℕ) → Begun print shaped text → Begun print shaped (take k text)
begun_take print shaped text k g = begun_less print shaped text (take k text) (drop k text) (sym (take-append-drop k text)) g

-- fewer of the first bytes
pub begun_taken : {A : Type 0} (print : A → List ℕ) (shaped : A → Type 0) (text : List ℕ) (j k : ℕ) → j ≤ k → k ≤ length text → Begun print shaped (take k text) → Begun print shaped (take j text)
begun_taken print shaped text j k le in_text g =
    let len = length-take-le k text in_text in
    let same : take j (take k text) ≡ take j text = take-take j k text le in
    subst (λ (z : List ℕ). Begun print shaped z) same (begun_take print shaped (take k text) j g)

-- ---- where a type of a depth begins

-- where a spelling is cut a node of depth n + 1 begins
pub cut_opens : (n : ℕ) (p ds f : List ℕ) (b : ℕ) → cut n p ds ≡ Some (f, b) → get_or ds (length f) 0 ≡ suc n
cut_opens n [] ds f b e = absurd cc
cut_opens n (c ∷ p) [] f b e = absurd cc
cut_opens n (c ∷ p) (d ∷ ds) f b e =
    elim (which (eqb d (suc n))) [
      | inl h ↦
          let g : Some ([], c) ≡ Some (f, b) = rw h at e in
          let k = some_pair_parts [] f c b g in
          subst (λ (z : List ℕ). get_or (d ∷ ds) (length z) 0 ≡ suc n) k.0 (eqb-true d (suc n) h)
      | inr h ↦
          let g : later c (cut n p ds) ≡ Some (f, b) = rw h at e in
          let k = later_some c (cut n p ds) f b g in
          subst (λ (z : List ℕ). get_or (d ∷ ds) (length z) 0 ≡ suc n) (sym k.2) (cut_opens n p ds k.0 b k.1)
    ]

-- where such a node begins a spelling is cut, or before
pub opens_cut : (n : ℕ) (p ds : List ℕ) (at : ℕ) → at < length p → get_or ds at 0 ≡ suc n → (f : List ℕ) × (b : ℕ) × (cut n p ds ≡ Some (f, b)) × (length f ≤ at)
opens_cut n [] ds at le e = absurd (omega (arith, le))
opens_cut n (c ∷ p) [] at le e = absurd (omega (arith, e))
opens_cut n (c ∷ p) (d ∷ ds) zero le e = ([], c, rw (eq-eqb d (suc n) e) refl, omega arith)
opens_cut n (c ∷ p) (d ∷ ds) (suc at) le e =
    elim (which (eqb d (suc n))) [
      | inl h ↦ ([], c, rw h refl, omega arith)
      | inr h ↦
          let k = opens_cut n p ds at (omega (arith, le)) e in
          (c ∷ k.0, k.1, rw (h, k.2) refl, omega (arith, k.3))
    ]
