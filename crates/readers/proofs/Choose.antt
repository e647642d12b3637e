-- A choice by the first byte keeps the laws. Both parts read the same values under one spelling, and differ in which of
-- them have one.
use Rattle.std.proofs.Common.{◌≡◌, ℕ, ◌⊎◌, inl, inr, Bool, false, eqb, List, [], ◌∷◌, ◌++◌, length, Ok, Err, None, Some, refl, sym, ap, subst, ◌∙◌, arith}
use Rattle.std.proofs.lemmas.Bool.{eqb-true}
use Rattle.readers.specs.declared.stop.Stop.TheVariants.{Bad, End, Deep}
use Rattle.readers.specs.Spelling.{Form, Begun, Within}
use Rattle.readers.specs.Readers.{Reader, made, choose}
use Rattle.readers.proofs.Cases.{which, eqb_self, zero_not, made_ok, made_err}
use Rattle.readers.proofs.Cuts.{After, later, later_some, later_none, cut, cut_front}
use Rattle.readers.proofs.Laws.{Breaks, Breaks-behind, Dives, Dives-behind, Laws}
use Rattle.readers.proofs.Made.{Of}

-- a text that begins with another byte
abbrev pub Apart : ℕ → List ℕ → Type 0
Apart b [] = ⊥
Apart b (c ∷ p) = eqb c b ≡ false

module _ {A : Type 0} (b : ℕ) (q other : Reader A) where
  -- a text that begins otherwise goes to the other reader
  passes : (p w : List ℕ) (x : ℕ) (more more' : List ℕ) → Apart b p → p ≡ w ++ (x ∷ more) → choose b q other (w ++ (x ∷ more')) ≡ other (w ++ (x ∷ more'))
  passes [] w x more more' miss e = absurd miss
  passes (d ∷ rest) [] x more more' miss e = let same : d ≡ x = cc in rw (subst (λ (z : ℕ). eqb z b ≡ false) same miss) refl
  passes (d ∷ rest) (y ∷ w) x more more' miss e = let same : d ≡ y = cc in rw (subst (λ (z : ℕ). eqb z b ≡ false) same miss) refl

  -- and so does a whole spelling
  passes_all : (p rest : List ℕ) → Apart b p → choose b q other (p ++ rest) ≡ other (p ++ rest)
  passes_all [] rest miss = absurd miss
  passes_all (d ∷ p) rest miss = rw miss refl

module _ (n : ℕ) {A B : Type 0} (r : Reader A) (F : Form A) (follows : ℕ → Bool) (laws : Laws n r F follows)
    (make : A → B) (b : ℕ) (print depths : B → List ℕ)
    (spelled : (a : A) → print (make a) ≡ b ∷ F.print a) (marked : (a : A) → depths (make a) ≡ 0 ∷ F.depths a)
    (other : Reader B) (rest_shaped : B → Type 0) (others : Laws n other (record { print = print; depths = depths; shaped = rest_shaped }) follows)
    (apart : (t : B) → rest_shaped t → Apart b (print t)) (t₀ : A) (shaped₀ : F.shaped t₀) where
  -- the reader after b
  abbrev q : Reader B
  q = made make r

  -- a value of the first part or of the other
  abbrev either : B → Type 0
  either t = Of make F.shaped t ⊎ rest_shaped t

  -- both parts
  abbrev H : Form B
  H = record { print = print; depths = depths; shaped = either }

  -- the byte b in front moves the cut by one
  cuts : (a : A) → cut n (print (make a)) (depths (make a)) ≡ later b (cut n (F.print a) (F.depths a))
  cuts a = rw (spelled a, marked a, zero_not n) refl

  -- the spelling of either part
  choose_takes : (bytes : List ℕ) (t : B) (rest : List ℕ) → choose b q other bytes ≡ Ok (t, rest) → (bytes ≡ print t ++ rest) × either t × Within n (depths t)
  choose_takes [] t rest e = absurd cc
  choose_takes (c ∷ bytes) t rest e =
      elim (which (eqb c b)) [
        | inl hit ↦
            let h = made_ok make (r bytes) t rest (rw hit at e) in
            let k = laws.takes bytes h.0 rest h.1 in
            let text : c ∷ bytes ≡ print (make h.0) ++ rest = ap (λ (z : ℕ). z ∷ bytes) (eqb-true c b hit) ∙ ap (λ (z : List ℕ). b ∷ z) k.0 ∙ ap (λ (z : List ℕ). z ++ rest) (sym (spelled h.0)) in
            let within : Within n (depths (make h.0)) = rw (marked h.0) (omega arith, k.2) in
            (subst (λ (z : B). c ∷ bytes ≡ print z ++ rest) h.2 text, inl (h.0, k.1, h.2), subst (λ (z : B). Within n (depths z)) h.2 within)
        | inr miss ↦ let k = others.takes (c ∷ bytes) t rest (rw miss at e) in (k.0, inr k.1, k.2)
      ]

  -- a depth for each byte
  choose_long : (t : B) → either t → cut n (print t) (depths t) ≡ None → length (depths t) ≡ length (print t)
  choose_long t (inl f) = subst (λ (z : B). cut n (print z) (depths z) ≡ None → length (depths z) ≡ length (print z)) f.2
      (λ e. let l = laws.long f.0 f.1 (later_none b _ (sym (cuts f.0) ∙ e)) in rw (spelled f.0, marked f.0) (omega (arith, l)))
  choose_long t (inr f) = others.long t f

  -- each spelling is read
  choose_again : (t : B) (rest : List ℕ) → either t → cut n (print t) (depths t) ≡ None → After follows rest → choose b q other (print t ++ rest) ≡ Ok (t, rest)
  choose_again t rest (inl f) = subst (λ (z : B). cut n (print z) (depths z) ≡ None → After follows rest → choose b q other (print z ++ rest) ≡ Ok (z, rest)) f.2
      (λ e after. rw (spelled f.0, eqb_self b, laws.again f.0 rest f.1 (later_none b _ (sym (cuts f.0) ∙ e)) after) refl)
  choose_again t rest (inr f) = λ e after. passes_all b q other (print t) rest (apart t f) ∙ others.again t rest f e after

  -- up to the first node that is too deep
  choose_dives : (t : B) (front : List ℕ) (x : ℕ) (more : List ℕ) → either t → cut n (print t) (depths t) ≡ Some (front, x) → choose b q other (front ++ (x ∷ more)) ≡ Err (Deep (length (x ∷ more)))
  choose_dives t front x more (inl f) = subst (λ (z : B). cut n (print z) (depths z) ≡ Some (front, x) → choose b q other (front ++ (x ∷ more)) ≡ Err (Deep (length (x ∷ more)))) f.2
      (λ e.
      let k = later_some b (cut n (F.print f.0) (F.depths f.0)) front x (sym (cuts f.0) ∙ e) in
      let deep : r (k.0 ++ (x ∷ more)) ≡ Err (Deep (length (x ∷ more))) = laws.dives f.0 k.0 x more f.1 k.1 in
      ap (λ (z : List ℕ). choose b q other (z ++ (x ∷ more))) k.2 ∙ rw (eqb_self b, deep) refl)
  choose_dives t front x more (inr f) = λ e.
      let w = cut_front n (print t) (depths t) front x e in
      passes b q other (print t) front x w.0 more (apart t f) w.1 ∙ others.dives t front x more f e

  -- the byte after it decides
  choose_holds : (bytes : List ℕ) (t : B) (x : ℕ) (more more' : List ℕ) → choose b q other bytes ≡ Ok (t, x ∷ more) → choose b q other (print t ++ (x ∷ more')) ≡ Ok (t, x ∷ more')
  choose_holds [] t x more more' e = absurd cc
  choose_holds (c ∷ bytes) t x more more' e =
      elim (which (eqb c b)) [
        | inl hit ↦
            let h = made_ok make (r bytes) t (x ∷ more) (rw hit at e) in
            let k = laws.holds bytes h.0 x more more' h.1 in
            let at_made : choose b q other (print (make h.0) ++ (x ∷ more')) ≡ Ok (make h.0, x ∷ more') = rw (spelled h.0, eqb_self b, k) refl in
            subst (λ (z : B). choose b q other (print z ++ (x ∷ more')) ≡ Ok (z, x ∷ more')) h.2 at_made
        | inr miss ↦
            let f = rw miss at e in
            let k = others.takes (c ∷ bytes) t (x ∷ more) f in
            passes b q other (c ∷ bytes) (print t) x more more' miss k.0 ∙ others.holds (c ∷ bytes) t x more more' f
      ]

  -- the front of a spelling after b
  begun_made : (text : List ℕ) → Begun F.print F.shaped text → Begun print either (b ∷ text)
  begun_made text g = record {
    whole = make g.whole;
    is_shaped = inl (g.whole, g.is_shaped, refl);
    more = g.more;
    spelled = spelled g.whole ∙ ap (λ (z : List ℕ). b ∷ z) g.spelled;
  }

  -- the front of another
  begun_other : (text : List ℕ) → Begun print rest_shaped text → Begun print either text
  begun_other text g = record { whole = g.whole; is_shaped = inr g.is_shaped; more = g.more; spelled = g.spelled }

  -- a wrong byte in either part
  choose_bad : (bytes : List ℕ) (left : ℕ) → choose b q other bytes ≡ Err (Bad left) → Breaks (choose b q other) H bytes left
  choose_bad [] left e = absurd cc
  choose_bad (c ∷ bytes) left e =
      elim (which (eqb c b)) [
        | inl hit ↦
            let k = laws.bad bytes left (made_err make (r bytes) (Bad left) (rw hit at e)) in
            Breaks-behind r F (choose b q other) H b c bytes left hit k (λ more. rw (eqb_self b, k.stays more) refl) (begun_made k.front k.begun)
        | inr miss ↦
            let k = others.bad (c ∷ bytes) left (rw miss at e) in
            record {
              front = k.front;
              byte = k.byte;
              rest = k.rest;
              parts = k.parts;
              place = k.place;
              stays = λ more. passes b q other (c ∷ bytes) k.front k.byte k.rest more miss k.parts ∙ k.stays more;
              begun = begun_other k.front k.begun;
            }
      ]

  -- too deep in either part
  choose_deep : (bytes : List ℕ) (left : ℕ) → choose b q other bytes ≡ Err (Deep left) → Dives n H bytes left
  choose_deep [] left e = absurd cc
  choose_deep (c ∷ bytes) left e =
      elim (which (eqb c b)) [
        | inl hit ↦
            let k = laws.deep bytes left (made_err make (r bytes) (Deep left) (rw hit at e)) in
            Dives-behind n F H b c bytes left hit k (make k.whole) (inl (k.whole, k.is_shaped, refl)) (cuts k.whole)
        | inr miss ↦
            let k = others.deep (c ∷ bytes) left (rw miss at e) in
            record { front = k.front; byte = k.byte; rest = k.rest; parts = k.parts; place = k.place; whole = k.whole; is_shaped = inr k.is_shaped; first = k.first }
      ]

  -- the text ends
  choose_ending : (bytes : List ℕ) → choose b q other bytes ≡ Err End → Begun print either bytes
  choose_ending [] e = record { whole = make t₀; is_shaped = inl (t₀, shaped₀, refl); more = print (make t₀); spelled = refl }
  choose_ending (c ∷ bytes) e =
      elim (which (eqb c b)) [
        | inl hit ↦ rw (eqb-true c b hit) (begun_made bytes (laws.ending bytes (made_err make (r bytes) End (rw hit at e))))
        | inr miss ↦ begun_other (c ∷ bytes) (others.ending (c ∷ bytes) (rw miss at e))
      ]

  -- a choice keeps the laws
  pub choose_laws : Laws n (choose b (made make r) other) (record { print = print; depths = depths; shaped = λ t. Of make F.shaped t ⊎ rest_shaped t }) follows
  choose_laws = record {
    takes = choose_takes;
    long = choose_long;
    again = choose_again;
    dives = choose_dives;
    holds = choose_holds;
    bad = choose_bad;
    deep = choose_deep;
    ending = choose_ending;
  }
