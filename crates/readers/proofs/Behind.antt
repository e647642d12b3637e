-- A byte that has to stand there, and then a reader that keeps the laws.
use Rattle.std.proofs.Common.{◌≡◌, ℕ, inl, inr, Bool, eqb, List, [], ◌∷◌, ◌++◌, length, Ok, Err, Some, refl, sym, ap, ◌∙◌, arith}
use Rattle.std.proofs.lemmas.Bool.{eqb-true}
use Rattle.readers.specs.declared.stop.Stop.TheVariants.{Bad, End, Deep}
use Rattle.readers.specs.Spelling.{Form, Begun, Within}
use Rattle.readers.specs.Readers.{Reader, choose, nothing}
use Rattle.readers.proofs.Cases.{which, eqb_self, zero_not}
use Rattle.readers.proofs.Cuts.{later, later_some, later_none, cut}
use Rattle.readers.proofs.Laws.{Breaks, Breaks-behind, Dives, Dives-behind, Laws}

-- the byte b in front
abbrev pub behind_form : {A : Type 0} → ℕ → Form A → Form A
behind_form b F = record { print = λ a. b ∷ F.print a; depths = λ a. 0 ∷ F.depths a; shaped = F.shaped }

module _ (n : ℕ) {A : Type 0} (r : Reader A) (F : Form A) (follows : ℕ → Bool) (laws : Laws n r F follows) (b : ℕ) (t₀ : A) (shaped₀ : F.shaped t₀) where
  -- the byte b, and then r
  abbrev it : Reader A
  it = choose b r nothing

  -- its form
  abbrev G : Form A
  G = behind_form b F

  -- b in front moves the cut by one
  cuts' : (a : A) → cut n (G.print a) (G.depths a) ≡ later b (cut n (F.print a) (F.depths a))
  cuts' a = rw (zero_not n) refl

  -- after b r reads
  own : (rest : List ℕ) → it (b ∷ rest) ≡ r rest
  own rest = rw (eqb_self b) refl

  -- the spelling after b
  takes : (bytes : List ℕ) (a : A) (rest : List ℕ) → it bytes ≡ Ok (a, rest) → (bytes ≡ G.print a ++ rest) × F.shaped a × Within n (G.depths a)
  takes [] a rest e = absurd cc
  takes (c ∷ bytes) a rest e =
      elim (which (eqb c b)) [
        | inl hit ↦ let k = laws.takes bytes a rest (rw hit at e) in (ap (λ (z : ℕ). z ∷ bytes) (eqb-true c b hit) ∙ ap (λ (z : List ℕ). b ∷ z) k.0, k.1, (omega arith, k.2))
        | inr miss ↦ let f = rw miss at e in absurd cc
      ]

  -- up to the first node that is too deep
  dives : (a : A) (front : List ℕ) (x : ℕ) (more : List ℕ) → F.shaped a → cut n (G.print a) (G.depths a) ≡ Some (front, x) → it (front ++ (x ∷ more)) ≡ Err (Deep (length (x ∷ more)))
  dives a front x more f e =
      let k = later_some b (cut n (F.print a) (F.depths a)) front x (sym (cuts' a) ∙ e) in
      ap (λ (z : List ℕ). it (z ++ (x ∷ more))) k.2 ∙ own (k.0 ++ (x ∷ more)) ∙ laws.dives a k.0 x more f k.1

  -- the byte after it decides
  holds : (bytes : List ℕ) (a : A) (x : ℕ) (more other : List ℕ) → it bytes ≡ Ok (a, x ∷ more) → it (G.print a ++ (x ∷ other)) ≡ Ok (a, x ∷ other)
  holds [] a x more other e = absurd cc
  holds (c ∷ bytes) a x more other e =
      elim (which (eqb c b)) [
        | inl hit ↦ own (F.print a ++ (x ∷ other)) ∙ laws.holds bytes a x more other (rw hit at e)
        | inr miss ↦ let f = rw miss at e in absurd cc
      ]

  -- the front of a spelling after b
  begun : (text : List ℕ) → Begun F.print F.shaped text → Begun G.print G.shaped (b ∷ text)
  begun text g = record { whole = g.whole; is_shaped = g.is_shaped; more = g.more; spelled = ap (λ (z : List ℕ). b ∷ z) g.spelled }

  -- the empty text
  begun_none : Begun G.print G.shaped []
  begun_none = record { whole = t₀; is_shaped = shaped₀; more = G.print t₀; spelled = refl }

  -- a wrong byte
  bad : (bytes : List ℕ) (left : ℕ) → it bytes ≡ Err (Bad left) → Breaks it G bytes left
  bad [] left e = absurd cc
  bad (c ∷ bytes) left e =
      elim (which (eqb c b)) [
        | inl hit ↦
            let k = laws.bad bytes left (rw hit at e) in
            Breaks-behind r F it G b c bytes left hit k (λ more. own (k.front ++ (k.byte ∷ more)) ∙ k.stays more) (begun k.front k.begun)
        | inr miss ↦
            let f : Err (Bad (length (c ∷ bytes))) ≡ Err (Bad left) = rw miss at e in
            record { front = []; byte = c; rest = bytes; parts = refl; place = cc; stays = λ more. rw miss refl; begun = begun_none }
      ]

  -- too deep
  deep : (bytes : List ℕ) (left : ℕ) → it bytes ≡ Err (Deep left) → Dives n G bytes left
  deep [] left e = absurd cc
  deep (c ∷ bytes) left e =
      elim (which (eqb c b)) [
        | inl hit ↦
            let k = laws.deep bytes left (rw hit at e) in
            Dives-behind n F G b c bytes left hit k k.whole k.is_shaped (cuts' k.whole)
        | inr miss ↦ let f = rw miss at e in absurd cc
      ]

  -- the text ends
  ending : (bytes : List ℕ) → it bytes ≡ Err End → Begun G.print G.shaped bytes
  ending [] e = begun_none
  ending (c ∷ bytes) e =
      elim (which (eqb c b)) [
        | inl hit ↦ rw (eqb-true c b hit) (begun bytes (laws.ending bytes (rw hit at e)))
        | inr miss ↦ let f = rw miss at e in absurd cc
      ]

  -- a byte in front keeps the laws
  pub behind_laws : Laws n (choose b r nothing) (behind_form b F) follows
  behind_laws = record {
    takes = takes;
    long = λ a f e. let l = laws.long a f (later_none b _ (sym (cuts' a) ∙ e)) in omega (arith, l);
    again = λ a rest f e after. own (F.print a ++ rest) ∙ laws.again a rest f (later_none b _ (sym (cuts' a) ∙ e)) after;
    dives = dives;
    holds = holds;
    bad = bad;
    deep = deep;
    ending = ending;
  }
