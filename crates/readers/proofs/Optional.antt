-- A part that may be left out keeps the laws, where it begins with a byte that doesn't follow otherwise.
use Rattle.std.proofs.Common.{◌≡◌, ℕ, inl, inr, Bool, true, false, eqb, List, [], ◌∷◌, ◌++◌, length, Ok, Err, Option, None, Some, refl, sym, ap, subst, ◌∙◌, arith}
use Rattle.std.proofs.lemmas.Bool.{eqb-true}
use Rattle.readers.specs.declared.stop.Stop.TheVariants.{Bad, End, Deep}
use Rattle.readers.specs.Spelling.{Form, Begun, Within}
use Rattle.readers.specs.Readers.{Reader, ◌>>=◌, remade, optional}
use Rattle.readers.proofs.Cases.{which, eqb_self, zero_not, ok_parts, made_ok, made_err}
use Rattle.readers.proofs.Cuts.{After, later, later_some, later_none, cut}
use Rattle.readers.proofs.Laws.{Breaks, Breaks-behind, Dives, Dives-behind, Laws}

-- b and the spelling, or nothing
abbrev pub opt_print : {A : Type 0} → ℕ → (A → List ℕ) → Option A → List ℕ
opt_print b print None = []
opt_print b print (Some a) = b ∷ print a

-- nothing has a spelling, the empty one
abbrev pub opt_shaped : {A : Type 0} → (A → Type 0) → Option A → Type 0
opt_shaped shaped None = Unit {0}
opt_shaped shaped (Some a) = shaped a

-- the form of what may be left out
abbrev pub opt_form : {A : Type 0} → ℕ → Form A → Form (Option A)
opt_form b F = record { print = opt_print b F.print; depths = opt_print 0 F.depths; shaped = opt_shaped F.shaped }

module _ (n : ℕ) {A : Type 0} (r : Reader A) (F : Form A) (follows : ℕ → Bool) (laws : Laws n r F follows) (b : ℕ)
    (follows' : ℕ → Bool) (apart : (c : ℕ) → follows' c ≡ true → eqb c b ≡ false) (fewer : (c : ℕ) → follows' c ≡ true → follows c ≡ true) where
  -- b and then r, or neither
  abbrev it : Reader (Option A)
  it = optional b r

  -- its form
  abbrev G : Form (Option A)
  G = opt_form b F

  -- after b r reads
  own : (rest : List ℕ) → it (b ∷ rest) ≡ (r rest >>= remade Some)
  own rest = rw (eqb_self b) refl

  -- b in front moves the cut by one
  cuts : (a : A) → cut n (b ∷ F.print a) (0 ∷ F.depths a) ≡ later b (cut n (F.print a) (F.depths a))
  cuts a = rw (zero_not n) refl

  -- what follows it may follow r
  follow : (rest : List ℕ) → After follows' rest → After follows rest
  follow [] a = tt
  follow (c ∷ rest) a = fewer c a

  -- the spelling, or nothing
  takes : (bytes : List ℕ) (o : Option A) (rest : List ℕ) → it bytes ≡ Ok (o, rest) → (bytes ≡ G.print o ++ rest) × G.shaped o × Within n (G.depths o)
  takes [] o rest e =
      let p = ok_parts (it []) (it []) None o [] rest refl e refl in
      (subst (λ (z : Option A). [] ≡ G.print z ++ rest) p.0 p.1, subst (λ (z : Option A). G.shaped z) p.0 tt, subst (λ (z : Option A). Within n (G.depths z)) p.0 tt)
  takes (c ∷ bytes) o rest e =
      elim (which (eqb c b)) [
        | inl hit ↦
            let h = made_ok Some (r bytes) o rest (rw hit at e) in
            let k = laws.takes bytes h.0 rest h.1 in
            let text : c ∷ bytes ≡ G.print (Some h.0) ++ rest = ap (λ (z : ℕ). z ∷ bytes) (eqb-true c b hit) ∙ ap (λ (z : List ℕ). b ∷ z) k.0 in
            let within : Within n (G.depths (Some h.0)) = (omega arith, k.2) in
            (subst (λ (z : Option A). c ∷ bytes ≡ G.print z ++ rest) h.2 text, subst (λ (z : Option A). G.shaped z) h.2 k.1, subst (λ (z : Option A). Within n (G.depths z)) h.2 within)
        | inr miss ↦
            let stop : it (c ∷ bytes) ≡ Ok (None, c ∷ bytes) = rw miss refl in
            let p = ok_parts (it (c ∷ bytes)) (it (c ∷ bytes)) None o (c ∷ bytes) rest stop e refl in
            (subst (λ (z : Option A). c ∷ bytes ≡ G.print z ++ rest) p.0 p.1, subst (λ (z : Option A). G.shaped z) p.0 tt, subst (λ (z : Option A). Within n (G.depths z)) p.0 tt)
      ]

  -- a depth for each byte
  long : (o : Option A) → G.shaped o → cut n (G.print o) (G.depths o) ≡ None → length (G.depths o) ≡ length (G.print o)
  long None f e = refl
  long (Some a) f e = let l = laws.long a f (later_none b _ (sym (cuts a) ∙ e)) in omega (arith, l)

  -- its spelling is read
  again : (o : Option A) (rest : List ℕ) → G.shaped o → cut n (G.print o) (G.depths o) ≡ None → After follows' rest → it (G.print o ++ rest) ≡ Ok (o, rest)
  again None [] f e after = refl
  again None (c ∷ rest) f e after = rw (apart c after) refl
  again (Some a) rest f e after = own (F.print a ++ rest) ∙ rw (laws.again a rest f (later_none b _ (sym (cuts a) ∙ e)) (follow rest after)) refl

  -- up to the first node that is too deep
  dives : (o : Option A) (front : List ℕ) (x : ℕ) (other : List ℕ) → G.shaped o → cut n (G.print o) (G.depths o) ≡ Some (front, x) → it (front ++ (x ∷ other)) ≡ Err (Deep (length (x ∷ other)))
  dives None front x other f e = absurd cc
  dives (Some a) front x other f e =
      let k = later_some b (cut n (F.print a) (F.depths a)) front x (sym (cuts a) ∙ e) in
      ap (λ (z : List ℕ). it (z ++ (x ∷ other))) k.2 ∙ own (k.0 ++ (x ∷ other)) ∙ rw (laws.dives a k.0 x other f k.1) refl

  -- the byte after it decides
  holds : (bytes : List ℕ) (o : Option A) (x : ℕ) (more other : List ℕ) → it bytes ≡ Ok (o, x ∷ more) → it (G.print o ++ (x ∷ other)) ≡ Ok (o, x ∷ other)
  holds [] o x more other e = let p = ok_parts (it []) (it []) None o [] (x ∷ more) refl e refl in let q : [] ≡ x ∷ more = p.1 in absurd cc
  holds (c ∷ bytes) o x more other e =
      elim (which (eqb c b)) [
        | inl hit ↦
            let h = made_ok Some (r bytes) o (x ∷ more) (rw hit at e) in
            let at_some : it (G.print (Some h.0) ++ (x ∷ other)) ≡ Ok (Some h.0, x ∷ other) = own (F.print h.0 ++ (x ∷ other)) ∙ rw (laws.holds bytes h.0 x more other h.1) refl in
            subst (λ (z : Option A). it (G.print z ++ (x ∷ other)) ≡ Ok (z, x ∷ other)) h.2 at_some
        | inr miss ↦
            let stop : it (c ∷ bytes) ≡ Ok (None, c ∷ bytes) = rw miss refl in
            let p = ok_parts (it (c ∷ bytes)) (it (c ∷ bytes)) None o (c ∷ bytes) (x ∷ more) stop e refl in
            let q : c ∷ bytes ≡ x ∷ more = p.1 in
            let same : c ≡ x = cc in
            let miss' : eqb x b ≡ false = subst (λ (z : ℕ). eqb z b ≡ false) same miss in
            let at_none : it (x ∷ other) ≡ Ok (None, x ∷ other) = rw miss' refl in
            subst (λ (z : Option A). it (G.print z ++ (x ∷ other)) ≡ Ok (z, x ∷ other)) p.0 at_none
      ]

  -- the front of a spelling after b
  begun : (text : List ℕ) → Begun F.print F.shaped text → Begun G.print G.shaped (b ∷ text)
  begun text g = record { whole = Some g.whole; is_shaped = g.is_shaped; more = g.more; spelled = ap (λ (z : List ℕ). b ∷ z) g.spelled }

  -- a wrong byte
  bad : (bytes : List ℕ) (left : ℕ) → it bytes ≡ Err (Bad left) → Breaks it G bytes left
  bad [] left e = absurd cc
  bad (c ∷ bytes) left e =
      elim (which (eqb c b)) [
        | inl hit ↦
            let k = laws.bad bytes left (made_err Some (r bytes) (Bad left) (rw hit at e)) in
            Breaks-behind r F it G b c bytes left hit k (λ more. own (k.front ++ (k.byte ∷ more)) ∙ rw (k.stays more) refl) (begun k.front k.begun)
        | inr miss ↦ let f = rw miss at e in absurd cc
      ]

  -- too deep
  deep : (bytes : List ℕ) (left : ℕ) → it bytes ≡ Err (Deep left) → Dives n G bytes left
  deep [] left e = absurd cc
  deep (c ∷ bytes) left e =
      elim (which (eqb c b)) [
        | inl hit ↦
            let k = laws.deep bytes left (made_err Some (r bytes) (Deep left) (rw hit at e)) in
            Dives-behind n F G b c bytes left hit k (Some k.whole) k.is_shaped (cuts k.whole)
        | inr miss ↦ let f = rw miss at e in absurd cc
      ]

  -- the text ends
  ending : (bytes : List ℕ) → it bytes ≡ Err End → Begun G.print G.shaped bytes
  ending [] e = absurd cc
  ending (c ∷ bytes) e =
      elim (which (eqb c b)) [
        | inl hit ↦ rw (eqb-true c b hit) (begun bytes (laws.ending bytes (made_err Some (r bytes) End (rw hit at e))))
        | inr miss ↦ let f = rw miss at e in absurd cc
      ]

  -- what may be left out keeps the laws
  pub optional_laws : Laws n (optional b r) (opt_form b F) follows'
  optional_laws = record { takes = takes; long = long; again = again; dives = dives; holds = holds; bad = bad; deep = deep; ending = ending }
