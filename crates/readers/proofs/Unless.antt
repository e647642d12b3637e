-- A reader after a test that its first byte must not pass keeps the laws.
use Rattle.std.proofs.Common.{◌≡◌, ℕ, ◌≤◌, inl, inr, Bool, false, List, [], ◌∷◌, ◌++◌, length, Ok, Err, Some, refl, sym, subst, ◌∙◌, arith}
use Rattle.std.proofs.lemmas.List.{append-nil}
use Rattle.readers.specs.declared.stop.Stop.TheVariants.{Bad, End, Deep}
use Rattle.readers.specs.Spelling.{Form, Begun, Within}
use Rattle.readers.specs.Readers.{Reader, unless}
use Rattle.readers.proofs.Cases.{which}
use Rattle.readers.proofs.Cuts.{cut, cut_front}
use Rattle.readers.proofs.Laws.{Breaks, Dives, Laws}

-- the text begins, with a byte that doesn't pass
abbrev pub NotFirst : (ℕ → Bool) → List ℕ → Type 0
NotFirst test [] = ⊥
NotFirst test (c ∷ p) = test c ≡ false

-- those that begin so
abbrev pub unless_form : {A : Type 0} → (ℕ → Bool) → Form A → Form A
unless_form test F = record { print = F.print; depths = F.depths; shaped = λ a. F.shaped a × NotFirst test (F.print a) }

module _ (n : ℕ) {A : Type 0} (r : Reader A) (F : Form A) (follows : ℕ → Bool) (laws : Laws n r F follows) (test : ℕ → Bool)
    (solid : (a : A) → F.shaped a → 1 ≤ length (F.print a)) (t₀ : A) (shaped₀ : F.shaped t₀) (first₀ : NotFirst test (F.print t₀)) where
  -- r after the test
  abbrev its : Reader A
  its = unless test r

  -- its form
  abbrev U : Form A
  U = unless_form test F

  -- a text that begins with a byte that doesn't pass
  not_first : (c : ℕ) (p q : List ℕ) → test c ≡ false → c ∷ p ≡ q → NotFirst test q
  not_first c p q miss e = subst (λ (z : List ℕ). NotFirst test z) e miss

  -- so does its front
  front_first : (c : ℕ) (p q rest : List ℕ) → test c ≡ false → c ∷ p ≡ q ++ rest → 1 ≤ length q → NotFirst test q
  front_first c p [] rest miss e some = absurd (omega (arith, some))
  front_first c p (d ∷ q) rest miss e some = let same : c ≡ d = cc in subst (λ (z : ℕ). test z ≡ false) same miss

  -- then r reads
  goes : (p rest : List ℕ) → NotFirst test p → its (p ++ rest) ≡ r (p ++ rest)
  goes [] rest miss = absurd miss
  goes (c ∷ p) rest miss = rw miss refl

  -- whatever follows
  goes_on : (c : ℕ) (p front : List ℕ) (x : ℕ) (more other : List ℕ) → test c ≡ false → c ∷ p ≡ front ++ (x ∷ more) → its (front ++ (x ∷ other)) ≡ r (front ++ (x ∷ other))
  goes_on c p [] x more other miss e = let same : c ≡ x = cc in rw (subst (λ (z : ℕ). test z ≡ false) same miss) refl
  goes_on c p (d ∷ front) x more other miss e = let same : c ≡ d = cc in rw (subst (λ (z : ℕ). test z ≡ false) same miss) refl

  -- the empty text
  begun_none : Begun U.print U.shaped []
  begun_none = record { whole = t₀; is_shaped = (shaped₀, first₀); more = F.print t₀; spelled = refl }

  -- a front of what r spells
  begun_front : (c : ℕ) (p front rest : List ℕ) → test c ≡ false → c ∷ p ≡ front ++ rest → Begun F.print F.shaped front → Begun U.print U.shaped front
  begun_front c p [] rest miss e g = begun_none
  begun_front c p (d ∷ front) rest miss e g =
      let same : c ≡ d = cc in
      record { whole = g.whole; is_shaped = (g.is_shaped, not_first d (front ++ g.more) (F.print g.whole) (subst (λ (z : ℕ). test z ≡ false) same miss) (sym g.spelled)); more = g.more; spelled = g.spelled }

  -- a test of the first byte keeps the laws
  pub unless_laws : Laws n (unless test r) (unless_form test F) follows
  unless_laws = record {
    takes = u_takes;
    long = λ a f e. laws.long a f.0 e;
    again = λ a rest f e after. goes (F.print a) rest f.1 ∙ laws.again a rest f.0 e after;
    dives = u_dives;
    holds = u_holds;
    bad = u_bad;
    deep = u_deep;
    ending = u_ending;
  }
    where
      u_takes : (bytes : List ℕ) (a : A) (rest : List ℕ) → its bytes ≡ Ok (a, rest) → (bytes ≡ F.print a ++ rest) × U.shaped a × Within n (F.depths a)
      u_takes [] a rest e = absurd cc
      u_takes (c ∷ bytes) a rest e =
          elim (which (test c)) [
            | inl hit ↦ let f = rw hit at e in absurd cc
            | inr miss ↦ let k = laws.takes (c ∷ bytes) a rest (rw miss at e) in (k.0, (k.1, front_first c bytes (F.print a) rest miss k.0 (solid a k.1)), k.2)
          ]

      u_dives : (a : A) (front : List ℕ) (x : ℕ) (other : List ℕ) → U.shaped a → cut n (F.print a) (F.depths a) ≡ Some (front, x) → its (front ++ (x ∷ other)) ≡ Err (Deep (length (x ∷ other)))
      u_dives a front x other f e =
          let w = cut_front n (F.print a) (F.depths a) front x e in
          first_of_print (F.print a) f.1 w.0 w.1 ∙ laws.dives a front x other f.0 e
        where
          first_of_print : (p : List ℕ) → NotFirst test p → (more : List ℕ) → p ≡ front ++ (x ∷ more) → its (front ++ (x ∷ other)) ≡ r (front ++ (x ∷ other))
          first_of_print [] miss more is = absurd miss
          first_of_print (c ∷ p) miss more is = goes_on c p front x more other miss is

      u_holds : (bytes : List ℕ) (a : A) (x : ℕ) (more other : List ℕ) → its bytes ≡ Ok (a, x ∷ more) → its (F.print a ++ (x ∷ other)) ≡ Ok (a, x ∷ other)
      u_holds [] a x more other e = absurd cc
      u_holds (c ∷ bytes) a x more other e =
          elim (which (test c)) [
            | inl hit ↦ let f = rw hit at e in absurd cc
            | inr miss ↦
                let f = rw miss at e in
                let k = laws.takes (c ∷ bytes) a (x ∷ more) f in
                goes_on c bytes (F.print a) x more other miss k.0 ∙ laws.holds (c ∷ bytes) a x more other f
          ]

      u_bad : (bytes : List ℕ) (left : ℕ) → its bytes ≡ Err (Bad left) → Breaks its U bytes left
      u_bad [] left e = absurd cc
      u_bad (c ∷ bytes) left e =
          elim (which (test c)) [
            | inl hit ↦
                let f : Err (Bad (length (c ∷ bytes))) ≡ Err (Bad left) = rw hit at e in
                record { front = []; byte = c; rest = bytes; parts = refl; place = cc; stays = λ more. rw hit refl; begun = begun_none }
            | inr miss ↦
                let k = laws.bad (c ∷ bytes) left (rw miss at e) in
                record {
                  front = k.front;
                  byte = k.byte;
                  rest = k.rest;
                  parts = k.parts;
                  place = k.place;
                  stays = λ other. goes_on c bytes k.front k.byte k.rest other miss k.parts ∙ k.stays other;
                  begun = begun_front c bytes k.front (k.byte ∷ k.rest) miss k.parts k.begun;
                }
          ]

      u_deep : (bytes : List ℕ) (left : ℕ) → its bytes ≡ Err (Deep left) → Dives n U bytes left
      u_deep [] left e = absurd cc
      u_deep (c ∷ bytes) left e =
          elim (which (test c)) [
            | inl hit ↦ let f = rw hit at e in absurd cc
            | inr miss ↦
                let k = laws.deep (c ∷ bytes) left (rw miss at e) in
                let w = cut_front n (F.print k.whole) (F.depths k.whole) k.front k.byte k.first in
                let first : NotFirst test (F.print k.whole) = by_front k.front k.byte k.rest w.0 (F.print k.whole) miss k.parts w.1 in
                record { front = k.front; byte = k.byte; rest = k.rest; parts = k.parts; place = k.place; whole = k.whole; is_shaped = (k.is_shaped, first); first = k.first }
          ]
        where
          by_front : (front : List ℕ) (x : ℕ) (rest more p : List ℕ) → test c ≡ false → c ∷ bytes ≡ front ++ (x ∷ rest) → p ≡ front ++ (x ∷ more) → NotFirst test p
          by_front [] x rest more p miss e f = let same : c ≡ x = cc in not_first x more p (subst (λ (z : ℕ). test z ≡ false) same miss) (sym f)
          by_front (d ∷ front) x rest more p miss e f = let same : c ≡ d = cc in not_first d (front ++ (x ∷ more)) p (subst (λ (z : ℕ). test z ≡ false) same miss) (sym f)

      u_ending : (bytes : List ℕ) → its bytes ≡ Err End → Begun U.print U.shaped bytes
      u_ending [] e = begun_none
      u_ending (c ∷ bytes) e =
          elim (which (test c)) [
            | inl hit ↦ let f = rw hit at e in absurd cc
            | inr miss ↦ begun_front c bytes (c ∷ bytes) [] miss (sym (append-nil (c ∷ bytes))) (laws.ending (c ∷ bytes) (rw miss at e))
          ]
