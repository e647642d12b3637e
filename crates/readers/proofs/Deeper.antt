-- Readers whose nodes stand inside one node more, and a reader that lets no node begin.
use Rattle.std.proofs.Common.{◌≡◌, ℕ, zero, suc, ◌≤◌, inl, inr, Bool, true, false, eqb, List, [], ◌∷◌, length, map, refl, sym, ◌∙◌, arith}
use Rattle.std.proofs.lemmas.Bool.{eqb-true, ne_eqb, eq-eqb, both_ways}
use Rattle.readers.specs.Spelling.{Form, Within, deeper}
use Rattle.readers.specs.Readers.{Reader}
use Rattle.readers.proofs.Cases.{which}
use Rattle.readers.proofs.Cuts.{cut}
use Rattle.readers.proofs.Laws.{Laws}

-- ---- one level deeper

-- one more on both sides
deeper_same : (n d : ℕ) → eqb (deeper d) (suc (suc n)) ≡ eqb d (suc n)
deeper_same n zero = ne_eqb 0 (suc (suc n)) (λ h. absurd (omega (arith, h))) ∙ sym (ne_eqb 0 (suc n) (λ h. absurd (omega (arith, h))))
deeper_same n (suc d) =
    elim (which (eqb (suc d) (suc n))) [
      | inl h ↦ let e = eqb-true (suc d) (suc n) h in let same : suc (suc d) ≡ suc (suc n) = omega (arith, e) in same_eqb (suc (suc d)) (suc (suc n)) same ∙ sym h
      | inr h ↦ ne_eqb (suc (suc d)) (suc (suc n)) (λ e. let same : suc d ≡ suc n = omega (arith, e) in absurd (let f = same_eqb (suc d) (suc n) same in differ _ h f)) ∙ sym h
    ]
  where
    same_eqb : (a b : ℕ) → a ≡ b → eqb a b ≡ true
    same_eqb a b e = eq-eqb a b e

    differ : (v : Bool) → v ≡ false → v ≡ true → ⊥
    differ v e f = both_ways v e f

-- one level up the cut is the same
pub cut_raise : (n : ℕ) (p ds : List ℕ) → cut (suc n) p (map deeper ds) ≡ cut n p ds
cut_raise n [] ds = refl
cut_raise n (c ∷ p) [] = refl
cut_raise n (c ∷ p) (d ∷ ds) = rw (deeper_same n d, cut_raise n p ds) refl

-- as many depths
length_raise : (ds : List ℕ) → length (map deeper ds) ≡ length ds
length_raise [] = refl
length_raise (d ∷ ds) = omega (arith, length_raise ds)

-- one more within one more
deeper_within : (n d : ℕ) → d ≤ n → deeper d ≤ suc n
deeper_within n zero h = omega arith
deeper_within n (suc d) h = omega arith

-- no deeper than one more
within_raise : (n : ℕ) (ds : List ℕ) → Within n ds → Within (suc n) (map deeper ds)
within_raise n [] w = tt
within_raise n (d ∷ ds) w = (deeper_within n d w.0, within_raise n ds w.1)

-- the form one level deeper
abbrev pub raised : {A : Type 0} → Form A → Form A
raised F = record { print = F.print; depths = λ a. map deeper (F.depths a); shaped = F.shaped }

-- one level deeper the laws stand at one more
pub raise_laws : (n : ℕ) {A : Type 0} (r : Reader A) (F : Form A) (follows : ℕ → Bool) → Laws n r F follows → Laws (suc n) r (raised F) follows
raise_laws n r F follows laws = record {
  takes = λ bytes a rest e. let k = laws.takes bytes a rest e in (k.0, k.1, within_raise n (F.depths a) k.2);
  long = λ a f e. length_raise (F.depths a) ∙ laws.long a f (sym (cut_raise n (F.print a) (F.depths a)) ∙ e);
  again = λ a rest f e after. laws.again a rest f (sym (cut_raise n (F.print a) (F.depths a)) ∙ e) after;
  dives = λ a front b other f e. laws.dives a front b other f (sym (cut_raise n (F.print a) (F.depths a)) ∙ e);
  holds = laws.holds;
  bad = λ bytes left e. let k = laws.bad bytes left e in record { front = k.front; byte = k.byte; rest = k.rest; parts = k.parts; place = k.place; stays = k.stays; begun = k.begun };
  deep = λ bytes left e. let k = laws.deep bytes left e in record { front = k.front; byte = k.byte; rest = k.rest; parts = k.parts; place = k.place; whole = k.whole; is_shaped = k.is_shaped; first = cut_raise n (F.print k.whole) (F.depths k.whole) ∙ k.first };
  ending = laws.ending;
}
