-- The alternatives of a grammar, one added at a time: the bytes that begin them, that their values have a spelling, and their
-- laws.
use Rattle.std.proofs.Common.{◌≡◌, ℕ, ◌⊎◌, inl, inr, Bool, false, eqb, List, ◌∷◌, sym, subst}
use Rattle.std.specs.Prelude.{◌||◌}
use Rattle.std.proofs.lemmas.Bool.{or_left}
use Rattle.readers.specs.Spelling.{Form}
use Rattle.readers.specs.Readers.{Reader, made, choose}
use Rattle.readers.proofs.Cases.{eqb_self}
use Rattle.readers.proofs.Laws.{Laws}
use Rattle.readers.proofs.Made.{Of}
use Rattle.readers.proofs.Choose.{choose_laws}
use Rattle.readers.proofs.Starts.{Starts, apart_of, starts_right}

-- some alternatives, whose values are those with S
pub record Alternatives {B : Type 0} (print : B → List ℕ) (shaped S : B → Type 0) : Type 0 where
  -- they begin with bytes that pass this test
  pub test : ℕ → Bool
  pub starts : (b : B) → S b → Starts test (print b)
  -- and have a spelling
  pub to : (b : B) → S b → shaped b

-- the byte c passes too
abbrev pub or_byte : ℕ → (ℕ → Bool) → ℕ → Bool
or_byte c test b = eqb b c || test b

-- one alternative more: what is made of a part, with the byte c in front
module _ {A B : Type 0} (print : B → List ℕ) (whole_shaped : B → Type 0) (make : A → B) (shaped : A → Type 0) (c : ℕ) (rest : A → List ℕ)
    (spelled : (a : A) → print (make a) ≡ c ∷ rest a) (fits : (a : A) → shaped a → whole_shaped (make a)) (S : B → Type 0) (others : Alternatives print whole_shaped S) where
  -- it begins with c, or as one of the others
  pub either_starts : (b : B) → Of make shaped b ⊎ S b → Starts (or_byte c others.test) (print b)
  either_starts b (inl f) =
      let first : Starts (or_byte c others.test) (c ∷ rest f.0) = or_left (eqb c c) (others.test c) (eqb_self c) in
      subst (λ (z : B). Starts (or_byte c others.test) (print z)) f.2 (subst (Starts (or_byte c others.test)) (sym (spelled f.0)) first)
  either_starts b (inr f) = starts_right c others.test (print b) (others.starts b f)

  -- it has a spelling
  pub either_to : (b : B) → Of make shaped b ⊎ S b → whole_shaped b
  either_to b (inl f) = subst whole_shaped f.2 (fits f.0 f.1)
  either_to b (inr f) = others.to b f

  -- so there is one alternative more
  abbrev pub or_alternative : Alternatives print whole_shaped (λ b. Of make shaped b ⊎ S b)
  or_alternative = record { test = or_byte c others.test; starts = either_starts; to = either_to }

-- its laws, where no other alternative begins with c
pub or_laws : (n : ℕ) {A B : Type 0} (r : Reader A) (F : Form A) (follows : ℕ → Bool) → Laws n r F follows → (make : A → B) (c : ℕ) (print depths : B → List ℕ)
    → ((a : A) → print (make a) ≡ c ∷ F.print a) → ((a : A) → depths (make a) ≡ 0 ∷ F.depths a)
    → (other : Reader B) (whole_shaped S : B → Type 0) (others : Alternatives print whole_shaped S) → Laws n other (record { print = print; depths = depths; shaped = S }) follows
    → others.test c ≡ false → (a : A) → F.shaped a
    → Laws n (choose c (made make r) other) (record { print = print; depths = depths; shaped = λ b. Of make F.shaped b ⊎ S b }) follows
or_laws n r F follows laws make c print depths spelled marked other whole_shaped S others other_laws miss a₀ shaped₀ =
    choose_laws n r F follows laws make c print depths spelled marked other S other_laws (λ b f. apart_of others.test c miss (print b) (others.starts b f)) a₀ shaped₀
