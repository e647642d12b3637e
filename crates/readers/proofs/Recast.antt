-- The same reader and the same spelling, with other words for the shape or the depths, and fewer bytes that may follow.
use Rattle.std.proofs.Common.{◌≡◌, ℕ, Bool, true, List, [], ◌∷◌, length, refl, sym, ap, subst, ◌∙◌}
use Rattle.readers.specs.Spelling.{Form, Begun, Within, none}
use Rattle.readers.specs.Readers.{Reader}
use Rattle.readers.proofs.Cuts.{After, cut}
use Rattle.readers.proofs.Laws.{Laws, leaf}

-- the same reader and the same spelling, with other words for the shape, other depths that cut alike, and fewer bytes that may follow
module _ (n : ℕ) {A : Type 0} (r : Reader A) (F : Form A) (follows : ℕ → Bool) (laws : Laws n r F follows)
    (depths : A → List ℕ) (shaped : A → Type 0) (follows' : ℕ → Bool)
    (to : (a : A) → F.shaped a → shaped a) (from : (a : A) → shaped a → F.shaped a)
    (cuts : (a : A) → cut n (F.print a) (depths a) ≡ cut n (F.print a) (F.depths a))
    (lengths : (a : A) → length (depths a) ≡ length (F.depths a))
    (withins : (a : A) → Within n (F.depths a) → Within n (depths a))
    (fewer : (c : ℕ) → follows' c ≡ true → follows c ≡ true) where
  -- the form in other words
  abbrev K : Form A
  K = record { print = F.print; depths = depths; shaped = shaped }

  -- what may follow now could follow before
  follow : (rest : List ℕ) → After follows' rest → After follows rest
  follow [] a = tt
  follow (c ∷ rest) a = fewer c a

  -- the same front
  begun_as : (text : List ℕ) → Begun F.print F.shaped text → Begun F.print shaped text
  begun_as text g = record { whole = g.whole; is_shaped = to g.whole g.is_shaped; more = g.more; spelled = g.spelled }

  -- other words keep the laws
  pub recast_laws : Laws n r (record { print = F.print; depths = depths; shaped = shaped }) follows'
  recast_laws = record {
    takes = λ bytes a rest e. let k = laws.takes bytes a rest e in (k.0, to a k.1, withins a k.2);
    long = λ a f e. lengths a ∙ laws.long a (from a f) (sym (cuts a) ∙ e);
    again = λ a rest f e after. laws.again a rest (from a f) (sym (cuts a) ∙ e) (follow rest after);
    dives = λ a front b other f e. laws.dives a front b other (from a f) (sym (cuts a) ∙ e);
    holds = laws.holds;
    bad = λ bytes left e. let k = laws.bad bytes left e in record { front = k.front; byte = k.byte; rest = k.rest; parts = k.parts; place = k.place; stays = k.stays; begun = begun_as k.front k.begun };
    deep = λ bytes left e. let k = laws.deep bytes left e in record { front = k.front; byte = k.byte; rest = k.rest; parts = k.parts; place = k.place; whole = k.whole; is_shaped = to k.whole k.is_shaped; first = cuts k.whole ∙ k.first };
    ending = λ bytes e. begun_as bytes (laws.ending bytes e);
  }

-- other words for the shape alone
pub reshape_laws : (n : ℕ) {A : Type 0} (r : Reader A) (F : Form A) (follows : ℕ → Bool) → Laws n r F follows
    → (shaped : A → Type 0) (follows' : ℕ → Bool) → ((a : A) → F.shaped a → shaped a) → ((a : A) → shaped a → F.shaped a) → ((c : ℕ) → follows' c ≡ true → follows c ≡ true)
    → Laws n r (record { print = F.print; depths = F.depths; shaped = shaped }) follows'
reshape_laws n r F follows laws shaped follows' to from fewer = recast_laws n r F follows laws F.depths shaped follows' to from (λ a. refl) (λ a. refl) (λ a w. w) fewer

-- a reader of texts without types
pub leafed : (n : ℕ) {A : Type 0} (r : Reader A) (F : Form A) (follows : ℕ → Bool) → Laws n r F follows
    → ((a : A) → none (F.print a) ≡ F.depths a) → (shaped : A → Type 0) (follows' : ℕ → Bool) → ((a : A) → F.shaped a → shaped a) → ((a : A) → shaped a → F.shaped a) → ((c : ℕ) → follows' c ≡ true → follows c ≡ true)
    → Laws n r (leaf F.print shaped) follows'
leafed n r F follows laws plain shaped follows' to from fewer =
    recast_laws n r F follows laws (λ a. none (F.print a)) shaped follows' to from (λ a. ap (cut n (F.print a)) (plain a)) (λ a. ap length (plain a)) (λ a w. subst (Within n) (sym (plain a)) w) fewer
