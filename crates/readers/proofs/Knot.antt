-- The knot of a grammar whose nodes stand inside one another: where no node may begin there is the reader `too_deep`, and
-- one level of nodes, over readers of the nodes inside that keep the laws at n, keeps them at n + 1.
use Rattle.std.proofs.Common.{◌≡◌, ℕ, suc, inl, inr, Bool, true, false, eqb, List, [], ◌∷◌, ◌++◌, length, Ok, Err, None, Some, refl, sym, ap, subst, ◌∙◌, arith}
use Rattle.std.proofs.lemmas.Bool.{eqb-true, ne_eqb}
use Rattle.std.proofs.lemmas.Option.{none-some, some_pair_parts}
use Rattle.readers.specs.declared.stop.Stop.TheVariants.{Bad, End, Deep}
use Rattle.readers.specs.Spelling.{Form, Begun, Within, tail}
use Rattle.readers.specs.Readers.{Reader, too_deep}
use Rattle.readers.proofs.Cases.{which, zero_not}
use Rattle.readers.proofs.Cuts.{cut}
use Rattle.readers.proofs.Laws.{Breaks, Dives, Laws}
use Rattle.readers.proofs.Recast.{recast_laws}
use Rattle.readers.proofs.Starts.{Starts}

-- ---- the node itself, around the nodes inside

-- one is no greater number
one_not : (n : ℕ) → eqb 1 (suc (suc n)) ≡ false
one_not n = ne_eqb 1 (suc (suc n)) (λ h. absurd (omega (arith, h)))

-- the outermost node is none of depth n + 2
head_cuts : (n : ℕ) (p m : List ℕ) → cut (suc n) p (1 ∷ m) ≡ cut (suc n) p (0 ∷ m)
head_cuts n [] m = refl
head_cuts n (c ∷ p) m = rw (one_not n, zero_not (suc n)) refl

-- the node itself is not too deep
within_head : (n : ℕ) (m : List ℕ) → Within (suc n) (0 ∷ m) → Within (suc n) (1 ∷ m)
within_head n m w = (omega arith, w.1)

-- the depths of the nodes inside, without the node itself
abbrev pub without_node : {A : Type 0} → (A → List ℕ) → A → List ℕ
without_node depths a = 0 ∷ tail (depths a)

-- laws that leave out the node itself are laws with it
pub head_laws : (n : ℕ) {A : Type 0} (r : Reader A) (F : Form A) (follows : ℕ → Bool) → ((a : A) → F.depths a ≡ 1 ∷ tail (F.depths a))
    → (shaped : A → Type 0) → Laws (suc n) r (record { print = F.print; depths = without_node F.depths; shaped = shaped }) follows
    → ((a : A) → shaped a → F.shaped a) → ((a : A) → F.shaped a → shaped a) → Laws (suc n) r F follows
head_laws n r F follows headed shaped laws to from =
    recast_laws (suc n) r _ follows laws F.depths F.shaped follows to from
    (λ a. ap (cut (suc n) (F.print a)) (headed a) ∙ head_cuts n (F.print a) (tail (F.depths a)))
    (λ a. ap length (headed a))
    (λ a w. subst (Within (suc n)) (sym (headed a)) (within_head n (tail (F.depths a)) w))
    (λ c e. e)

-- ---- where no node may begin

-- a value whose spelling begins with the byte
pub record Opening {A : Type 0} (F : Form A) (b : ℕ) : Type 0 where
  pub whole : A
  pub is_shaped : F.shaped whole
  pub more : List ℕ
  pub text : F.print whole ≡ b ∷ more

-- the same byte
pub at_byte : {A : Type 0} (F : Form A) (b c : ℕ) → eqb b c ≡ true → Opening F c → Opening F b
at_byte F b c h x = subst (Opening F) (sym (eqb-true b c h)) x

module _ {A : Type 0} (F : Form A) (begins follows : ℕ → Bool) (headed : (a : A) → F.depths a ≡ 1 ∷ tail (F.depths a))
    (starts : (a : A) → F.shaped a → Starts begins (F.print a)) (opens : (b : ℕ) → begins b ≡ true → Opening F b) (a₀ : A) (shaped₀ : F.shaped a₀) where
  -- the reader
  abbrev it : Reader A
  it = too_deep begins

  -- the text ends
  at_end : it [] ≡ Err End
  unfolding too_deep
  at_end = refl

  -- a byte that begins a node
  at_node : (b : ℕ) (rest : List ℕ) → begins b ≡ true → it (b ∷ rest) ≡ Err (Deep (length (b ∷ rest)))
  unfolding too_deep
  at_node b rest h = rw h refl

  -- another byte
  at_other : (b : ℕ) (rest : List ℕ) → begins b ≡ false → it (b ∷ rest) ≡ Err (Bad (length (b ∷ rest)))
  unfolding too_deep
  at_other b rest h = rw h refl

  -- nothing is read
  never_read : (bytes : List ℕ) (x : A × List ℕ) → it bytes ≡ Ok x → ⊥
  never_read [] x e = let f = sym at_end ∙ e in absurd cc
  never_read (b ∷ bytes) x e = elim (which (begins b)) [
    | inl h ↦ let f = sym (at_node b bytes h) ∙ e in absurd cc
    | inr h ↦ let f = sym (at_other b bytes h) ∙ e in absurd cc
  ]

  -- the empty text
  begun_none : Begun F.print F.shaped []
  begun_none = record { whole = a₀; is_shaped = shaped₀; more = F.print a₀; spelled = refl }

  -- a node of depth 1 begins at once
  cut_first : (a : A) (b : ℕ) (p : List ℕ) → F.print a ≡ b ∷ p → cut 0 (F.print a) (F.depths a) ≡ Some ([], b)
  cut_first a b p e = ap (λ (z : List ℕ). cut 0 z (F.depths a)) e ∙ ap (cut 0 (b ∷ p)) (headed a)

  -- the first byte of a spelling
  first_byte : (p : List ℕ) → Starts begins p → (b : ℕ) × (q : List ℕ) × (p ≡ b ∷ q) × (begins b ≡ true)
  first_byte [] s = absurd s
  first_byte (b ∷ q) s = (b, q, refl, s)

  -- each spelling is too deep at its first byte
  dives_at_once : (a : A) (front : List ℕ) (x : ℕ) (other : List ℕ) → F.shaped a → cut 0 (F.print a) (F.depths a) ≡ Some (front, x) → it (front ++ (x ∷ other)) ≡ Err (Deep (length (x ∷ other)))
  dives_at_once a front x other f e =
      let w = first_byte (F.print a) (starts a f) in
      let k = some_pair_parts [] front w.0 x (sym (cut_first a w.0 w.1 w.2) ∙ e) in
      ap (λ (z : List ℕ). it (z ++ (x ∷ other))) (sym k.0) ∙ at_node x other (subst (λ (z : ℕ). begins z ≡ true) k.1 w.3)

  -- none is not too deep
  never_within : (a : A) → F.shaped a → cut 0 (F.print a) (F.depths a) ≡ None → ⊥
  never_within a f e =
      let w = first_byte (F.print a) (starts a f) in
      none-some ([], w.0) (sym e ∙ cut_first a w.0 w.1 w.2)

  -- a wrong byte
  breaks : (bytes : List ℕ) (left : ℕ) → it bytes ≡ Err (Bad left) → Breaks it F bytes left
  breaks [] left e = let f = sym at_end ∙ e in absurd cc
  breaks (b ∷ bytes) left e = elim (which (begins b)) [
    | inl h ↦ let f = sym (at_node b bytes h) ∙ e in absurd cc
    | inr h ↦
        let f : Err (Bad (length (b ∷ bytes))) ≡ Err (Bad left) = sym (at_other b bytes h) ∙ e in
        record { front = []; byte = b; rest = bytes; parts = refl; place = cc; stays = λ other. at_other b other h; begun = begun_none }
  ]

  -- too deep
  dives_first : (bytes : List ℕ) (left : ℕ) → it bytes ≡ Err (Deep left) → Dives 0 F bytes left
  dives_first [] left e = let f = sym at_end ∙ e in absurd cc
  dives_first (b ∷ bytes) left e = elim (which (begins b)) [
    | inl h ↦
        let f : Err (Deep (length (b ∷ bytes))) ≡ Err (Deep left) = sym (at_node b bytes h) ∙ e in
        let x = opens b h in
        record { front = []; byte = b; rest = bytes; parts = refl; place = cc; whole = x.whole; is_shaped = x.is_shaped; first = cut_first x.whole b x.more x.text }
    | inr h ↦ let f = sym (at_other b bytes h) ∙ e in absurd cc
  ]

  -- the text ends
  ends_begun : (bytes : List ℕ) → it bytes ≡ Err End → Begun F.print F.shaped bytes
  ends_begun [] e = begun_none
  ends_begun (b ∷ bytes) e = elim (which (begins b)) [
    | inl h ↦ let f = sym (at_node b bytes h) ∙ e in absurd cc
    | inr h ↦ let f = sym (at_other b bytes h) ∙ e in absurd cc
  ]

  -- the laws at depth 0
  pub too_deep_laws : Laws 0 (too_deep begins) F follows
  too_deep_laws = record {
    takes = λ bytes a rest e. absurd (never_read bytes (a, rest) e);
    long = λ a f e. absurd (never_within a f e);
    again = λ a rest f e after. absurd (never_within a f e);
    dives = dives_at_once;
    holds = λ bytes a b more other e. absurd (never_read bytes (a, b ∷ more) e);
    bad = breaks;
    deep = dives_first;
    ending = ends_begun;
  }
