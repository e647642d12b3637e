-- Any number of items, and the byte after them, keep the laws. With a bound on their number that is an induction on the
-- bound; and a bound that is not below the length of the text makes no difference.
use Rattle.std.proofs.Common.{◌≡◌, ℕ, zero, suc, ◌+◌, ◌≤◌, ◌⊎◌, inl, inr, eqb, List, [], ◌∷◌, ◌++◌, length, Err, refl, sym, ap, subst, ◌∙◌, arith, length-append}
use Rattle.readers.specs.declared.stop.Stop.TheVariants.{Bad}
use Rattle.readers.specs.Spelling.{Form, Begun, ended}
use Rattle.readers.specs.Readers.{Reader, seq, made, done, byte_at, up_to, many}
use Rattle.readers.proofs.Cases.{which, which_outcome}
use Rattle.readers.proofs.Cuts.{any, any_after}
use Rattle.readers.proofs.Laws.{Laws}
use Rattle.readers.proofs.Seq.{seq_form, seq_laws}
use Rattle.readers.proofs.Made.{Of, made_laws}
use Rattle.readers.proofs.Recast.{reshape_laws}
use Rattle.readers.proofs.Choose.{Apart, choose_laws}
use Rattle.readers.proofs.Closed.{empty_form, done_laws, byte_form, byte_laws}

-- each item has the property
abbrev pub Each : {A : Type 0} → (A → Type 0) → List A → Type 0
Each shaped [] = Unit {0}
Each shaped (x ∷ xs) = shaped x × Each shaped xs

-- the items one after another, and then b
abbrev pub many_form : {A : Type 0} → ℕ → Form A → Form (List A)
many_form b F = record { print = ended F.print (b ∷ []); depths = ended F.depths (0 ∷ []); shaped = Each F.shaped }

-- two ways to split a text at one place
split_same : (f g : List ℕ) (b c : ℕ) (r s : List ℕ) → f ++ (b ∷ r) ≡ g ++ (c ∷ s) → length (b ∷ r) ≡ length (c ∷ s) → (f ≡ g) × (b ≡ c)
split_same [] [] b c r s e l = (refl, cc)
split_same [] (y ∷ g) b c r s e l = absurd (omega (arith, l, ap length e, length-append g (c ∷ s)))
split_same (x ∷ f) [] b c r s e l = absurd (omega (arith, l, ap length e, length-append f (b ∷ r)))
split_same (x ∷ f) (y ∷ g) b c r s e l =
    let tails : f ++ (b ∷ r) ≡ g ++ (c ∷ s) = cc in
    let heads : x ≡ y = cc in
    let k = split_same f g b c r s tails l in
    (ap (λ (z : ℕ). z ∷ f) heads ∙ ap (λ (z : List ℕ). y ∷ z) k.0, k.1)

-- a text that begins otherwise, with more after it
apart_more : (b : ℕ) (p q : List ℕ) → Apart b p → Apart b (p ++ q)
apart_more b [] q a = absurd a
apart_more b (c ∷ p) q a = a

module _ (n : ℕ) {A : Type 0} (item : Reader A) (F : Form A) (one : Laws n item F any) (b : ℕ) (apart : (a : A) → F.shaped a → Apart b (F.print a)) where
  -- the spelling of a list
  abbrev print : List A → List ℕ
  print = ended F.print (b ∷ [])

  -- and its depths
  abbrev depths : List A → List ℕ
  depths = ended F.depths (0 ∷ [])

  -- at most k items
  abbrev few : ℕ → List A → Type 0
  few k xs = Each F.shaped xs × (length xs ≤ k)

  -- the form of at most k items
  abbrev K : ℕ → Form (List A)
  K k = record { print = print; depths = depths; shaped = few k }

  -- no items
  abbrev nil : Unit {0} → List A
  nil x = []

  -- one item more
  abbrev cons : A × List A → List A
  cons p = p.0 ∷ p.1

  -- no items are at most none
  to_none : (xs : List A) → Of nil (λ x. Unit {0}) xs → few 0 xs
  to_none xs f = subst (few 0) f.2 (tt, omega arith)

  -- at most none are no items
  from_none : (xs : List A) → few 0 xs → Of nil (λ x. Unit {0}) xs
  from_none [] f = (tt, tt, refl)
  from_none (x ∷ xs) f = absurd (omega (arith, f.1))

  -- an item and at most k more
  abbrev Pair : ℕ → A × List A → Type 0
  Pair k p = F.shaped p.0 × few k p.1

  -- at most one more
  to_more : (k : ℕ) (xs : List A) → Of nil (λ x. Unit {0}) xs ⊎ Of cons (Pair k) xs → few (suc k) xs
  to_more k xs (inl f) = subst (few (suc k)) f.2 (tt, omega arith)
  to_more k xs (inr f) = let w : few (suc k) (cons f.0) = ((f.1.0, f.1.1.0), omega (arith, f.1.1.1)) in subst (few (suc k)) f.2 w

  -- none, or one and at most k more
  from_more : (k : ℕ) (xs : List A) → few (suc k) xs → Of nil (λ x. Unit {0}) xs ⊎ Of cons (Pair k) xs
  from_more k [] f = inl (tt, tt, refl)
  from_more k (x ∷ xs) f = inr ((x, xs), (f.0.0, (f.0.1, omega (arith, f.1))), refl)

  -- a list with an item doesn't begin with b
  cons_apart : (k : ℕ) (xs : List A) → Of cons (Pair k) xs → Apart b (print xs)
  cons_apart k xs f = let w : Apart b (print (cons f.0)) = apart_more b (F.print f.0.0) (print f.0.1) (apart f.0.0 f.1.0) in subst (λ (z : List A). Apart b (print z)) f.2 w

  -- at most k items keep the laws
  pub up_to_laws : (k : ℕ) → Laws n (up_to b item k) (K k) any
  up_to_laws zero =
      let last = made_laws n (byte_at b) (byte_form b) any (byte_laws n b) nil print depths (λ x f. refl) (λ x f. refl) in
      reshape_laws n (up_to b item zero) _ any last (few 0) any to_none from_none (λ c e. e)
  up_to_laws (suc k) =
      let both = seq_laws n item F any one (up_to b item k) (K k) any (up_to_laws k) (λ xs rest f after. any_after (print xs ++ rest)) [] (tt, omega arith) in
      let conses = made_laws n (seq item (up_to b item k)) (seq_form F (K k)) any both cons print depths (λ p f. refl) (λ p f. refl) in
      let all = choose_laws n done empty_form any (done_laws n) nil b print depths (λ x. refl) (λ x. refl) (made cons (seq item (up_to b item k))) (Of cons (Pair k)) conses (cons_apart k) tt tt in
      reshape_laws n (up_to b item (suc k)) _ any all (few (suc k)) any (to_more k) (from_more k) (λ c e. e)

  -- an item is not empty
  solid : (p : List ℕ) → Apart b p → 1 ≤ length p
  solid [] a = absurd a
  solid (c ∷ p) a = omega arith

  -- the bound doesn't matter where the text is not longer
  stable : (k m : ℕ) (bytes : List ℕ) → length bytes ≤ k → length bytes ≤ m → up_to b item k bytes ≡ up_to b item m bytes
  stable zero zero bytes p q = refl
  stable zero (suc m) [] p q = refl
  stable zero (suc m) (c ∷ bytes) p q = absurd (omega (arith, p))
  stable (suc k) zero [] p q = refl
  stable (suc k) zero (c ∷ bytes) p q = absurd (omega (arith, q))
  stable (suc k) (suc m) [] p q = refl
  stable (suc k) (suc m) (c ∷ bytes) p q =
      elim (which (eqb c b)) [
        | inl hit ↦ rw hit refl
        | inr miss ↦ elim (which_outcome (item (c ∷ bytes))) [
          | inl h ↦
              let t = one.takes (c ∷ bytes) h.0.0 h.0.1 h.1 in
              let some = solid (F.print h.0.0) (apart h.0.0 t.1) in
              let len = ap length t.0 ∙ length-append (F.print h.0.0) h.0.1 in
              let same : up_to b item k h.0.1 ≡ up_to b item m h.0.1 = stable k m h.0.1 (omega (arith, p, some, len)) (omega (arith, q, some, len)) in
              rw (miss, h.1, same) refl
          | inr h ↦ rw (miss, h.1) refl
        ]
      ]

  -- any number of items
  abbrev it : Reader (List A)
  it = many b item

  -- its form
  abbrev M : Form (List A)
  M = many_form b F

  -- with any bound that is large enough
  at_bound : (k : ℕ) (bytes : List ℕ) → length bytes ≤ k → it bytes ≡ up_to b item k bytes
  at_bound k bytes le = stable (length bytes) k bytes (omega arith) le

  -- the front of such a list
  begun : (k : ℕ) (text : List ℕ) → Begun print (few k) text → Begun print (Each F.shaped) text
  begun k text g = record { whole = g.whole; is_shaped = g.is_shaped.0; more = g.more; spelled = g.spelled }

  -- a wrong byte is wrong whatever follows
  many_stays : (bytes : List ℕ) (left : ℕ) → it bytes ≡ Err (Bad left) → (front : List ℕ) (x : ℕ) (rest : List ℕ) → bytes ≡ front ++ (x ∷ rest) → left ≡ length (x ∷ rest) → (other : List ℕ) → it (front ++ (x ∷ other)) ≡ Err (Bad (length (x ∷ other)))
  many_stays bytes left e front x rest parts place other =
      let text : List ℕ = front ++ (x ∷ other) in
      let k : ℕ = length bytes + length text in
      let wide : up_to b item k bytes ≡ Err (Bad left) = sym (at_bound k bytes (omega arith)) ∙ e in
      let g = (up_to_laws k).bad bytes left wide in
      let same = split_same g.front front g.byte x g.rest rest (sym g.parts ∙ parts) (sym g.place ∙ place) in
      let there : up_to b item k (g.front ++ (g.byte ∷ other)) ≡ Err (Bad (length (g.byte ∷ other))) = g.stays other in
      let moved : up_to b item k (front ++ (x ∷ other)) ≡ Err (Bad (length (x ∷ other))) = ap (λ (z : List ℕ). up_to b item k (z ++ (x ∷ other))) (sym same.0) ∙ ap (λ (z : ℕ). up_to b item k (g.front ++ (z ∷ other))) (sym same.1) ∙ there in
      at_bound k text (omega arith) ∙ moved

  -- any number of items keep the laws
  pub many_laws : Laws n (many b item) (many_form b F) any
  many_laws = record {
    takes = λ bytes xs rest e. let t = (up_to_laws (length bytes)).takes bytes xs rest e in (t.0, t.1.0, t.2);
    long = λ xs f e. (up_to_laws (length xs)).long xs (f, omega arith) e;
    again = λ xs rest f e after.
        let k : ℕ = length (print xs ++ rest) + length xs in
        at_bound k (print xs ++ rest) (omega arith) ∙ (up_to_laws k).again xs rest (f, omega arith) e after;
    dives = λ xs front x other f e.
        let k : ℕ = length (front ++ (x ∷ other)) + length xs in
        at_bound k (front ++ (x ∷ other)) (omega arith) ∙ (up_to_laws k).dives xs front x other (f, omega arith) e;
    holds = λ bytes xs x more other e.
        let k : ℕ = length (print xs ++ (x ∷ other)) + length bytes in
        at_bound k (print xs ++ (x ∷ other)) (omega arith) ∙ (up_to_laws k).holds bytes xs x more other (sym (at_bound k bytes (omega arith)) ∙ e);
    bad = λ bytes left e.
        let g = (up_to_laws (length bytes)).bad bytes left e in
        record { front = g.front; byte = g.byte; rest = g.rest; parts = g.parts; place = g.place; stays = many_stays bytes left e g.front g.byte g.rest g.parts g.place; begun = begun (length bytes) g.front g.begun };
    deep = λ bytes left e.
        let g = (up_to_laws (length bytes)).deep bytes left e in
        record { front = g.front; byte = g.byte; rest = g.rest; parts = g.parts; place = g.place; whole = g.whole; is_shaped = g.is_shaped.0; first = g.first };
    ending = λ bytes e. begun (length bytes) bytes ((up_to_laws (length bytes)).ending bytes e);
  }
