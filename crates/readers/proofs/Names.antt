-- A name and the byte that ends it keep the laws.
use Rattle.std.proofs.Common.{◌≡◌, ℕ, inl, inr, Bool, true, false, eqb, List, [], ◌∷◌, ◌++◌, length, Ok, Err, refl, sym, ap, subst, ◌∙◌}
use Rattle.std.proofs.lemmas.Bool.{eqb-true}
use Rattle.readers.specs.declared.stop.Stop.TheVariants.{Bad, End, Deep}
use Rattle.readers.specs.Spelling.{Begun}
use Rattle.readers.specs.Readers.{Reader, ◌>>=◌, remade}
use Rattle.readers.specs.Words.{name_at}
use Rattle.readers.proofs.Cases.{which, eqb_self, ok_parts, made_ok, made_err}
use Rattle.readers.proofs.Cuts.{any}
use Rattle.readers.proofs.Laws.{Breaks, Laws, leaf, leaf_laws}
use Rattle.readers.proofs.Many.{Each}

module _ (refused : ℕ → Bool) (e : ℕ) where
  -- a byte of a name
  abbrev pub NameByte : ℕ → Type 0
  NameByte b = (eqb b e ≡ false) × (refused b ≡ false)

  -- the name and the byte that ends it
  abbrev pub name_print : List ℕ → List ℕ
  name_print name = name ++ (e ∷ [])

  -- bytes of a name alone
  abbrev pub IsName : List ℕ → Type 0
  IsName = Each NameByte

  -- the reader
  abbrev it : Reader (List ℕ)
  it = name_at refused e

  -- no text, no end of a name
  name_end : it [] ≡ Err End
  unfolding name_at
  name_end = refl

  -- the byte that ends it
  name_stop : (b : ℕ) (rest : List ℕ) → eqb b e ≡ true → it (b ∷ rest) ≡ Ok ([], rest)
  unfolding name_at
  name_stop b rest h = rw h refl

  -- a byte that is refused
  name_bad : (b : ℕ) (rest : List ℕ) → eqb b e ≡ false → refused b ≡ true → it (b ∷ rest) ≡ Err (Bad (length (b ∷ rest)))
  unfolding name_at
  name_bad b rest h k = rw (h, k) refl

  -- a byte of the name
  name_more : (b : ℕ) (rest : List ℕ) → NameByte b → it (b ∷ rest) ≡ (it rest >>= remade (λ z. b ∷ z))
  unfolding name_at
  name_more b rest f = rw (f.0, f.1) refl

  -- the name stands there
  name_takes : (bytes name rest : List ℕ) → it bytes ≡ Ok (name, rest) → (bytes ≡ name_print name ++ rest) × IsName name
  name_takes [] name rest is = let f = sym name_end ∙ is in absurd cc
  name_takes (b ∷ bytes) name rest is =
      elim (which (eqb b e)) [
        | inl h ↦
            let p = ok_parts (it (b ∷ bytes)) (it (b ∷ bytes)) [] name bytes rest (name_stop b bytes h) is refl in
            let text : b ∷ bytes ≡ name_print [] ++ rest = ap (λ (z : ℕ). z ∷ bytes) (eqb-true b e h) ∙ ap (λ (z : List ℕ). e ∷ z) p.1 in
            (subst (λ (z : List ℕ). b ∷ bytes ≡ name_print z ++ rest) p.0 text, subst IsName p.0 tt)
        | inr h ↦ elim (which (refused b)) [
          | inl k ↦ let f = sym (name_bad b bytes h k) ∙ is in absurd cc
          | inr k ↦
              let m = made_ok (λ z. b ∷ z) (it bytes) name rest (sym (name_more b bytes (h, k)) ∙ is) in
              let t = name_takes bytes m.0 rest m.1 in
              let text : b ∷ bytes ≡ name_print (b ∷ m.0) ++ rest = ap (λ (z : List ℕ). b ∷ z) t.0 in
              (subst (λ (z : List ℕ). b ∷ bytes ≡ name_print z ++ rest) m.2 text, subst IsName m.2 ((h, k), t.1))
        ]
      ]

  -- it is read
  name_again : (name rest : List ℕ) → IsName name → it (name_print name ++ rest) ≡ Ok (name, rest)
  name_again [] rest f = name_stop e rest (eqb_self e)
  name_again (b ∷ name) rest f = name_more b (name_print name ++ rest) f.0 ∙ rw (name_again name rest f.1) refl

  -- bytes of a name begin one
  begun_so : (text : List ℕ) → IsName text → Begun name_print IsName text
  begun_so text f = record { whole = text; is_shaped = f; more = e ∷ []; spelled = refl }

  -- one byte more
  begun_more : (b : ℕ) (text : List ℕ) → NameByte b → Begun name_print IsName text → Begun name_print IsName (b ∷ text)
  begun_more b text f g = record { whole = b ∷ g.whole; is_shaped = (f, g.is_shaped); more = g.more; spelled = ap (λ (z : List ℕ). b ∷ z) g.spelled }

  -- a wrong byte
  name_breaks : (bytes : List ℕ) (left : ℕ) → it bytes ≡ Err (Bad left) → Breaks it (leaf name_print IsName) bytes left
  name_breaks [] left is = let f = sym name_end ∙ is in absurd cc
  name_breaks (b ∷ bytes) left is =
      elim (which (eqb b e)) [
        | inl h ↦ let f = sym (name_stop b bytes h) ∙ is in absurd cc
        | inr h ↦ elim (which (refused b)) [
          | inl k ↦
              let f : Err (Bad (length (b ∷ bytes))) ≡ Err (Bad left) = sym (name_bad b bytes h k) ∙ is in
              record { front = []; byte = b; rest = bytes; parts = refl; place = cc; stays = λ other. name_bad b other h k; begun = begun_so [] tt }
          | inr k ↦
              let m = name_breaks bytes left (made_err (λ z. b ∷ z) (it bytes) (Bad left) (sym (name_more b bytes (h, k)) ∙ is)) in
              record {
                front = b ∷ m.front;
                byte = m.byte;
                rest = m.rest;
                parts = ap (λ (z : List ℕ). b ∷ z) m.parts;
                place = m.place;
                stays = λ other. name_more b (m.front ++ (m.byte ∷ other)) (h, k) ∙ rw (m.stays other) refl;
                begun = begun_more b m.front (h, k) m.begun;
              }
        ]
      ]

  -- a name is never too deep
  name_never : (bytes : List ℕ) (left : ℕ) → it bytes ≡ Err (Deep left) → ⊥
  name_never [] left is = let f = sym name_end ∙ is in absurd cc
  name_never (b ∷ bytes) left is =
      elim (which (eqb b e)) [
        | inl h ↦ let f = sym (name_stop b bytes h) ∙ is in absurd cc
        | inr h ↦ elim (which (refused b)) [
          | inl k ↦ let f = sym (name_bad b bytes h k) ∙ is in absurd cc
          | inr k ↦ name_never bytes left (made_err (λ z. b ∷ z) (it bytes) (Deep left) (sym (name_more b bytes (h, k)) ∙ is))
        ]
      ]

  -- the text ends
  name_ending : (bytes : List ℕ) → it bytes ≡ Err End → Begun name_print IsName bytes
  name_ending [] is = begun_so [] tt
  name_ending (b ∷ bytes) is =
      elim (which (eqb b e)) [
        | inl h ↦ let f = sym (name_stop b bytes h) ∙ is in absurd cc
        | inr h ↦ elim (which (refused b)) [
          | inl k ↦ let f = sym (name_bad b bytes h k) ∙ is in absurd cc
          | inr k ↦ begun_more b bytes (h, k) (name_ending bytes (made_err (λ z. b ∷ z) (it bytes) End (sym (name_more b bytes (h, k)) ∙ is)))
        ]
      ]

  -- a name keeps the laws
  pub name_laws : (n : ℕ) → Laws n (name_at refused e) (leaf name_print IsName) any
  name_laws n = leaf_laws n it name_print IsName any (record {
    takes = name_takes;
    again = λ name rest f after. name_again name rest f;
    holds = λ bytes name b more other is. name_again name (b ∷ other) (name_takes bytes name (b ∷ more) is).1;
    bad = name_breaks;
    deep = name_never;
    ending = name_ending;
  })
