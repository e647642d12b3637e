-- One reader after another keeps the laws.
use Rattle.std.proofs.Common.{◌≡◌, ℕ, inl, inr, Bool, List, [], ◌∷◌, ◌++◌, length, Ok, Err, Option, None, Some, refl, sym, ap, subst, ◌∙◌, arith, append_assoc, length-append}
use Rattle.std.proofs.lemmas.List.{append-nil}
use Rattle.std.proofs.lemmas.Option.{some_pair_parts}
use Rattle.readers.specs.declared.stop.Stop.TheVariants.{Bad, End, Deep}
use Rattle.readers.specs.Spelling.{Form, Begun, Within}
use Rattle.readers.specs.Readers.{Outcome, Reader, ◌>>=◌, seq}
use Rattle.readers.proofs.Cases.{which_option, bind_err, ok_is}
use Rattle.readers.proofs.Cuts.{After, cut, shift, cut_here, cut_past, cut_front, within_cut, within-append, same_first}
use Rattle.readers.proofs.Laws.{Breaks, Dives, Laws}

-- one spelling after another
abbrev pub seq_form : {A B : Type 0} → Form A → Form B → Form (A × B)
seq_form F G = record {
  print = λ p. F.print p.0 ++ G.print p.1;
  depths = λ p. F.depths p.0 ++ G.depths p.1;
  shaped = λ p. F.shaped p.0 × G.shaped p.1;
}

-- both values, and what is left
abbrev paired : {A B : Type 0} → A × List ℕ → B × List ℕ → Outcome (A × B)
paired x y = Ok ((x.0, y.0), y.1)

-- the second of the two was read
split_second : {A B : Type 0} (x : A × List ℕ) (v : Outcome B) (p : A × B) (rest : List ℕ) → (v >>= paired x) ≡ Ok (p, rest) → (v ≡ Ok (p.1, rest)) × (x.0 ≡ p.0)
split_second {A = A} {B = B} x (Ok y) p rest e =
    let made : (A × B) × List ℕ = ((x.0, y.0), y.1) in let q : made ≡ (p, rest) = ok_is _ _ made (p, rest) refl refl e in
    (ap (λ (z : (A × B) × List ℕ). Ok (z.0.1, z.1)) q, ap (λ (z : (A × B) × List ℕ). z.0.0) q)
split_second x (Err d) p rest e = absurd cc

-- both were read
split_ok : {A B : Type 0} (r : Outcome A) (s : List ℕ → Outcome B) (p : A × B) (rest : List ℕ) → (r >>= λ x. s x.1 >>= paired x) ≡ Ok (p, rest) → (mid : List ℕ) × (r ≡ Ok (p.0, mid)) × (s mid ≡ Ok (p.1, rest))
split_ok {A = A} (Ok x) s p rest e =
    let h = split_second x (s x.1) p rest e in
    (x.1, ap (λ (a : A). Ok (a, x.1)) h.1, h.0)
split_ok (Err d) s p rest e = absurd cc

-- a cut of both is a cut of the second
shift_some : (p : List ℕ) (o : Option (List ℕ × ℕ)) (f : List ℕ) (b : ℕ) → shift p o ≡ Some (f, b) → (g : List ℕ) × (o ≡ Some (g, b)) × (f ≡ p ++ g)
shift_some p None f b e = absurd cc
shift_some p (Some x) f b e =
    let k = some_pair_parts (p ++ x.0) f x.1 b e in
    (x.0, ap (λ (z : ℕ). Some (x.0, z)) k.1, sym k.0)

-- no cut of both is no cut of the second
shift_none : (p : List ℕ) (o : Option (List ℕ × ℕ)) → shift p o ≡ None → o ≡ None
shift_none p None e = refl
shift_none p (Some x) e = absurd cc

module _ (n : ℕ) {A B : Type 0} (r : Reader A) (F : Form A) (follows : ℕ → Bool) (one : Laws n r F follows)
    (s : Reader B) (G : Form B) (follows' : ℕ → Bool) (two : Laws n s G follows')
    (starts : (b : B) (rest : List ℕ) → G.shaped b → After follows' rest → After follows (G.print b ++ rest))
    (b₀ : B) (shaped₀ : G.shaped b₀) where
  -- both
  abbrev H : Form (A × B)
  H = seq_form F G

  -- the cut of the first
  abbrev cut_one : A → Option (List ℕ × ℕ)
  cut_one a = cut n (F.print a) (F.depths a)

  -- the cut of the second
  abbrev cut_two : B → Option (List ℕ × ℕ)
  cut_two b = cut n (G.print b) (G.depths b)

  -- what is read first doesn't hang on what follows the next byte
  holds_on : (bytes : List ℕ) (a : A) (w : List ℕ) (b : ℕ) (more other : List ℕ) → r bytes ≡ Ok (a, w ++ (b ∷ more)) → r (F.print a ++ (w ++ (b ∷ other))) ≡ Ok (a, w ++ (b ∷ other))
  holds_on bytes a [] b more other e = one.holds bytes a b more other e
  holds_on bytes a (c ∷ w) b more other e = one.holds bytes a c (w ++ (b ∷ more)) (w ++ (b ∷ other)) e

  -- both spellings stand there
  seq_takes : (bytes : List ℕ) (p : A × B) (rest : List ℕ) → seq r s bytes ≡ Ok (p, rest) → (bytes ≡ H.print p ++ rest) × H.shaped p × Within n (H.depths p)
  seq_takes bytes p rest e =
      let h = split_ok (r bytes) s p rest e in
      let t = one.takes bytes p.0 h.0 h.1 in
      let u = two.takes h.0 p.1 rest h.2 in
      (t.0 ∙ ap (λ (z : List ℕ). F.print p.0 ++ z) u.0 ∙ sym (append_assoc (F.print p.0) (G.print p.1) rest), (t.1, u.1), within-append n (F.depths p.0) (G.depths p.1) t.2 u.2)

  -- a pair within the depth has both parts within it
  cut_parts : (p : A × B) → H.shaped p → cut n (H.print p) (H.depths p) ≡ None → (cut_one p.0 ≡ None) × (cut_two p.1 ≡ None)
  cut_parts p f e =
      elim (which_option (cut_one p.0)) [
        | inl h ↦
            let l = one.long p.0 f.0 h in
            let g : shift (F.print p.0) (cut_two p.1) ≡ None = sym (cut_past n (F.print p.0) (F.depths p.0) (G.print p.1) (G.depths p.1) h l) ∙ e in
            (h, shift_none (F.print p.0) (cut_two p.1) g)
        | inr h ↦
            let g : Some h.0 ≡ None = sym (cut_here n (F.print p.0) (F.depths p.0) h.0 (G.print p.1) (G.depths p.1) h.1) ∙ e in absurd cc
      ]

  -- a depth for each byte of both
  seq_long : (p : A × B) → H.shaped p → cut n (H.print p) (H.depths p) ≡ None → length (H.depths p) ≡ length (H.print p)
  seq_long p f e =
      let c = cut_parts p f e in
      let l = one.long p.0 f.0 c.0 in
      let m = two.long p.1 f.1 c.1 in
      omega (arith, l, m, length-append (F.depths p.0) (G.depths p.1), length-append (F.print p.0) (G.print p.1))

  -- both spellings are read
  seq_again : (p : A × B) (rest : List ℕ) → H.shaped p → cut n (H.print p) (H.depths p) ≡ None → After follows' rest → seq r s (H.print p ++ rest) ≡ Ok (p, rest)
  seq_again p rest f e after =
      let c = cut_parts p f e in
      let one_is = one.again p.0 (G.print p.1 ++ rest) f.0 c.0 (starts p.1 rest f.1 after) in
      let two_is = two.again p.1 rest f.1 c.1 after in
      ap (seq r s) (append_assoc (F.print p.0) (G.print p.1) rest) ∙ rw (one_is, two_is) refl

  -- the first node that is too deep, in the first or in the second
  seq_dives : (p : A × B) (front : List ℕ) (b : ℕ) (other : List ℕ) → H.shaped p → cut n (H.print p) (H.depths p) ≡ Some (front, b) → seq r s (front ++ (b ∷ other)) ≡ Err (Deep (length (b ∷ other)))
  seq_dives p front b other f e =
      elim (which_option (cut_one p.0)) [
        | inl h ↦
            let l = one.long p.0 f.0 h in
            let g : shift (F.print p.0) (cut_two p.1) ≡ Some (front, b) = sym (cut_past n (F.print p.0) (F.depths p.0) (G.print p.1) (G.depths p.1) h l) ∙ e in
            let k = shift_some (F.print p.0) (cut_two p.1) front b g in
            let w = cut_front n (G.print p.1) (G.depths p.1) k.0 b k.1 in
            let here : After follows (G.print p.1 ++ []) = starts p.1 [] f.1 tt in
            let at : After follows (k.0 ++ (b ∷ w.0)) = subst (λ (z : List ℕ). After follows z) (append-nil (G.print p.1) ∙ w.1) here in
            let one_is : r (F.print p.0 ++ (k.0 ++ (b ∷ other))) ≡ Ok (p.0, k.0 ++ (b ∷ other)) = one.again p.0 (k.0 ++ (b ∷ other)) f.0 h (same_first follows k.0 b w.0 other at) in
            let two_is : s (k.0 ++ (b ∷ other)) ≡ Err (Deep (length (b ∷ other))) = two.dives p.1 k.0 b other f.1 k.1 in
            let text : front ++ (b ∷ other) ≡ F.print p.0 ++ (k.0 ++ (b ∷ other)) = ap (λ (z : List ℕ). z ++ (b ∷ other)) k.2 ∙ append_assoc (F.print p.0) k.0 (b ∷ other) in
            ap (seq r s) text ∙ rw (one_is, two_is) refl
        | inr h ↦
            let g : Some h.0 ≡ Some (front, b) = sym (cut_here n (F.print p.0) (F.depths p.0) h.0 (G.print p.1) (G.depths p.1) h.1) ∙ e in
            let one_is : r (front ++ (b ∷ other)) ≡ Err (Deep (length (b ∷ other))) = one.dives p.0 front b other f.0 (h.1 ∙ g) in
            rw one_is refl
      ]

  -- the byte after both decides
  seq_holds : (bytes : List ℕ) (p : A × B) (b : ℕ) (more other : List ℕ) → seq r s bytes ≡ Ok (p, b ∷ more) → seq r s (H.print p ++ (b ∷ other)) ≡ Ok (p, b ∷ other)
  seq_holds bytes p c more other e =
      let h = split_ok (r bytes) s p (c ∷ more) e in
      let u = two.takes h.0 p.1 (c ∷ more) h.2 in
      let one_is : r bytes ≡ Ok (p.0, G.print p.1 ++ (c ∷ more)) = h.1 ∙ ap (λ (z : List ℕ). Ok (p.0, z)) u.0 in
      ap (seq r s) (append_assoc (F.print p.0) (G.print p.1) (c ∷ other))
      ∙ rw (holds_on bytes p.0 (G.print p.1) c more other one_is, two.holds h.0 p.1 c more other h.2) refl

  -- the front of the first is the front of both
  begun_one : (text : List ℕ) → Begun F.print F.shaped text → Begun H.print H.shaped text
  begun_one text g = record {
    whole = (g.whole, b₀);
    is_shaped = (g.is_shaped, shaped₀);
    more = g.more ++ G.print b₀;
    spelled = ap (λ (z : List ℕ). z ++ G.print b₀) g.spelled ∙ append_assoc text g.more (G.print b₀);
  }

  -- the first, and a front of the second
  begun_two : (a : A) (text : List ℕ) → F.shaped a → Begun G.print G.shaped text → Begun H.print H.shaped (F.print a ++ text)
  begun_two a text fa g = record {
    whole = (a, g.whole);
    is_shaped = (fa, g.is_shaped);
    more = g.more;
    spelled = ap (λ (z : List ℕ). F.print a ++ z) g.spelled ∙ sym (append_assoc (F.print a) text g.more);
  }

  -- a wrong byte in the first
  breaks_one : (bytes : List ℕ) (left : ℕ) → Breaks r F bytes left → Breaks (seq r s) H bytes left
  breaks_one bytes left k = record {
    front = k.front;
    byte = k.byte;
    rest = k.rest;
    parts = k.parts;
    place = k.place;
    stays = λ other. rw (k.stays other) refl;
    begun = begun_one k.front k.begun;
  }

  -- a wrong byte in the second
  breaks_two : (bytes : List ℕ) (left : ℕ) (x : A × List ℕ) → r bytes ≡ Ok x → Breaks s G x.1 left → Breaks (seq r s) H bytes left
  breaks_two bytes left x is k =
      let t = one.takes bytes x.0 x.1 is in
      let one_is : r bytes ≡ Ok (x.0, k.front ++ (k.byte ∷ k.rest)) = is ∙ ap (λ (z : List ℕ). Ok (x.0, z)) k.parts in
      record {
        front = F.print x.0 ++ k.front;
        byte = k.byte;
        rest = k.rest;
        parts = t.0 ∙ ap (λ (z : List ℕ). F.print x.0 ++ z) k.parts ∙ sym (append_assoc (F.print x.0) k.front (k.byte ∷ k.rest));
        place = k.place;
        stays = λ other. ap (seq r s) (append_assoc (F.print x.0) k.front (k.byte ∷ other)) ∙ rw (holds_on bytes x.0 k.front k.byte k.rest other one_is, k.stays other) refl;
        begun = begun_two x.0 k.front t.1 k.begun;
      }

  -- a wrong byte in either
  seq_bad : (bytes : List ℕ) (left : ℕ) → seq r s bytes ≡ Err (Bad left) → Breaks (seq r s) H bytes left
  seq_bad bytes left e =
      elim (bind_err (r bytes) (λ x. s x.1 >>= paired x) (Bad left) e) [
        | inl h ↦ breaks_one bytes left (one.bad bytes left h)
        | inr h ↦ elim (bind_err (s h.0.1) (paired h.0) (Bad left) h.2) [
          | inl k ↦ breaks_two bytes left h.0 h.1 (two.bad h.0.1 left k)
          | inr k ↦ absurd cc
        ]
      ]

  -- too deep in the first
  dives_one : (bytes : List ℕ) (left : ℕ) → Dives n F bytes left → Dives n H bytes left
  dives_one bytes left k = record {
    front = k.front;
    byte = k.byte;
    rest = k.rest;
    parts = k.parts;
    place = k.place;
    whole = (k.whole, b₀);
    is_shaped = (k.is_shaped, shaped₀);
    first = cut_here n (F.print k.whole) (F.depths k.whole) (k.front, k.byte) (G.print b₀) (G.depths b₀) k.first;
  }

  -- too deep in the second
  dives_two : (bytes : List ℕ) (left : ℕ) (x : A × List ℕ) → r bytes ≡ Ok x → Dives n G x.1 left → Dives n H bytes left
  dives_two bytes left x is k =
      let t = one.takes bytes x.0 x.1 is in
      let none = within_cut n (F.print x.0) (F.depths x.0) t.2 in
      let l = one.long x.0 t.1 none in
      record {
        front = F.print x.0 ++ k.front;
        byte = k.byte;
        rest = k.rest;
        parts = t.0 ∙ ap (λ (z : List ℕ). F.print x.0 ++ z) k.parts ∙ sym (append_assoc (F.print x.0) k.front (k.byte ∷ k.rest));
        place = k.place;
        whole = (x.0, k.whole);
        is_shaped = (t.1, k.is_shaped);
        first = cut_past n (F.print x.0) (F.depths x.0) (G.print k.whole) (G.depths k.whole) none l ∙ ap (shift (F.print x.0)) k.first;
      }

  -- too deep in either
  seq_deep : (bytes : List ℕ) (left : ℕ) → seq r s bytes ≡ Err (Deep left) → Dives n H bytes left
  seq_deep bytes left e =
      elim (bind_err (r bytes) (λ x. s x.1 >>= paired x) (Deep left) e) [
        | inl h ↦ dives_one bytes left (one.deep bytes left h)
        | inr h ↦ elim (bind_err (s h.0.1) (paired h.0) (Deep left) h.2) [
          | inl k ↦ dives_two bytes left h.0 h.1 (two.deep h.0.1 left k)
          | inr k ↦ absurd cc
        ]
      ]

  -- the text ends in either
  seq_ending : (bytes : List ℕ) → seq r s bytes ≡ Err End → Begun H.print H.shaped bytes
  seq_ending bytes e =
      elim (bind_err (r bytes) (λ x. s x.1 >>= paired x) End e) [
        | inl h ↦ begun_one bytes (one.ending bytes h)
        | inr h ↦ elim (bind_err (s h.0.1) (paired h.0) End h.2) [
          | inl k ↦ let t = one.takes bytes h.0.0 h.0.1 h.1 in rw t.0 (begun_two h.0.0 h.0.1 t.1 (two.ending h.0.1 k))
          | inr k ↦ absurd cc
        ]
      ]

  -- one reader after another keeps the laws
  pub seq_laws : Laws n (seq r s) (seq_form F G) follows'
  seq_laws = record {
    takes = seq_takes;
    long = seq_long;
    again = seq_again;
    dives = seq_dives;
    holds = seq_holds;
    bad = seq_bad;
    deep = seq_deep;
    ending = seq_ending;
  }
