-- A decimal number up to a limit keeps the laws, against the digits of std's `decimal`.
use Rattle.std.proofs.Common.{◌≡◌, ℕ, zero, suc, ◌+◌, ◌-◌, ◌*◌, ◌/◌, ◌%◌, ◌^◌, ◌≤◌, ◌<◌, inl, inr, Bool, true, false, not, eqb, List, [], ◌∷◌, ◌++◌, length, Ok, Err, refl, sym, ap, subst, ◌∙◌, arith, append_assoc}
use Rattle.std.specs.Prelude.{decimal, nat_le, ◌&&◌}
use Rattle.std.proofs.lemmas.Bool.{le-leb, leb-true, eqb-true, ne_eqb, false≢true, not-true}
use Rattle.std.proofs.lemmas.Fmt.{decimal_digit, decimal_step, decimal_by_steps}
use Rattle.readers.specs.declared.stop.Stop.TheVariants.{Bad, End, Deep}
use Rattle.readers.specs.Spelling.{Begun, tail}
use Rattle.readers.specs.Readers.{Outcome}
use Rattle.readers.specs.Words.{is_digit, digits_on, number_at}
use Rattle.readers.proofs.Cases.{which, ok_is}
use Rattle.readers.proofs.Cuts.{After}
use Rattle.readers.proofs.Laws.{Breaks, Laws, leaf, leaf_laws}

-- any byte but a digit
abbrev pub no_digit : ℕ → Bool
no_digit b = not (is_digit b)

-- b goes on a number v within the limit
abbrev goes_on : ℕ → ℕ → ℕ → Bool
goes_on limit v b = is_digit b && nat_le (10 * v + (b - 48)) limit

-- both tests hold
both_true : (x y : Bool) → (x && y) ≡ true → (x ≡ true) × (y ≡ true)
both_true true y e = (refl, e)
both_true false y e = absurd cc

-- both hold together
both_are : (x y : Bool) → x ≡ true → y ≡ true → (x && y) ≡ true
both_are x y p q = rw (p, q) refl

-- each digit is one
pub is_digit_of : (d : ℕ) → d < 10 → is_digit (48 + d) ≡ true
is_digit_of d lt = both_are (nat_le 48 (48 + d)) (nat_le (48 + d) 57) (le-leb 48 (48 + d) (omega arith)) (le-leb (48 + d) 57 (omega arith))

-- a digit is from `0` to `9`
pub digit_is : (b : ℕ) → is_digit b ≡ true → (48 ≤ b) × (b ≤ 57)
digit_is b e = let t = both_true (nat_le 48 b) (nat_le b 57) e in (leb-true 48 b t.0, leb-true b 57 t.1)

-- a number with one digit more
one_more : (v d : ℕ) → 1 ≤ v → d < 10 → 10 * v + d < 2 ^ 64 → decimal (10 * v + d) ≡ decimal v ++ ((48 + d) ∷ [])
one_more v d pos lt small =
    let by : (10 * v + d) / 10 ≡ v = omega arith in
    let rest : (10 * v + d) % 10 ≡ d = omega arith in
    decimal_step (10 * v + d) (omega arith) small ∙ rw (by, rest) refl

module _ (limit : ℕ) (nine : 9 ≤ limit) (small : limit < 2 ^ 64) where
  -- the digits taken are the digits of the number
  on_takes : (v : ℕ) (bytes : List ℕ) → 1 ≤ v → v ≤ limit → (decimal v ++ bytes ≡ decimal (digits_on limit v bytes).0 ++ (digits_on limit v bytes).1) × ((digits_on limit v bytes).0 ≤ limit)
  unfolding digits_on
  on_takes v [] pos le = (refl, le)
  on_takes v (b ∷ bytes) pos le =
      elim (which (goes_on limit v b)) [
        | inl h ↦
            let t = both_true (is_digit b) (nat_le (10 * v + (b - 48)) limit) h in
            let range = digit_is b t.0 in
            let fits : 10 * v + (b - 48) ≤ limit = leb-true _ limit t.1 in
            let digit : 48 + (b - 48) ≡ b = omega arith in
            let one : decimal (10 * v + (b - 48)) ≡ decimal v ++ (b ∷ []) = one_more v (b - 48) pos (omega arith) (omega arith) ∙ ap (λ (z : ℕ). decimal v ++ (z ∷ [])) digit in
            let rest = on_takes (10 * v + (b - 48)) bytes (omega arith) fits in
            let text : decimal v ++ (b ∷ bytes) ≡ decimal (10 * v + (b - 48)) ++ bytes = sym (ap (λ (z : List ℕ). z ++ bytes) one ∙ append_assoc (decimal v) (b ∷ []) bytes) in
            rw h (text ∙ rest.0, rest.1)
        | inr h ↦ rw h (refl, le)
      ]

  -- a number never shrinks
  on_grows : (v : ℕ) (bytes : List ℕ) → v ≤ (digits_on limit v bytes).0
  unfolding digits_on
  on_grows v [] = omega arith
  on_grows v (b ∷ bytes) =
      elim (which (goes_on limit v b)) [
        | inl h ↦ rw h (omega (arith, on_grows (10 * v + (b - 48)) bytes))
        | inr h ↦ rw h (omega arith)
      ]

  -- where it stops, it would stop whatever follows
  on_stops : (v : ℕ) (bytes : List ℕ) (b : ℕ) (more : List ℕ) → (digits_on limit v bytes).1 ≡ b ∷ more → goes_on limit (digits_on limit v bytes).0 b ≡ false
  unfolding digits_on
  on_stops v [] b more e = absurd cc
  on_stops v (c ∷ bytes) b more e =
      elim (which (goes_on limit v c)) [
        | inl h ↦ rw h (on_stops (10 * v + (c - 48)) bytes b more (rw h at e))
        | inr h ↦ let f : c ∷ bytes ≡ b ∷ more = rw h at e in let same : c ≡ b = cc in rw h (subst (λ (z : ℕ). goes_on limit v z ≡ false) same h)
      ]

  -- another byte stops it
  stopped : (v b : ℕ) (more : List ℕ) → goes_on limit v b ≡ false → digits_on limit v (b ∷ more) ≡ (v, b ∷ more)
  unfolding digits_on
  stopped v b more h = rw h refl

  -- and so does the end
  stopped_end : (v : ℕ) → digits_on limit v [] ≡ (v, [])
  unfolding digits_on
  stopped_end v = refl

  -- a digit goes on
  went_on : (v b : ℕ) (more : List ℕ) → goes_on limit v b ≡ true → digits_on limit v (b ∷ more) ≡ digits_on limit (10 * v + (b - 48)) more
  unfolding digits_on
  went_on v b more h = rw h refl

  -- a number that begins with another digit than `0`
  first_digit : (b : ℕ) (more : List ℕ) → eqb b 48 ≡ false → is_digit b ≡ true → number_at limit (b ∷ more) ≡ Ok (digits_on limit (b - 48) more)
  unfolding number_at
  first_digit b more h k = rw (h, k) refl

  -- `0` is a number
  zero_first : (more : List ℕ) → number_at limit (48 ∷ more) ≡ Ok (0, more)
  unfolding number_at
  zero_first more = refl

  -- the digits of n are read, and then what follows
  abbrev Reads : ℕ → List ℕ → Type 0
  Reads n ds = 1 ≤ n → n ≤ limit → (tail : List ℕ) → number_at limit (ds ++ tail) ≡ Ok (digits_on limit n tail)

  -- so it is for each number
  reads : (n : ℕ) → n < 2 ^ 64 → Reads n (decimal n)
  reads = decimal_by_steps Reads one more
    where
      one : (n : ℕ) → n < 10 → Reads n ((48 + n) ∷ [])
      one n lt pos le tail =
          let e : 48 + n - 48 ≡ n = omega arith in
          first_digit (48 + n) tail (ne_eqb (48 + n) 48 (λ h. absurd (omega (arith, h)))) (is_digit_of n lt) ∙ ap (λ (z : ℕ). Ok (digits_on limit z tail)) e

      more : (n : ℕ) (ds : List ℕ) → 10 ≤ n → Reads (n / 10) ds → Reads n (ds ++ ((48 + n % 10) ∷ []))
      more n ds big front pos le tail =
          let value : 10 * (n / 10) + (48 + n % 10 - 48) ≡ n = omega arith in
          let on : goes_on limit (n / 10) (48 + n % 10) ≡ true = both_are (is_digit (48 + n % 10)) (nat_le (10 * (n / 10) + (48 + n % 10 - 48)) limit) (is_digit_of (n % 10) (omega arith)) (le-leb _ limit (omega arith)) in
          ap (number_at limit) (append_assoc ds ((48 + n % 10) ∷ []) tail)
          ∙ front (omega arith) (omega arith) ((48 + n % 10) ∷ tail)
          ∙ ap (λ (z : ℕ × List ℕ). Ok z) (went_on (n / 10) (48 + n % 10) tail on ∙ ap (λ (z : ℕ). digits_on limit z tail) value)

  -- two ways to say what was read
  parts : (v : Outcome ℕ) (x : ℕ × List ℕ) (a : ℕ) (rest : List ℕ) → v ≡ Ok x → v ≡ Ok (a, rest) → (x.0 ≡ a) × (x.1 ≡ rest)
  parts v x a rest e f =
      let pair : ℕ × List ℕ = (a, rest) in
      let p : x ≡ pair = ok_is v v x pair e f refl in
      (ap (λ (z : ℕ × List ℕ). z.0) p, ap (λ (z : ℕ × List ℕ). z.1) p)

  -- another byte begins no number
  not_digit : (b : ℕ) (more : List ℕ) → eqb b 48 ≡ false → is_digit b ≡ false → number_at limit (b ∷ more) ≡ Err (Bad (length (b ∷ more)))
  unfolding number_at
  not_digit b more h k = rw (h, k) refl

  -- no number is empty
  empty_ends : number_at limit [] ≡ Err End
  unfolding number_at
  empty_ends = refl

  -- `0` is read as zero
  is_zero : (b : ℕ) (more : List ℕ) → eqb b 48 ≡ true → number_at limit (b ∷ more) ≡ Ok (0, more)
  unfolding number_at
  is_zero b more h = rw h refl

  -- the value of the first digit
  first_value : (b : ℕ) → eqb b 48 ≡ false → is_digit b ≡ true → (1 ≤ b - 48) × (b - 48 ≤ limit) × (decimal (b - 48) ≡ b ∷ [])
  first_value b h k =
      let range = digit_is b k in
      let other : b ≡ 48 → ⊥ = λ e. false≢true (sym h ∙ subst (λ (z : ℕ). eqb z 48 ≡ true) (sym e) refl) in
      let back : 48 + (b - 48) ≡ b = omega arith in
      (omega (arith, other), omega arith, decimal_digit (b - 48) (omega arith) ∙ ap (λ (z : ℕ). z ∷ []) back)

  -- what is read is the decimal spelling
  takes : (bytes : List ℕ) (a : ℕ) (rest : List ℕ) → number_at limit bytes ≡ Ok (a, rest) → (bytes ≡ decimal a ++ rest) × (a ≤ limit)
  takes [] a rest e = let f = sym empty_ends ∙ e in absurd cc
  takes (b ∷ bytes) a rest e =
      elim (which (eqb b 48)) [
        | inl h ↦
            let p = parts (number_at limit (b ∷ bytes)) (0, bytes) a rest (is_zero b bytes h) e in
            let text : b ∷ bytes ≡ decimal 0 ++ bytes = ap (λ (z : ℕ). z ∷ bytes) (eqb-true b 48 h) ∙ ap (λ (z : List ℕ). z ++ bytes) (sym (decimal_digit 0 (omega arith))) in
            (text ∙ ap (λ (z : ℕ). decimal z ++ bytes) p.0 ∙ ap (λ (z : List ℕ). decimal a ++ z) p.1, omega (arith, p.0))
        | inr h ↦ elim (which (is_digit b)) [
          | inl k ↦
              let p = parts (number_at limit (b ∷ bytes)) (digits_on limit (b - 48) bytes) a rest (first_digit b bytes h k) e in
              let v = first_value b h k in
              let t = on_takes (b - 48) bytes v.0 v.1 in
              let text : b ∷ bytes ≡ decimal (b - 48) ++ bytes = ap (λ (z : List ℕ). z ++ bytes) (sym v.2) in
              (text ∙ t.0 ∙ ap (λ (z : ℕ). decimal z ++ (digits_on limit (b - 48) bytes).1) p.0 ∙ ap (λ (z : List ℕ). decimal a ++ z) p.1, omega (arith, p.0, t.1))
          | inr k ↦ let f = sym (not_digit b bytes h k) ∙ e in absurd cc
        ]
      ]

  -- the decimal spelling is read
  again : (a : ℕ) (rest : List ℕ) → a ≤ limit → After no_digit rest → number_at limit (decimal a ++ rest) ≡ Ok (a, rest)
  again zero rest le after = ap (λ (z : List ℕ). number_at limit (z ++ rest)) (decimal_digit 0 (omega arith)) ∙ zero_first rest
  again (suc a) [] le after = reads (suc a) (omega arith) (omega arith) le [] ∙ ap (λ (z : ℕ × List ℕ). Ok z) (stopped_end (suc a))
  again (suc a) (b ∷ rest) le after =
      let stops : goes_on limit (suc a) b ≡ false = rw (not-true (is_digit b) after) refl in
      reads (suc a) (omega arith) (omega arith) le (b ∷ rest) ∙ ap (λ (z : ℕ × List ℕ). Ok z) (stopped (suc a) b rest stops)

  -- the byte after it decides
  holds : (bytes : List ℕ) (a b : ℕ) (more other : List ℕ) → number_at limit bytes ≡ Ok (a, b ∷ more) → number_at limit (decimal a ++ (b ∷ other)) ≡ Ok (a, b ∷ other)
  holds [] a b more other e = let f = sym empty_ends ∙ e in absurd cc
  holds (c ∷ bytes) a b more other e =
      elim (which (eqb c 48)) [
        | inl h ↦
            let p = parts (number_at limit (c ∷ bytes)) (0, bytes) a (b ∷ more) (is_zero c bytes h) e in
            let text : decimal a ++ (b ∷ other) ≡ 48 ∷ b ∷ other = ap (λ (z : ℕ). decimal z ++ (b ∷ other)) (sym p.0) ∙ ap (λ (z : List ℕ). z ++ (b ∷ other)) (decimal_digit 0 (omega arith)) in
            ap (number_at limit) text ∙ zero_first (b ∷ other) ∙ ap (λ (z : ℕ). Ok (z, b ∷ other)) p.0
        | inr h ↦ elim (which (is_digit c)) [
          | inl k ↦
              let p = parts (number_at limit (c ∷ bytes)) (digits_on limit (c - 48) bytes) a (b ∷ more) (first_digit c bytes h k) e in
              let v = first_value c h k in
              let t = on_takes (c - 48) bytes v.0 v.1 in
              let stops : goes_on limit a b ≡ false = subst (λ (z : ℕ). goes_on limit z b ≡ false) p.0 (on_stops (c - 48) bytes b more p.1) in
              let grown = on_grows (c - 48) bytes in
              reads a (omega (arith, p.0, t.1)) (omega (arith, p.0, v.0, grown)) (omega (arith, p.0, t.1)) (b ∷ other) ∙ ap (λ (z : ℕ × List ℕ). Ok z) (stopped a b other stops)
          | inr k ↦ let f = sym (not_digit c bytes h k) ∙ e in absurd cc
        ]
      ]

  -- a wrong byte
  bad : (bytes : List ℕ) (left : ℕ) → number_at limit bytes ≡ Err (Bad left) → Breaks (number_at limit) (leaf decimal (λ k. k ≤ limit)) bytes left
  bad [] left e = let f = sym empty_ends ∙ e in absurd cc
  bad (b ∷ bytes) left e =
      elim (which (eqb b 48)) [
        | inl h ↦ let f = sym (is_zero b bytes h) ∙ e in absurd cc
        | inr h ↦ elim (which (is_digit b)) [
          | inl k ↦ let f = sym (first_digit b bytes h k) ∙ e in absurd cc
          | inr k ↦
              let f : Err (Bad (length (b ∷ bytes))) ≡ Err (Bad left) = sym (not_digit b bytes h k) ∙ e in
              record {
                front = [];
                byte = b;
                rest = bytes;
                parts = refl;
                place = cc;
                stays = λ other. not_digit b other h k;
                begun = record { whole = 0; is_shaped = omega arith; more = decimal 0; spelled = refl };
              }
        ]
      ]

  -- the text ends
  ending : (bytes : List ℕ) → number_at limit bytes ≡ Err End → Begun decimal (λ k. k ≤ limit) bytes
  ending [] e = record { whole = 0; is_shaped = omega arith; more = decimal 0; spelled = refl }
  ending (b ∷ bytes) e =
      elim (which (eqb b 48)) [
        | inl h ↦ let f = sym (is_zero b bytes h) ∙ e in absurd cc
        | inr h ↦ elim (which (is_digit b)) [
          | inl k ↦ let f = sym (first_digit b bytes h k) ∙ e in absurd cc
          | inr k ↦ let f = sym (not_digit b bytes h k) ∙ e in absurd cc
        ]
      ]

  -- a number is never too deep
  never_deep : (bytes : List ℕ) (left : ℕ) → number_at limit bytes ≡ Err (Deep left) → ⊥
  never_deep [] left e = let f = sym empty_ends ∙ e in absurd cc
  never_deep (b ∷ bytes) left e =
      elim (which (eqb b 48)) [
        | inl h ↦ let f = sym (is_zero b bytes h) ∙ e in absurd cc
        | inr h ↦ elim (which (is_digit b)) [
          | inl k ↦ let f = sym (first_digit b bytes h k) ∙ e in absurd cc
          | inr k ↦ let f = sym (not_digit b bytes h k) ∙ e in absurd cc
        ]
      ]

  -- a number up to the limit keeps the laws
  pub number_laws : (n : ℕ) → Laws n (number_at limit) (leaf decimal (λ k. k ≤ limit)) no_digit
  number_laws n = leaf_laws n (number_at limit) decimal (λ k. k ≤ limit) no_digit (record {
    takes = takes;
    again = again;
    holds = holds;
    bad = bad;
    deep = never_deep;
    ending = ending;
  })
