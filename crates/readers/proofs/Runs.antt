-- A run of bytes of one kind keeps the laws.
use Rattle.std.proofs.Common.{◌≡◌, ℕ, zero, suc, ◌≤◌, inl, inr, Bool, true, false, not, List, [], ◌∷◌, ◌++◌, length, Ok, Err, refl, sym, ap, subst, ◌∙◌, arith}
use Rattle.std.proofs.lemmas.Bool.{not-true}
use Rattle.readers.specs.declared.stop.Stop.{Stop}
use Rattle.readers.specs.declared.stop.Stop.TheVariants.{Bad, End, Deep}
use Rattle.readers.specs.Spelling.{Begun}
use Rattle.readers.specs.Readers.{◌>>=◌, remade}
use Rattle.readers.specs.Words.{run_on, run_at}
use Rattle.readers.proofs.Cases.{which, ok_parts, made_ok, made_err}
use Rattle.readers.proofs.Cuts.{After}
use Rattle.readers.proofs.Laws.{Breaks, Laws, leaf, leaf_laws}
use Rattle.readers.proofs.Many.{Each}

module _ (test : ℕ → Bool) where
  -- a byte of the kind
  abbrev pub Passes : ℕ → Type 0
  Passes b = test b ≡ true

  -- any other byte
  abbrev pub fails : ℕ → Bool
  fails b = not (test b)

  -- at most k bytes of the kind
  abbrev pub IsRun : ℕ → List ℕ → Type 0
  IsRun k ds = Each Passes ds × (length ds ≤ k)

  -- it is spelled as it is
  abbrev pub same : List ℕ → List ℕ
  same ds = ds

  -- a run that is full
  on_full : (bytes : List ℕ) → run_on test zero bytes ≡ Ok ([], bytes)
  unfolding run_on
  on_full bytes = refl

  -- the text ends
  on_end : (k : ℕ) → run_on test (suc k) [] ≡ Ok ([], [])
  unfolding run_on
  on_end k = refl

  -- another byte
  on_stop : (k b : ℕ) (rest : List ℕ) → test b ≡ false → run_on test (suc k) (b ∷ rest) ≡ Ok ([], b ∷ rest)
  unfolding run_on
  on_stop k b rest h = rw h refl

  -- one byte more
  on_more : (k b : ℕ) (rest : List ℕ) → test b ≡ true → run_on test (suc k) (b ∷ rest) ≡ (run_on test k rest >>= remade (λ z. b ∷ z))
  unfolding run_on
  on_more k b rest h = rw h refl

  -- the bytes stand there
  run_takes : (k : ℕ) (bytes ds rest : List ℕ) → run_on test k bytes ≡ Ok (ds, rest) → (bytes ≡ ds ++ rest) × IsRun k ds
  run_takes zero bytes ds rest is =
      let p = ok_parts (run_on test zero bytes) (run_on test zero bytes) [] ds bytes rest (on_full bytes) is refl in
      (subst (λ (z : List ℕ). bytes ≡ z ++ rest) p.0 p.1, subst (IsRun zero) p.0 (tt, omega arith))
  run_takes (suc k) [] ds rest is =
      let p = ok_parts (run_on test (suc k) []) (run_on test (suc k) []) [] ds [] rest (on_end k) is refl in
      (subst (λ (z : List ℕ). [] ≡ z ++ rest) p.0 p.1, subst (IsRun (suc k)) p.0 (tt, omega arith))
  run_takes (suc k) (b ∷ bytes) ds rest is =
      elim (which (test b)) [
        | inl h ↦
            let m = made_ok (λ z. b ∷ z) (run_on test k bytes) ds rest (sym (on_more k b bytes h) ∙ is) in
            let t = run_takes k bytes m.0 rest m.1 in
            let text : b ∷ bytes ≡ (b ∷ m.0) ++ rest = ap (λ (z : List ℕ). b ∷ z) t.0 in
            let long : length (b ∷ m.0) ≤ suc k = omega (arith, t.1.1) in
            (subst (λ (z : List ℕ). b ∷ bytes ≡ z ++ rest) m.2 text, subst (IsRun (suc k)) m.2 ((h, t.1.0), long))
        | inr h ↦
            let p = ok_parts (run_on test (suc k) (b ∷ bytes)) (run_on test (suc k) (b ∷ bytes)) [] ds (b ∷ bytes) rest (on_stop k b bytes h) is refl in
            (subst (λ (z : List ℕ). b ∷ bytes ≡ z ++ rest) p.0 p.1, subst (IsRun (suc k)) p.0 (tt, omega arith))
      ]

  -- they are read
  run_again : (k : ℕ) (ds rest : List ℕ) → IsRun k ds → After fails rest → run_on test k (ds ++ rest) ≡ Ok (ds, rest)
  run_again zero [] rest f after = on_full rest
  run_again zero (d ∷ ds) rest f after = absurd (omega (arith, f.1))
  run_again (suc k) [] [] f after = on_end k
  run_again (suc k) [] (b ∷ rest) f after = on_stop k b rest (not-true (test b) after)
  run_again (suc k) (d ∷ ds) rest f after = on_more k d (ds ++ rest) f.0.0 ∙ rw (run_again k ds rest (f.0.1, omega (arith, f.1)) after) refl

  -- the byte after it decides
  run_holds : (k : ℕ) (bytes ds : List ℕ) (b : ℕ) (more other : List ℕ) → run_on test k bytes ≡ Ok (ds, b ∷ more) → run_on test k (ds ++ (b ∷ other)) ≡ Ok (ds, b ∷ other)
  run_holds zero bytes ds b more other is =
      let p = ok_parts (run_on test zero bytes) (run_on test zero bytes) [] ds bytes (b ∷ more) (on_full bytes) is refl in
      subst (λ (z : List ℕ). run_on test zero (z ++ (b ∷ other)) ≡ Ok (z, b ∷ other)) p.0 (on_full (b ∷ other))
  run_holds (suc k) [] ds b more other is =
      let p = ok_parts (run_on test (suc k) []) (run_on test (suc k) []) [] ds [] (b ∷ more) (on_end k) is refl in
      let q : [] ≡ b ∷ more = p.1 in absurd cc
  run_holds (suc k) (c ∷ bytes) ds b more other is =
      elim (which (test c)) [
        | inl h ↦
            let m = made_ok (λ z. c ∷ z) (run_on test k bytes) ds (b ∷ more) (sym (on_more k c bytes h) ∙ is) in
            let there : run_on test (suc k) ((c ∷ m.0) ++ (b ∷ other)) ≡ Ok (c ∷ m.0, b ∷ other) = on_more k c (m.0 ++ (b ∷ other)) h ∙ rw (run_holds k bytes m.0 b more other m.1) refl in
            subst (λ (z : List ℕ). run_on test (suc k) (z ++ (b ∷ other)) ≡ Ok (z, b ∷ other)) m.2 there
        | inr h ↦
            let p = ok_parts (run_on test (suc k) (c ∷ bytes)) (run_on test (suc k) (c ∷ bytes)) [] ds (c ∷ bytes) (b ∷ more) (on_stop k c bytes h) is refl in
            let q : c ∷ bytes ≡ b ∷ more = p.1 in
            let heads : c ≡ b = cc in
            subst (λ (z : List ℕ). run_on test (suc k) (z ++ (b ∷ other)) ≡ Ok (z, b ∷ other)) p.0 (on_stop k b other (subst (λ (z : ℕ). test z ≡ false) heads h))
      ]

  -- more bytes are never missed
  run_fine : (k : ℕ) (bytes : List ℕ) (d : Stop) → run_on test k bytes ≡ Err d → ⊥
  run_fine zero bytes d is = let f = sym (on_full bytes) ∙ is in absurd cc
  run_fine (suc k) [] d is = let f = sym (on_end k) ∙ is in absurd cc
  run_fine (suc k) (b ∷ bytes) d is =
      elim (which (test b)) [
        | inl h ↦ run_fine k bytes d (made_err (λ z. b ∷ z) (run_on test k bytes) d (sym (on_more k b bytes h) ∙ is))
        | inr h ↦ let f = sym (on_stop k b bytes h) ∙ is in absurd cc
      ]

  module _ (k x : ℕ) (ok : test x ≡ true) where
    -- no byte, no run
    at_end : run_at test k [] ≡ Err End
    unfolding run_at
    at_end = refl

    -- another byte
    at_bad : (b : ℕ) (rest : List ℕ) → test b ≡ false → run_at test k (b ∷ rest) ≡ Err (Bad (length (b ∷ rest)))
    unfolding run_at
    at_bad b rest h = rw h refl

    -- a first byte, and more
    at_more : (b : ℕ) (rest : List ℕ) → test b ≡ true → run_at test k (b ∷ rest) ≡ (run_on test k rest >>= remade (λ z. b ∷ z))
    unfolding run_at
    at_more b rest h = rw h refl

    -- 1 to k + 1 bytes of the kind
    abbrev pub IsSome : List ℕ → Type 0
    IsSome ds = (1 ≤ length ds) × IsRun (suc k) ds

    -- the run stands there
    at_takes : (bytes ds rest : List ℕ) → run_at test k bytes ≡ Ok (ds, rest) → (bytes ≡ ds ++ rest) × IsSome ds
    at_takes [] ds rest is = let f = sym at_end ∙ is in absurd cc
    at_takes (b ∷ bytes) ds rest is =
        elim (which (test b)) [
          | inl h ↦
              let m = made_ok (λ z. b ∷ z) (run_on test k bytes) ds rest (sym (at_more b bytes h) ∙ is) in
              let t = run_takes k bytes m.0 rest m.1 in
              let text : b ∷ bytes ≡ (b ∷ m.0) ++ rest = ap (λ (z : List ℕ). b ∷ z) t.0 in
              let long : length (b ∷ m.0) ≤ suc k = omega (arith, t.1.1) in
              let some : IsSome (b ∷ m.0) = (omega arith, ((h, t.1.0), long)) in
              (subst (λ (z : List ℕ). b ∷ bytes ≡ z ++ rest) m.2 text, subst IsSome m.2 some)
          | inr h ↦ let f = sym (at_bad b bytes h) ∙ is in absurd cc
        ]

    -- it is read
    at_again : (ds rest : List ℕ) → IsSome ds → After fails rest → run_at test k (ds ++ rest) ≡ Ok (ds, rest)
    at_again [] rest f after = absurd (omega (arith, f.0))
    at_again (d ∷ ds) rest f after = at_more d (ds ++ rest) f.1.0.0 ∙ rw (run_again k ds rest (f.1.0.1, omega (arith, f.1.1)) after) refl

    -- the byte after it decides
    at_holds : (bytes ds : List ℕ) (b : ℕ) (more other : List ℕ) → run_at test k bytes ≡ Ok (ds, b ∷ more) → run_at test k (ds ++ (b ∷ other)) ≡ Ok (ds, b ∷ other)
    at_holds [] ds b more other is = let f = sym at_end ∙ is in absurd cc
    at_holds (c ∷ bytes) ds b more other is =
        elim (which (test c)) [
          | inl h ↦
              let m = made_ok (λ z. c ∷ z) (run_on test k bytes) ds (b ∷ more) (sym (at_more c bytes h) ∙ is) in
              let there : run_at test k ((c ∷ m.0) ++ (b ∷ other)) ≡ Ok (c ∷ m.0, b ∷ other) = at_more c (m.0 ++ (b ∷ other)) h ∙ rw (run_holds k bytes m.0 b more other m.1) refl in
              subst (λ (z : List ℕ). run_at test k (z ++ (b ∷ other)) ≡ Ok (z, b ∷ other)) m.2 there
          | inr h ↦ let f = sym (at_bad c bytes h) ∙ is in absurd cc
        ]

    -- the empty text begins one
    at_begun : Begun same IsSome []
    at_begun = record { whole = x ∷ []; is_shaped = (omega arith, ((ok, tt), omega arith)); more = x ∷ []; spelled = refl }

    -- a wrong byte
    at_breaks : (bytes : List ℕ) (left : ℕ) → run_at test k bytes ≡ Err (Bad left) → Breaks (run_at test k) (leaf same IsSome) bytes left
    at_breaks [] left is = let f = sym at_end ∙ is in absurd cc
    at_breaks (b ∷ bytes) left is =
        elim (which (test b)) [
          | inl h ↦ absurd (run_fine k bytes (Bad left) (made_err (λ z. b ∷ z) (run_on test k bytes) (Bad left) (sym (at_more b bytes h) ∙ is)))
          | inr h ↦
              let f : Err (Bad (length (b ∷ bytes))) ≡ Err (Bad left) = sym (at_bad b bytes h) ∙ is in
              record { front = []; byte = b; rest = bytes; parts = refl; place = cc; stays = λ other. at_bad b other h; begun = at_begun }
        ]

    -- a run is never too deep
    at_never : (bytes : List ℕ) (left : ℕ) → run_at test k bytes ≡ Err (Deep left) → ⊥
    at_never [] left is = let f = sym at_end ∙ is in absurd cc
    at_never (b ∷ bytes) left is =
        elim (which (test b)) [
          | inl h ↦ run_fine k bytes (Deep left) (made_err (λ z. b ∷ z) (run_on test k bytes) (Deep left) (sym (at_more b bytes h) ∙ is))
          | inr h ↦ let f = sym (at_bad b bytes h) ∙ is in absurd cc
        ]

    -- the text ends
    at_ending : (bytes : List ℕ) → run_at test k bytes ≡ Err End → Begun same IsSome bytes
    at_ending [] is = at_begun
    at_ending (b ∷ bytes) is =
        elim (which (test b)) [
          | inl h ↦ absurd (run_fine k bytes End (made_err (λ z. b ∷ z) (run_on test k bytes) End (sym (at_more b bytes h) ∙ is)))
          | inr h ↦ let f = sym (at_bad b bytes h) ∙ is in absurd cc
        ]

    -- a run keeps the laws
    pub run_laws : (n : ℕ) → Laws n (run_at test k) (leaf same IsSome) fails
    run_laws n = leaf_laws n (run_at test k) same IsSome fails (record {
      takes = at_takes;
      again = at_again;
      holds = at_holds;
      bad = at_breaks;
      deep = at_never;
      ending = at_ending;
    })
