-- One turn of a loop over items, over the bytes of a name, or over digits.
use Rattle.std.proofs.Common.{◌≡◌, ◌≢◌, ℕ, zero, suc, ◌+◌, ◌-◌, ◌≤◌, ◌<◌, Bool, true, false, eqb, List, [], ◌∷◌, ◌++◌, length, take, drop, get_or, Ok, Err, refl, sym, ap, ◌∙◌, arith, append_assoc}
use Rattle.std.proofs.lemmas.Bool.{ne_eqb, eq-eqb}
use Rattle.std.proofs.lemmas.List.{append-nil, take_all, drop_all, drop_more, take_more, length-drop}
use Rattle.readers.specs.declared.stop.Stop.{Stop}
use Rattle.readers.specs.Spelling.{none}
use Rattle.readers.specs.Readers.{Outcome, Reader, ◌>>=◌, remade, Fails, up_to, with_front}
use Rattle.readers.specs.Words.{name_at, run_on}
use Rattle.readers.specs.declared.stop.Refusal.{Refusal}
use Rattle.readers.specs.declared.stop.Refusal.TheVariants as refusal

-- one more
suc_of : (n m : ℕ) → n ≡ m + 1 → n ≡ suc m
suc_of n m e = omega arith

module _ {A : Type 0} where
  -- an item goes from the rest to the front
  front_cons : (found : List A) (f : A) (v : Outcome (List A)) → with_front found (v >>= remade (λ xs. f ∷ xs)) ≡ with_front (found ++ f ∷ []) v
  front_cons found f (Ok x) = ap (λ (z : List A). Ok (z, x.1)) (sym (append_assoc found (f ∷ []) x.0))
  front_cons found f (Err d) = refl

  -- one item more
  abbrev cons : A × List A → List A
  cons p = p.0 ∷ p.1

  -- an item, and what follows
  abbrev paired : A → List A × List ℕ → Outcome (A × List A)
  paired f y = Ok ((f, y.0), y.1)

  -- an item before what follows
  pair_cons : (f : A) (v : Outcome (List A)) → (v >>= paired f >>= remade cons) ≡ (v >>= remade (λ xs. f ∷ xs))
  pair_cons f (Ok x) = refl
  pair_cons f (Err d) = refl

  -- the byte after the items
  pub up_to_stop : (b : ℕ) (item : Reader A) (n m : ℕ) (found : List A) (bytes : List ℕ)
      → n ≡ m + 1 → 1 ≤ length bytes → get_or bytes 0 0 ≡ b → with_front found (up_to b item n bytes) ≡ Ok (found, take (length bytes - 1) (drop 1 bytes))
  up_to_stop b item n m found [] e some is = absurd (omega (arith, some))
  up_to_stop b item n m found (c ∷ more) e some is =
      let hit : eqb c b ≡ true = eq-eqb c b is in
      let one : up_to b item (suc m) (c ∷ more) ≡ Ok ([], more) = rw hit refl in
      let rest : more ≡ take (length (c ∷ more) - 1) more = sym (take_all (length (c ∷ more) - 1) more (omega arith)) in
      ap (λ (z : ℕ). with_front found (up_to b item z (c ∷ more))) (suc_of n m e) ∙ ap (with_front found) one ∙ ap (λ (z : List A). Ok (z, more)) (append-nil found) ∙ ap (λ (z : List ℕ). Ok (found, z)) rest

  -- a stop of a part is a stop of the whole
  pub passes_on : {B : Type 0} (e : Refusal) (part : Outcome B) (all : Outcome (List A)) → Fails e part → ((d : Stop) → part ≡ Err d → all ≡ Err d) → Fails e all
  passes_on refusal.Memory part all f on = tt
  passes_on (refusal.At s) part all f on = on s f

  -- a stop in an item
  pub up_to_err : (b : ℕ) (item : Reader A) (n m : ℕ) (found : List A) (bytes : List ℕ) (d : Stop)
      → n ≡ m + 1 → 1 ≤ length bytes → get_or bytes 0 0 ≢ b → item bytes ≡ Err d → with_front found (up_to b item n bytes) ≡ Err d
  up_to_err b item n m found [] d e some other read = absurd (omega (arith, some))
  up_to_err b item n m found (c ∷ rest) d e some other read =
      let miss : eqb c b ≡ false = ne_eqb c b other in
      let one : up_to b item (suc m) (c ∷ rest) ≡ Err d = rw (miss, read) refl in
      ap (λ (z : ℕ). with_front found (up_to b item z (c ∷ rest))) (suc_of n m e) ∙ ap (with_front found) one

  -- one item more
  pub up_to_step : (b : ℕ) (item : Reader A) (n m : ℕ) (found : List A) (bytes : List ℕ) (f : A) (after : List ℕ)
      → n ≡ m + 1 → 1 ≤ length bytes → get_or bytes 0 0 ≢ b → item bytes ≡ Ok (f, after)
      → with_front found (up_to b item n bytes) ≡ with_front (found ++ f ∷ []) (up_to b item m after)
  up_to_step b item n m found [] f after e some other read = absurd (omega (arith, some))
  up_to_step b item n m found (c ∷ rest) f after e some other read =
      let miss : eqb c b ≡ false = ne_eqb c b other in
      let one : up_to b item (suc m) (c ∷ rest) ≡ (up_to b item m after >>= remade (λ xs. f ∷ xs)) = rw (miss, read) (pair_cons f (up_to b item m after)) in
      ap (λ (z : ℕ). with_front found (up_to b item z (c ∷ rest))) (suc_of n m e) ∙ ap (with_front found) one ∙ front_cons found f (up_to b item m after)

-- ---- the bytes of a name, by their places

module _ (refused : ℕ → Bool) (end : ℕ) where
  -- what reading from place `at` gives, after the bytes before it
  abbrev pub name_from : ℕ → List ℕ → Outcome (List ℕ)
  name_from at bytes = with_front (take at bytes) (name_at refused end (drop at bytes))

-- ---- the bytes of a run, by their places

module _ (test : ℕ → Bool) where
  -- what reading at most k more from place `at` gives, after the bytes before it
  abbrev pub run_from : ℕ → ℕ → List ℕ → Outcome (List ℕ)
  run_from k at bytes = with_front (take at bytes) (run_on test k (drop at bytes))

  -- no byte is left
  run_none : (k : ℕ) (found : List ℕ) → with_front found (run_on test k []) ≡ Ok (found, [])
  unfolding run_on
  run_none zero found = ap (λ (z : List ℕ). Ok (z, [])) (append-nil found)
  run_none (suc k) found = ap (λ (z : List ℕ). Ok (z, [])) (append-nil found)

  -- a byte of another kind
  run_other : (k : ℕ) (found : List ℕ) (b : ℕ) (rest : List ℕ) → test b ≡ false → with_front found (run_on test k (b ∷ rest)) ≡ Ok (found, b ∷ rest)
  unfolding run_on
  run_other zero found b rest miss = ap (λ (z : List ℕ). Ok (z, b ∷ rest)) (append-nil found)
  run_other (suc k) found b rest miss = rw miss (ap (λ (z : List ℕ). Ok (z, b ∷ rest)) (append-nil found))

  -- what stands after it, as the code has it
  abbrev pub run_rest : ℕ → List ℕ → Outcome (List ℕ)
  run_rest at bytes = Ok (take at bytes, take (length bytes - at) (drop at bytes))

  -- the rest as the code has it
  as_rest : (at : ℕ) (bytes : List ℕ) → at ≤ length bytes → Ok (take at bytes, drop at bytes) ≡ run_rest at bytes
  as_rest at bytes within = ap (λ (z : List ℕ). Ok (take at bytes, z)) (sym (take_all (length bytes - at) (drop at bytes) (omega (arith, length-drop at bytes))))

  -- the run is full
  pub run_full : (k at : ℕ) (bytes : List ℕ) → k ≡ 0 → at ≤ length bytes → run_from k at bytes ≡ run_rest at bytes
  unfolding run_on
  run_full zero at bytes none within = ap (λ (z : List ℕ). Ok (z, drop at bytes)) (append-nil (take at bytes)) ∙ as_rest at bytes within
  run_full (suc k) at bytes none within = absurd (omega (arith, none))

  -- the text is at its end
  pub run_end : (k at : ℕ) (bytes : List ℕ) → length bytes ≡ at → run_from k at bytes ≡ run_rest at bytes
  run_end k at bytes past =
      let none : drop at bytes ≡ [] = drop_all at bytes (omega (arith, past)) in
      ap (λ (z : List ℕ). with_front (take at bytes) (run_on test k z)) none ∙ run_none k (take at bytes) ∙ ap (λ (z : List ℕ). Ok (take at bytes, z)) (sym none) ∙ as_rest at bytes (omega (arith, past))

  -- the run stops
  pub run_stop : (k at : ℕ) (bytes : List ℕ) → at < length bytes → test (get_or bytes at 0) ≡ false → run_from k at bytes ≡ run_rest at bytes
  run_stop k at bytes in_text miss =
      let text = drop_more bytes at 0 in_text in
      ap (λ (z : List ℕ). with_front (take at bytes) (run_on test k z)) text ∙ run_other k (take at bytes) (get_or bytes at 0) (drop (at + 1) bytes) miss
      ∙ ap (λ (z : List ℕ). Ok (take at bytes, z)) (sym text) ∙ as_rest at bytes (omega (arith, in_text))

  -- one byte more
  pub run_step : (k m at : ℕ) (bytes : List ℕ) → k ≡ m + 1 → at < length bytes → test (get_or bytes at 0) ≡ true → run_from k at bytes ≡ run_from m (at + 1) bytes
  unfolding run_on
  run_step k m at bytes more in_text hit =
      let rest : List ℕ = drop (at + 1) bytes in
      let here : run_on test (suc m) (get_or bytes at 0 ∷ rest) ≡ (run_on test m rest >>= remade (λ xs. get_or bytes at 0 ∷ xs)) = rw hit refl in
      ap (λ (z : ℕ). run_from z at bytes) (suc_of k m more) ∙ ap (λ (z : List ℕ). with_front (take at bytes) (run_on test (suc m) z)) (drop_more bytes at 0 in_text)
      ∙ ap (with_front (take at bytes)) here ∙ front_cons (take at bytes) (get_or bytes at 0) (run_on test m rest)
      ∙ ap (λ (z : List ℕ). with_front z (run_on test m rest)) (sym (take_more bytes at 0 in_text))
