-- What closes a mark is the first place up to which ends have caught up with begins.
use Rattle.std.proofs.Common.{◌≡◌, ◌≢◌, ℕ, zero, suc, ◌+◌, ◌<◌, List, [], ◌∷◌, take, Option, Some, None, arith, refl, sym, ap}
use Rattle.std.specs.Prelude.{MatchOption}
use Rattle.std.proofs.lemmas.Option.{same_Some}
use Rattle.unit_outlines.specs.declared.kinds.Nesting.{Nesting}
use Rattle.unit_outlines.specs.declared.kinds.Nesting.TheVariants.{Opens, Closes, Parts, Other}
use Rattle.unit_outlines.specs.Nests.{one_more, closing_step, closing}
use Rattle.unit_outlines.specs.Counts.{opens_of, closes_of, parts_of, begins, ends, partings, ClosesAt, NeverCloses}

more_some : (o : Option ℕ) (m : ℕ) → one_more o ≡ Some m → (n : ℕ) × (o ≡ Some n) × (m ≡ suc n)
more_some None m e = absurd cc
more_some (Some n) m e = (n, refl, cc)

module _ {E : Type 0} (role : E → Nesting) where
  -- one more entry in front, which parts nothing
  module _ (e : E) (es : List E) (m p n : ℕ) (parts : parts_of (role e) ≡ 0) (shift : closes_of (role e) + p ≡ opens_of (role e) + m) (l : ClosesAt role es p n)
      (start : 0 ≢ m + 1) where
    step_first : (k : ℕ) → k < suc n → ends role (take k (e ∷ es)) ≢ begins role (take k (e ∷ es)) + m + 1
    step_first zero h q = start (omega arith)
    step_first (suc k) h q = l.first k (omega arith) (omega arith)

    closes_step : ClosesAt role (e ∷ es) m (suc n)
    closes_step = record {
      within = let w = l.within in omega arith;
      even = let w = l.even in omega arith;
      whole = let w = l.whole in omega arith;
      first = step_first;
    }

  first_end : (e : E) (es : List E) → (k : ℕ) → k < 1 → ends role (take k (e ∷ es)) ≢ begins role (take k (e ∷ es)) + 0 + 1
  first_end e es zero h q = omega arith
  first_end e es (suc k) h q = omega arith

  by_role : (e : E) (es : List E) (s : Nesting) → role e ≡ s → (m n : ℕ) → closing_step s m (closing role es) ≡ Some n
      → ((p k : ℕ) → closing role es p ≡ Some k → ClosesAt role es p k) → ClosesAt role (e ∷ es) m n
  by_role e es Opens r m n q ih =
      let o = more_some (closing role es (suc m)) n q in let a = ap closes_of r in let b = ap opens_of r in
      rw o.2 (closes_step e es m (suc m) o.0 (ap parts_of r) (omega arith) (ih (suc m) o.0 o.1) (λ z. omega arith))
  by_role e es Closes r zero n q ih =
      let one : n ≡ 1 = sym (same_Some 1 n q) in let a = ap closes_of r in let b = ap opens_of r in let p = ap parts_of r in
      rw one (record { within = omega arith; even = omega arith; whole = omega arith; first = first_end e es })
  by_role e es Closes r (suc m) n q ih =
      let o = more_some (closing role es m) n q in let a = ap closes_of r in let b = ap opens_of r in
      rw o.2 (closes_step e es (suc m) m o.0 (ap parts_of r) (omega arith) (ih m o.0 o.1) (λ z. omega arith))
  by_role e es Parts r m n q ih = absurd cc
  by_role e es Other r m n q ih =
      let o = more_some (closing role es m) n q in let a = ap closes_of r in let b = ap opens_of r in
      rw o.2 (closes_step e es m m o.0 (ap parts_of r) (omega arith) (ih m o.0 o.1) (λ z. omega arith))

  closing_least : (es : List E) (m n : ℕ) → closing role es m ≡ Some n → ClosesAt role es m n
  closing_least [] m n q = absurd cc
  closing_least (e ∷ es) m n q = by_role e es (role e) refl m n q (closing_least es)

  more_none : (o : Option ℕ) → one_more o ≡ None → o ≡ None
  more_none None e = refl
  more_none (Some n) e = absurd cc

  never_by_role : (e : E) (es : List E) (s : Nesting) → role e ≡ s → (m k : ℕ) → closing_step s m (closing role es) ≡ None
      → ((p : ℕ) → closing role es p ≡ None → NeverCloses role es p)
      → partings role (take (suc k) (e ∷ es)) ≡ 0 → ends role (take (suc k) (e ∷ es)) ≢ begins role (take (suc k) (e ∷ es)) + m + 1
  never_by_role e es Opens r m k q ih w z =
      let a = ap closes_of r in let b = ap opens_of r in let p = ap parts_of r in ih (suc m) (more_none (closing role es (suc m)) q) k (omega arith) (omega arith)
  never_by_role e es Closes r zero k q ih w z = absurd cc
  never_by_role e es Closes r (suc m) k q ih w z =
      let a = ap closes_of r in let b = ap opens_of r in let p = ap parts_of r in ih m (more_none (closing role es m) q) k (omega arith) (omega arith)
  never_by_role e es Parts r m k q ih w z = let p = ap parts_of r in omega arith
  never_by_role e es Other r m k q ih w z =
      let a = ap closes_of r in let b = ap opens_of r in let p = ap parts_of r in ih m (more_none (closing role es m) q) k (omega arith) (omega arith)

  closing_never : (es : List E) (m : ℕ) → closing role es m ≡ None → NeverCloses role es m
  closing_never [] m q zero w z = omega arith
  closing_never [] m q (suc k) w z = omega arith
  closing_never (e ∷ es) m q zero w z = omega arith
  closing_never (e ∷ es) m q (suc k) w z = never_by_role e es (role e) refl m k q (closing_never es) w z

  split : (es : List E) (m : ℕ) (o : Option ℕ) → closing role es m ≡ o → MatchOption o (NeverCloses role es m) (ClosesAt role es m)
  split es m None q = closing_never es m q
  split es m (Some n) q = closing_least es m n q

  -- it is the least such number, or there is none
  pub closing_is : (es : List E) (m : ℕ) → MatchOption (closing role es m) (NeverCloses role es m) (ClosesAt role es m)
  closing_is es m = split es m (closing role es m) refl
