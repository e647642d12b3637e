-- The file of an entry: the walk back to its N_BINCL ends at the first place at which begins have caught up with ends.
use Rattle.std.proofs.Common.{◌≡◌, ℕ, zero, suc, ◌+◌, ◌-◌, ◌<◌, List, [], ◌∷◌, drop, Option, Some, None, arith, refl, sym, ap, ◌∙◌, ⊎_elim}
use Rattle.std.specs.Prelude.{MatchOption}
use Rattle.std.proofs.lemmas.Bool.{cases_order}
use Rattle.nlist_codec.specs.declared.named.Named.{Named}
use Rattle.unit_outlines.specs.declared.kinds.Nesting.{Nesting}
use Rattle.unit_outlines.specs.declared.kinds.Nesting.TheVariants.{Opens, Closes, Parts, Other}
use Rattle.unit_outlines.specs.Nests.{in_headers, one_more, closing_step, closing}
use Rattle.unit_outlines.specs.Counts.{ClosesAt, NeverCloses}
use Rattle.unit_outlines.specs.Marks.{backwards, back_in_headers, file_in, file_step, headers_in}
use Rattle.unit_outlines.proofs.CountsLaw.{closing_is}

-- ---- the place of the mark

module _ {E : Type 0} (role : E → Nesting) (es : List E) (m : ℕ) where
  one_place : (a b : ℕ) → ClosesAt role es m a → ClosesAt role es m b → a ≡ b
  one_place a b x y = ⊎_elim (λ e. e) (λ apart. ⊎_elim (λ less. absurd (y.first a less x.even)) (λ more. absurd (x.first b more y.even)) apart) (cases_order a b)

  some_place : (o : Option ℕ) (n : ℕ) → MatchOption o (NeverCloses role es m) (ClosesAt role es m) → ClosesAt role es m n → o ≡ Some n
  some_place None n never at = absurd (never n at.whole at.even)
  some_place (Some k) n is at = ap Some (one_place k n is at)

  no_place : (o : Option ℕ) → MatchOption o (NeverCloses role es m) (ClosesAt role es m) → NeverCloses role es m → o ≡ None
  no_place None is never = refl
  no_place (Some k) is never = absurd (never k is.whole is.even)

  place_is : (n : ℕ) → ClosesAt role es m n → closing role es m ≡ Some n
  place_is n at = some_place (closing role es m) n (closing_is role es m) at

  place_none : NeverCloses role es m → closing role es m ≡ None
  place_none never = no_place (closing role es m) (closing_is role es m) never

  no_zero : (o : Option ℕ) → MatchOption o (NeverCloses role es m) (ClosesAt role es m) → o ≡ Some 0 → ⊥
  no_zero None is e = absurd (cc)
  no_zero (Some zero) is e = let even = is.even in omega arith
  no_zero (Some (suc k)) is e = absurd (cc)

  never_zero : closing role es m ≡ Some 0 → ⊥
  never_zero e = no_zero (closing role es m) (closing_is role es m) e

-- ---- the file

-- the file of an entry that has its mark as the n-th entry before it
abbrev file_at : List Named → Option ℕ → ℕ
file_at back None = 0
file_at back (Some n) = headers_in (drop (n - 1) back)

less_one : (k : ℕ) → k ≡ suc k - 1
less_one k = omega arith

-- one entry more before it
further : (e : Named) (back : List Named) (m : ℕ) (o : Option ℕ) → (closing back_in_headers back m ≡ o) → file_at back o ≡ file_at (e ∷ back) (one_more o)
further e back m None is = refl
further e back m (Some zero) is = absurd (never_zero back_in_headers back m is)
further e back m (Some (suc n)) is = ap (λ (k : ℕ). headers_in (drop k back)) (omega arith) ∙ further_drop n where
  further_drop : (k : ℕ) → headers_in (drop k back) ≡ headers_in (drop (suc (suc k) - 1) (e ∷ back))
  further_drop k = ap (λ (j : ℕ). headers_in (drop j (e ∷ back))) (less_one (suc k))

module _ (e : Named) (back : List Named) where
  -- what the walk says of this entry
  abbrev Walks : Nesting → ℕ → Type 0
  Walks s m = file_step s m (headers_in (e ∷ back)) (file_in back) ≡ file_at (e ∷ back) (closing_step (backwards s) m (closing back_in_headers back))

  walks : ((m : ℕ) → file_in back m ≡ file_at back (closing back_in_headers back m)) → (s : Nesting) (m : ℕ) → Walks s m
  walks ih Opens zero = refl
  walks ih Opens (suc m) = ih m ∙ further e back m (closing back_in_headers back m) refl
  walks ih Closes m = ih (suc m) ∙ further e back (suc m) (closing back_in_headers back (suc m)) refl
  walks ih Parts m = refl
  walks ih Other m = ih m ∙ further e back m (closing back_in_headers back m) refl

file_walk : (back : List Named) (m : ℕ) → file_in back m ≡ file_at back (closing back_in_headers back m)
file_walk [] m = refl
file_walk (e ∷ back) m = walks e back (file_walk back) (in_headers e) m

-- ---- the law

pub file_header : (back : List Named) (more n : ℕ) → ClosesAt back_in_headers back more n → file_in back more ≡ headers_in (drop (n - 1) back)
file_header back more n at = file_walk back more ∙ ap (file_at back) (place_is back_in_headers back more n at)

pub file_unit : (back : List Named) (more : ℕ) → NeverCloses back_in_headers back more → file_in back more ≡ 0
file_unit back more never = file_walk back more ∙ ap (file_at back) (place_none back_in_headers back more never)
