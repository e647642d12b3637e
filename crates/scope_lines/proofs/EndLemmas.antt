-- The N_RBRAC that closes an N_LBRAC is the first after it that closes nothing there.
use Rattle.std.proofs.Common.{◌≡◌, ℕ, zero, suc, ◌+◌, ◌≤◌, List, [], ◌∷◌, length, take, Bool, cond, Option, Some, None, refl, sym, ap, ◌∙◌, arith, subst, add-one}
use Rattle.std.specs.Prelude.{slice_get, option_and_then, MatchOption, count_by}
use Rattle.std.proofs.lemmas.Bool.{eq-eqb, ne_eqb}
use Rattle.std.proofs.lemmas.Option.{slice_get_within}
use Rattle.std.proofs.lemmas.List.Sums.{sum_by-cons}
use Rattle.scope_lines.specs.declared.role.Role.{Role}
use Rattle.scope_lines.specs.declared.role.Role.TheVariants.{Function, Opens, Closes, Parameter, Local, Static, Other}
use Rattle.scope_lines.specs.Blocks.{end_place, end_value, closing_value, is_begin, is_end, is_even, IsEven, EndsWith, NeverEnds}
use Rattle.scope_lines.specs.Behind.{unopened, rest_of}
use Rattle.scope_lines.proofs.PlaceLemmas.{find_first, find_never}

-- ---- how many more close than open

pub rest-get : (values : List ℕ) (n : ℕ) → slice_get (rest_of values) n ≡ slice_get values (suc n)
rest-get [] n = refl
rest-get (value ∷ values) n = refl

count_by-cons : (p : Role → Bool) (x : Role) (xs : List Role) → count_by p (x ∷ xs) ≡ cond (p x) 1 0 + count_by p xs
count_by-cons p x xs = sum_by-cons (λ y. cond (p y) 1 0) x xs

-- among the first n items m more close than open
abbrev Over : List Role → ℕ → ℕ → Type 0
Over xs n m = count_by is_end (take n xs) ≡ count_by is_begin (take n xs) + m

-- the same, with the first item by itself
abbrev OverApart : Role → List Role → ℕ → ℕ → Type 0
OverApart x xs n m = cond (is_end x) 1 0 + count_by is_end (take n xs) ≡ cond (is_begin x) 1 0 + count_by is_begin (take n xs) + m

apart : (x : Role) (xs : List Role) (n m : ℕ) → Over (x ∷ xs) (suc n) m → OverApart x xs n m
apart x xs n m e = sym (count_by-cons is_end x (take n xs)) ∙ e ∙ ap (λ (k : ℕ). k + m) (count_by-cons is_begin x (take n xs))

joined : (x : Role) (xs : List Role) (n m : ℕ) → OverApart x xs n m → Over (x ∷ xs) (suc n) m
joined x xs n m e = count_by-cons is_end x (take n xs) ∙ e ∙ ap (λ (k : ℕ). k + m) (sym (count_by-cons is_begin x (take n xs)))

-- the N_RBRAC of this value is the first up to which m + 1 more close than open
record FirstOver (xs : List Role) (m value : ℕ) : Type 0 where
  place : ℕ
  there : slice_get xs place ≡ Some (Closes value)
  over : Over xs (suc place) (suc m)
  first : (n : ℕ) → n ≤ place → Over xs n (suc m) → ⊥

abbrev NeverOver : List Role → ℕ → Type 0
NeverOver xs m = (n : ℕ) → Over xs n (suc m) → ⊥

-- one item in front, after which m' stands for m
module _ (x : Role) (xs : List Role) (m m' : ℕ) (to : (n : ℕ) → OverApart x xs n (suc m) → Over xs n (suc m')) (from : (n : ℕ) → Over xs n (suc m') → OverApart x xs n (suc m)) where
  never_step : NeverOver xs m' → NeverOver (x ∷ xs) m
  never_step was zero e = absurd (omega arith)
  never_step was (suc n) e = was n (to n (apart x xs n (suc m) e))

  first_step : (value : ℕ) (was : FirstOver xs m' value) (n : ℕ) → n ≤ suc was.place → Over (x ∷ xs) n (suc m) → ⊥
  first_step value was zero h e = absurd (omega arith)
  first_step value was (suc n) h e = was.first n (omega arith) (to n (apart x xs n (suc m) e))

  over_step : (o : Option ℕ) → MatchOption o (NeverOver xs m') (FirstOver xs m') → MatchOption o (NeverOver (x ∷ xs) m) (FirstOver (x ∷ xs) m)
  over_step None was = never_step was
  over_step (Some value) was = record { place = suc was.place; there = was.there; over = joined x xs (suc was.place) (suc m) (from (suc was.place) was.over); first = first_step value was }

closes_now : (value : ℕ) (xs : List Role) → FirstOver (Closes value ∷ xs) 0 value
closes_now value xs = record { place = 0; there = refl; over = refl; first = λ n h e. first n h e }
  where
    first : (n : ℕ) → n ≤ 0 → Over (Closes value ∷ xs) n 1 → ⊥
    first zero h e = absurd (omega arith)
    first (suc n) h e = absurd (omega arith)

over_is : (xs : List Role) (m : ℕ) → MatchOption (slice_get (unopened xs) m) (NeverOver xs m) (FirstOver xs m)
over_is [] m = never
  where
    never : (n : ℕ) → Over [] n (suc m) → ⊥
    never zero e = absurd (omega arith)
    never (suc n) e = absurd (omega arith)
over_is (Opens value ∷ xs) m =
    subst (λ (o : Option ℕ). MatchOption o (NeverOver (Opens value ∷ xs) m) (FirstOver (Opens value ∷ xs) m)) (sym (rest-get (unopened xs) m))
    (over_step (Opens value) xs m (suc m) (λ n e. omega arith) (λ n e. omega arith) (slice_get (unopened xs) (suc m)) (over_is xs (suc m)))
over_is (Closes value ∷ xs) zero = closes_now value xs
over_is (Closes value ∷ xs) (suc m) = over_step (Closes value) xs (suc m) m (λ n e. omega arith) (λ n e. omega arith) (slice_get (unopened xs) m) (over_is xs m)
over_is (Function value ∷ xs) m = over_step (Function value) xs m m (λ n e. omega arith) (λ n e. omega arith) (slice_get (unopened xs) m) (over_is xs m)
over_is (Parameter ∷ xs) m = over_step Parameter xs m m (λ n e. omega arith) (λ n e. omega arith) (slice_get (unopened xs) m) (over_is xs m)
over_is (Local ∷ xs) m = over_step Local xs m m (λ n e. omega arith) (λ n e. omega arith) (slice_get (unopened xs) m) (over_is xs m)
over_is (Static ∷ xs) m = over_step Static xs m m (λ n e. omega arith) (λ n e. omega arith) (slice_get (unopened xs) m) (over_is xs m)
over_is (Other ∷ xs) m = over_step Other xs m m (λ n e. omega arith) (λ n e. omega arith) (slice_get (unopened xs) m) (over_is xs m)

-- ---- with the N_LBRAC in front

even_over : (low : ℕ) (behind : List Role) (n : ℕ) → IsEven (Opens low ∷ behind) n → Over behind n 1
even_over low behind n e =
    let f : count_by is_end (take (suc n) (Opens low ∷ behind)) ≡ count_by is_begin (take (suc n) (Opens low ∷ behind)) = rw add-one at e in
    let a = count_by-cons is_end (Opens low) (take n behind) in let b = count_by-cons is_begin (Opens low) (take n behind) in omega arith

over_even : (low : ℕ) (behind : List Role) (n : ℕ) → Over behind n 1 → IsEven (Opens low ∷ behind) n
over_even low behind n e = let a = count_by-cons is_end (Opens low) (take n behind) in let b = count_by-cons is_begin (Opens low) (take n behind) in
    rw add-one (let f : count_by is_end (take (suc n) (Opens low ∷ behind)) ≡ count_by is_begin (take (suc n) (Opens low ∷ behind)) = omega arith in f)

module _ (low : ℕ) (behind : List Role) where
  found_place : (value : ℕ) (f : FirstOver behind 0 value) → end_place (Opens low) behind ≡ Some (suc f.place)
  found_place value f = find_first (is_even (Opens low ∷ behind)) 1 (length behind) (suc f.place) (omega arith) (let h = slice_get_within behind f.place (Closes value) f.there in omega arith)
      (eq-eqb _ _ (over_even low behind (suc f.place) f.over))
      (λ earlier a b. ne_eqb _ _ (λ e. f.first earlier (omega arith) (even_over low behind earlier e)))

  pub end_value-unopened : end_value (Opens low) behind ≡ slice_get (unopened behind) 0
  end_value-unopened = pick (slice_get (unopened behind) 0) (over_is behind 0)
    where
      value_at : ℕ → Option ℕ
      value_at place = closing_value (slice_get (Opens low ∷ behind) place)

      pick : (o : Option ℕ) → MatchOption o (NeverOver behind 0) (FirstOver behind 0) → end_value (Opens low) behind ≡ o
      pick None never = ap (option_and_then value_at) (find_never (is_even (Opens low ∷ behind)) 1 (length behind) (λ place. ne_eqb _ _ (λ e. never place (even_over low behind place e))))
      pick (Some value) f = ap (option_and_then value_at) (found_place value f) ∙ ap closing_value f.there

  least_of : (value : ℕ) → FirstOver behind 0 value → EndsWith (Opens low ∷ behind) value
  least_of value f = (
    suc f.place,
    record {
      behind = omega arith;
      within = (let h = slice_get_within behind f.place (Closes value) f.there in omega arith);
      even = over_even low behind (suc f.place) f.over;
      first = λ earlier a b e. f.first earlier (omega arith) (even_over low behind earlier e);
    },
    f.there,
  )

  pub end_is : MatchOption (end_value (Opens low) behind) (NeverEnds (Opens low ∷ behind)) (EndsWith (Opens low ∷ behind))
  end_is = subst (λ (o : Option ℕ). MatchOption o (NeverEnds (Opens low ∷ behind)) (EndsWith (Opens low ∷ behind))) (sym end_value-unopened) (pick (slice_get (unopened behind) 0) (over_is behind 0))
    where
      pick : (o : Option ℕ) → MatchOption o (NeverOver behind 0) (FirstOver behind 0) → MatchOption o (NeverEnds (Opens low ∷ behind)) (EndsWith (Opens low ∷ behind))
      pick None never = λ place least. never place (even_over low behind place least.even)
      pick (Some value) f = least_of value f
