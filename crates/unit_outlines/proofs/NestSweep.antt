-- One pass with a count tells what the definition of nests tells.
use Rattle.std.proofs.Common.{◌≡◌, ℕ, zero, suc, ◌+◌, ◌-◌, Option, Some, None, is_some, Bool, true, false, arith, refl, sym, ap, ◌∙◌, List, [], ◌∷◌}
use Rattle.st_base.specs.declared.fault.Fault.{Fault}
use Rattle.st_base.specs.Faults.{fault_at}
use Rattle.unit_outlines.specs.declared.kinds.Nesting.{Nesting}
use Rattle.unit_outlines.specs.declared.kinds.Nesting.TheVariants.{Opens, Closes, Parts, Other}
use Rattle.unit_outlines.specs.Firsts.{told_at, first_told}
use Rattle.unit_outlines.specs.Nests.{one_more, closing_step, closing, level_step, level, nest_step, nest_tell}
use Rattle.unit_outlines.specs.Sweeps.{begun, sweep_step, sweep}

pub is_some-more : (o : Option ℕ) → is_some (one_more o) ≡ is_some o
is_some-more None = refl
is_some-more (Some n) = refl

-- what closes the outer one closes the inner one first
inner_step : (s : Nesting) (c : ℕ → Option ℕ) (n : ℕ) → ((m : ℕ) → is_some (c (suc m)) ≡ true → is_some (c m) ≡ true)
    → is_some (closing_step s (suc n) c) ≡ true → is_some (closing_step s n c) ≡ true
inner_step Opens c n h e = is_some-more (c (suc n)) ∙ h (suc n) (sym (is_some-more (c (suc (suc n)))) ∙ e)
inner_step Closes c zero h e = refl
inner_step Closes c (suc n) h e = is_some-more (c n) ∙ h n (sym (is_some-more (c (suc n))) ∙ e)
inner_step Parts c n h e = absurd cc
inner_step Other c n h e = is_some-more (c n) ∙ h n (sym (is_some-more (c (suc n))) ∙ e)

module _ {E : Type 0} (role : E → Nesting) (unclosed unopened : ℕ) where
  closed_inner : (es : List E) (n : ℕ) → is_some (closing role es (suc n)) ≡ true → is_some (closing role es n) ≡ true
  closed_inner [] n e = absurd cc
  closed_inner (x ∷ es) n e = inner_step (role x) (closing role es) n (closed_inner es) e

  closed_zero : (es : List E) (n : ℕ) → is_some (closing role es n) ≡ true → is_some (closing role es 0) ≡ true
  closed_zero es zero e = e
  closed_zero es (suc n) e = closed_zero es n (closed_inner es n e)

  abbrev kept : Bool → ℕ → Option Fault → Option Fault
  kept true b more = more
  kept false b more = Some (fault_at unclosed b)

  abbrev kept_at : ℕ → List E → ℕ → Option Fault → Option Fault
  kept_at zero es b m = m
  kept_at (suc d) es b m = kept (is_some (closing role es d)) b m

  abbrev Behind : List E → ℕ → ℕ → Option Fault → Type 0
  Behind es l p m = (d b : ℕ) → l ≡ d → sweep role unclosed unopened d b (p + 1) es ≡ kept_at d es b m

  up_kept : (c : Bool) (l p : ℕ) (m : Option Fault) → kept c p m ≡ told_at (nest_step role unclosed unopened Opens c l) p m
  up_kept true l p m = refl
  up_kept false l p m = refl

  turn_none : (s : Nesting) (es : List E) (l b p : ℕ) (m : Option Fault) → l ≡ 0 → Behind es (level_step s l) p m
      → sweep_step role unclosed unopened s 0 b p (sweep role unclosed unopened (0 + 1) (begun 0 b p) (p + 1) es) (sweep role unclosed unopened (0 - 1) b (p + 1) es) (sweep role unclosed unopened 0 b (p + 1) es)
      ≡ told_at (nest_step role unclosed unopened s (is_some (closing role es 0)) l) p m
  turn_none Opens es l b p m h ih = ih 1 p (ap (λ z. z + 1) h) ∙ up_kept (is_some (closing role es 0)) l p m
  turn_none Closes es l b p m h ih = ap (λ z. told_at (nest_step role unclosed unopened Closes (is_some (closing role es 0)) z) p m) (sym h)
  turn_none Parts es l b p m h ih = ih 0 b refl
  turn_none Other es l b p m h ih = ih 0 b h

  up_both : (c1 c0 : Bool) (l b p : ℕ) (m : Option Fault) → (c1 ≡ true → c0 ≡ true) → kept c1 b m ≡ kept c1 b (told_at (nest_step role unclosed unopened Opens c0 l) p m)
  up_both false c0 l b p m h = refl
  up_both true c0 l b p m h = ap (λ z. told_at (nest_step role unclosed unopened Opens z l) p m) (sym (h refl))

  down_some : (es : List E) (k b : ℕ) (m : Option Fault) → kept_at k es b m ≡ kept (is_some (closing_step Closes k (closing role es))) b m
  down_some es zero b m = refl
  down_some es (suc j) b m = ap (λ z. kept z b m) (sym (is_some-more (closing role es j)))

  turn_some : (s : Nesting) (es : List E) (l k b p : ℕ) (m : Option Fault) → l ≡ suc k → Behind es (level_step s l) p m
      → sweep_step role unclosed unopened s (suc k) b p (sweep role unclosed unopened (suc k + 1) (begun (suc k) b p) (p + 1) es) (sweep role unclosed unopened (suc k - 1) b (p + 1) es) (sweep role unclosed unopened (suc k) b (p + 1) es)
      ≡ kept (is_some (closing_step s k (closing role es))) b (told_at (nest_step role unclosed unopened s (is_some (closing role es 0)) l) p m)
  turn_some Opens es l k b p m h ih =
      let t : Option Fault = told_at (nest_step role unclosed unopened Opens (is_some (closing role es 0)) l) p m in
      ih (suc k + 1) b (ap (λ z. z + 1) h)
      ∙ (let q : suc k + 1 ≡ suc (suc k) = omega arith in ap (λ z. kept_at z es b m) q)
      ∙ up_both (is_some (closing role es (suc k))) (is_some (closing role es 0)) l b p m (closed_zero es (suc k))
      ∙ ap (λ z. kept z b t) (sym (is_some-more (closing role es (suc k))))
  turn_some Closes es l k b p m h ih =
      let r : suc k - 1 ≡ k = omega arith in
      ih (suc k - 1) b (ap (λ z. z - 1) h) ∙ ap (λ z. kept_at z es b m) r ∙ down_some es k b m
      ∙ ap (λ z. kept (is_some (closing_step Closes k (closing role es))) b (told_at (nest_step role unclosed unopened Closes (is_some (closing role es 0)) z) p m)) (sym h)
  turn_some Parts es l k b p m h ih = refl
  turn_some Other es l k b p m h ih = ih (suc k) b h ∙ ap (λ z. kept z b m) (sym (is_some-more (closing role es k)))

  pub sweep_kept : (back : List E) (es : List E) (p d b : ℕ) → level role back ≡ d → sweep role unclosed unopened d b p es ≡ kept_at d es b (first_told (nest_tell role unclosed unopened) back p es)
  sweep_kept back [] p zero b h = refl
  sweep_kept back [] p (suc d) b h = refl
  sweep_kept back (x ∷ es) p zero b h = turn_none (role x) es (level role back) b p (first_told (nest_tell role unclosed unopened) (x ∷ back) (p + 1) es) h (sweep_kept (x ∷ back) es (p + 1))
  sweep_kept back (x ∷ es) p (suc k) b h = turn_some (role x) es (level role back) k b p (first_told (nest_tell role unclosed unopened) (x ∷ back) (p + 1) es) h (sweep_kept (x ∷ back) es (p + 1))

  pub sweep_first : (es : List E) → sweep role unclosed unopened 0 0 0 es ≡ first_told (nest_tell role unclosed unopened) [] 0 es
  sweep_first es = sweep_kept [] es 0 0 0 refl

pub ruleset nest_laws = sweep_first
