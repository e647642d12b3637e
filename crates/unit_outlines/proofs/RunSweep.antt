-- One pass over joined strings tells what their definition tells.
use Rattle.std.proofs.Common.{◌≡◌, ℕ, ◌+◌, ◌≤◌, Option, Some, None, Bool, true, false, cond, ltb, arith, refl, sym, ap, ◌∙◌, List, [], ◌∷◌, ◌++◌, length, append-nil, length-append}
use Rattle.st_base.specs.declared.fault.Fault.{Fault}
use Rattle.st_base.specs.declared.fault.TheConstants.{CONTINUATION, LONG}
use Rattle.st_base.specs.Faults.{fault_at}
use Rattle.nlist_codec.specs.declared.named.Named.{Named}
use Rattle.unit_outlines.specs.declared.kinds.Link.{Link}
use Rattle.unit_outlines.specs.declared.kinds.Link.TheVariants.{Ends, Goes, Broken}
use Rattle.unit_outlines.specs.declared.limits.TheConstants.{STRING_LIMIT}
use Rattle.unit_outlines.specs.EntryWords.{next}
use Rattle.unit_outlines.specs.Firsts.{told_at, first_told, smaller}
use Rattle.unit_outlines.specs.Runs.{goes, broken, long_at, more_text, goes_on, text_of, run_tells, link_at, piece_of, is_open, same_kind, run_tell}
use Rattle.unit_outlines.specs.Sweeps.{or_else, told_in, sweep_runs}

abbrev over_limit : ℕ → ℕ → Option Fault → Option Fault
over_limit n f more = cond (ltb STRING_LIMIT n) (Some (fault_at LONG f)) more

-- what is told of a run that goes on, whose first part has n bytes
abbrev result : Bool → List ℕ → ℕ → ℕ → Option Fault → Option Fault
result false t n f m = m
result true t n f m = over_limit (n + length t) f m

told_over : (x : Bool) (p : ℕ) (m : Option Fault) → or_else (cond x (Some (fault_at LONG p)) None) m ≡ told_at (cond x (Some LONG) None) p m
told_over true p m = refl
told_over false p m = refl

once : (x : Bool) (f : ℕ) (m : Option Fault) → or_else (cond x (Some (fault_at LONG f)) None) m ≡ cond x (Some (fault_at LONG f)) m
once true f m = refl
once false f m = refl

twice : (x y : Bool) (f : ℕ) (m : Option Fault) → (x ≡ true → y ≡ true) → or_else (cond x (Some (fault_at LONG f)) None) (cond y (Some (fault_at LONG f)) m) ≡ cond y (Some (fault_at LONG f)) m
twice true y f m h = ap (λ z. cond z (Some (fault_at LONG f)) m) (sym (h refl))
twice false y f m h = refl

both_here : (x : Bool) (p : ℕ) (m : Option Fault) → Some (fault_at CONTINUATION p) ≡ told_at (smaller (Some CONTINUATION) (cond x (Some LONG) None)) p m
both_here true p m = refl
both_here false p m = refl

or_some : (x : Bool) (f p : ℕ) (m : Option Fault) → or_else (cond x (Some (fault_at LONG f)) (Some (fault_at CONTINUATION p))) m ≡ cond x (Some (fault_at LONG f)) (Some (fault_at CONTINUATION p))
or_some true f p m = refl
or_some false f p m = refl

-- what is too long stays too long
longer : (a b : ℕ) → a ≤ b → ltb STRING_LIMIT a ≡ true → ltb STRING_LIMIT b ≡ true
longer a b l e = grind arith

turn : (k : Link) (b c : Bool) (f n p : ℕ) (pe t : List ℕ) (m : Option Fault) (more : Bool → ℕ → ℕ → Option Fault) → c ≡ b
    → ((b' : Bool) (f' n' : ℕ) → goes k ≡ b' → more b' f' n' ≡ result b' t n' f' m)
    → or_else (told_in k b (ltb STRING_LIMIT (cond b n 0 + length pe)) (cond b f p) p) (more (goes k) (cond b f p) (cond b n 0 + length pe))
    ≡ result b (pe ++ more_text k t) n f (told_at (smaller (broken k) (long_at c (pe ++ more_text k t))) p m)
turn Ends true c f n p pe t m more e ih = ap (or_else (cond (ltb STRING_LIMIT (n + length pe)) (Some (fault_at LONG f)) None)) (ih false f (n + length pe) refl)
    ∙ once (ltb STRING_LIMIT (n + length pe)) f m
    ∙ ap (λ z. over_limit (n + length z) f m) (sym (append-nil pe))
    ∙ ap (λ z. over_limit (n + length (pe ++ [])) f (told_at (long_at z (pe ++ [])) p m)) (sym e)
turn Ends false c f n p pe t m more e ih =
    let q : 0 + length pe ≡ length pe = omega arith in
    ap (or_else (cond (ltb STRING_LIMIT (0 + length pe)) (Some (fault_at LONG p)) None)) (ih false p (0 + length pe) refl)
    ∙ ap (λ z. or_else (cond (ltb STRING_LIMIT z) (Some (fault_at LONG p)) None) m) q
    ∙ told_over (ltb STRING_LIMIT (length pe)) p m
    ∙ ap (λ z. told_at (long_at false z) p m) (sym (append-nil pe))
    ∙ ap (λ z. told_at (long_at z (pe ++ [])) p m) (sym e)
turn Goes true c f n p pe t m more e ih =
    let q : n + length pe + length t ≡ n + length (pe ++ t) = ap (λ z. z) (omega (arith, length-append pe t)) in
    ap (or_else (cond (ltb STRING_LIMIT (n + length pe)) (Some (fault_at LONG f)) None)) (ih true f (n + length pe) refl)
    ∙ twice (ltb STRING_LIMIT (n + length pe)) (ltb STRING_LIMIT (n + length pe + length t)) f m (longer (n + length pe) (n + length pe + length t) (omega arith))
    ∙ ap (λ z. over_limit z f m) q
    ∙ ap (λ z. over_limit (n + length (pe ++ t)) f (told_at (long_at z (pe ++ t)) p m)) (sym e)
turn Goes false c f n p pe t m more e ih =
    let q : 0 + length pe + length t ≡ length (pe ++ t) = omega (arith, length-append pe t) in
    ap (or_else (cond (ltb STRING_LIMIT (0 + length pe)) (Some (fault_at LONG p)) None)) (ih true p (0 + length pe) refl)
    ∙ twice (ltb STRING_LIMIT (0 + length pe)) (ltb STRING_LIMIT (0 + length pe + length t)) p m (longer (0 + length pe) (0 + length pe + length t) (omega arith))
    ∙ ap (λ z. over_limit z p m) q
    ∙ sym (once (ltb STRING_LIMIT (length (pe ++ t))) p m) ∙ told_over (ltb STRING_LIMIT (length (pe ++ t))) p m
    ∙ ap (λ z. told_at (long_at z (pe ++ t)) p m) (sym e)
turn Broken true c f n p pe t m more e ih = or_some (ltb STRING_LIMIT (n + length pe)) f p _
    ∙ ap (λ z. cond (ltb STRING_LIMIT (n + length z)) (Some (fault_at LONG f)) (Some (fault_at CONTINUATION p))) (sym (append-nil pe))
    ∙ ap (λ z. over_limit (n + length (pe ++ [])) f (told_at (smaller (Some CONTINUATION) (long_at z (pe ++ []))) p m)) (sym e)
turn Broken false c f n p pe t m more e ih = both_here (ltb STRING_LIMIT (length (pe ++ []))) p m
    ∙ ap (λ z. told_at (smaller (Some CONTINUATION) (long_at z (pe ++ []))) p m) (sym e)

module _ {E : Type 0} (bond : E → Option E → Link) (piece : E → List ℕ) (alone : (e : E) → goes (bond e None) ≡ false) where
  abbrev begins_on : List E → List E → Bool
  begins_on back [] = false
  begins_on back (e ∷ es) = goes_on bond piece back e

  begins : (e : E) (back es : List E) → begins_on (e ∷ back) es ≡ goes (bond e (next es))
  begins e back [] = sym (alone e)
  begins e back (x ∷ es) = refl

  -- the pass behind `back`, nearest first
  pub sweep_result : (back es : List E) (p : ℕ) (b : Bool) (f n : ℕ) → begins_on back es ≡ b
      → sweep_runs bond piece b f n p es ≡ result b (text_of bond piece es) n f (first_told (run_tells bond piece) back p es)
  sweep_result back [] p false f n h = refl
  sweep_result back [] p true f n h = absurd cc
  sweep_result back (e ∷ es) p b f n h = turn (bond e (next es)) b (goes_on bond piece back e) f n p (piece e) (text_of bond piece es) (first_told (run_tells bond piece) (e ∷ back) (p + 1) es)
      (λ b' f' n'. sweep_runs bond piece b' f' n' (p + 1) es) h (λ b' f' n' g. sweep_result (e ∷ back) es (p + 1) b' f' n' (begins e back es ∙ g))

  pub runs_sweep_first : (es : List E) → sweep_runs bond piece false 0 0 0 es ≡ first_told (run_tells bond piece) [] 0 es
  runs_sweep_first [] = refl
  runs_sweep_first (e ∷ es) = sweep_result [] (e ∷ es) 0 false 0 0 refl

no_next : (b : Bool) (e : Named) → goes (cond b (same_kind e None) Ends) ≡ false
no_next true e = refl
no_next false e = refl

pub runs_sweep_is : (es : List Named) → sweep_runs link_at piece_of false 0 0 0 es ≡ first_told run_tell [] 0 es
runs_sweep_is es = runs_sweep_first link_at piece_of (λ e. no_next (is_open e) e) es

pub ruleset runs_laws = runs_sweep_is
