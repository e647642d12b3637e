-- The turns of a list: the list before and after is what the definition of a changed list says, and a list whose ranges match is walked.
use Rattle.std.proofs.Common.{◌≡◌, ℕ, zero, suc, ◌+◌, ◌-◌, Bool, true, false, cond, Option, None, arith, refl, sym, ap, ◌∙◌, subst, List, [], ◌∷◌, ◌++◌, length, slice_get}
use Rattle.std.specs.Prelude.{◌==◌}
use Rattle.st_base.specs.declared.fault.Fault.{Fault}
use Rattle.st_base.specs.Stabs.{is_stab}
use Rattle.stab_codes.specs.declared.code.TheConstants.{N_SO}
use Rattle.nlist_codec.specs.declared.named.Named.{Named}
use Rattle.unit_outlines.specs.declared.kinds.Nesting.{Nesting}
use Rattle.unit_outlines.specs.declared.kinds.Nesting.TheVariants.{Opens, Closes, Parts, Other}
use Rattle.unit_outlines.specs.Nests.{in_headers, nest_tell}
use Rattle.unit_outlines.specs.Marks.{is_header, all_headers, range_in}
use Rattle.unit_outlines.specs.Sweeps.{files_turned, begun, still, sweep_step, sweep}
use Rattle.stab_units.specs.Changing.{Change, is_kept_in, mark_changed, changed_at, changed_from}
use Rattle.unit_outlines.proofs.NestSweep.{sweep_first}
use Rattle.unit_outlines.proofs.UntoldLemmas.{Untold, untold-first, first-untold}
use Rattle.unit_outlines.proofs.EntryKinds.{source_parts}
use Rattle.stab_units.proofs.ChangeSteps.{open_places, range_open, Turn, marked, stays, goes_out, before, after, IsBeside, Stays, GoesOut, Walk, is_marked, beside-marked, beside-stays, beside-gone}

-- ---- marks that match

abbrev pub matched_step : Nesting → ℕ → (ℕ → Type 0) → Type 0
matched_step Opens n rest = rest (suc n)
matched_step Closes zero rest = ⊥
matched_step Closes (suc n) rest = rest n
matched_step Parts zero rest = rest zero
matched_step Parts (suc n) rest = ⊥
matched_step Other n rest = rest n

module _ {E : Type 0} (role : E → Nesting) where
  -- marks match in these entries, after those that leave n open: each end closes one, and none is open at the end of a unit
  abbrev pub IsMatched : List E → ℕ → Type 0
  IsMatched [] n = n ≡ 0
  IsMatched (e ∷ es) n = matched_step (role e) n (IsMatched es)

  module _ (unclosed unopened : ℕ) where
    to_step : (s : Nesting) (n b p : ℕ) (rest : ℕ → Type 0) (up down stay : Option Fault) → (up ≡ None → rest (n + 1)) → (down ≡ None → rest (n - 1))
        → (stay ≡ None → rest n)
        → sweep_step role unclosed unopened s n b p up down stay ≡ None → matched_step s n rest
    to_step Opens n b p rest up down stay more fewer same none = let is : n + 1 ≡ suc n = omega arith in subst rest is (more none)
    to_step Closes zero b p rest up down stay more fewer same none = absurd cc
    to_step Closes (suc n) b p rest up down stay more fewer same none = let is : suc n - 1 ≡ n = omega arith in subst rest is (fewer none)
    to_step Parts zero b p rest up down stay more fewer same none = same none
    to_step Parts (suc n) b p rest up down stay more fewer same none = absurd cc
    to_step Other n b p rest up down stay more fewer same none = same none

    to_end : (n b : ℕ) → still role unclosed unopened n b None ≡ None → n ≡ 0
    to_end zero b none = refl
    to_end (suc n) b none = absurd cc

    -- they match where a pass tells nothing
    sweep-matched : (es : List E) (n b p : ℕ) → sweep role unclosed unopened n b p es ≡ None → IsMatched es n
    sweep-matched [] n b p none = to_end n b none
    sweep-matched (e ∷ es) n b p none = to_step (role e) n b p (IsMatched es) _ _ _
        (sweep-matched es (n + 1) (begun n b p) (p + 1)) (sweep-matched es (n - 1) b (p + 1)) (sweep-matched es n b (p + 1)) none

    from_step : (s : Nesting) (n b p : ℕ) (rest : ℕ → Type 0) (up down stay : Option Fault) → (rest (n + 1) → up ≡ None) → (rest (n - 1) → down ≡ None)
        → (rest n → stay ≡ None)
        → matched_step s n rest → sweep_step role unclosed unopened s n b p up down stay ≡ None
    from_step Opens n b p rest up down stay more fewer same match = let is : suc n ≡ n + 1 = omega arith in more (subst rest is match)
    from_step Closes zero b p rest up down stay more fewer same match = absurd match
    from_step Closes (suc n) b p rest up down stay more fewer same match = let is : n ≡ suc n - 1 = omega arith in fewer (subst rest is match)
    from_step Parts zero b p rest up down stay more fewer same match = same match
    from_step Parts (suc n) b p rest up down stay more fewer same match = absurd match
    from_step Other n b p rest up down stay more fewer same match = same match

    -- and a pass tells nothing where they match
    matched-sweep : (es : List E) (n b p : ℕ) → IsMatched es n → sweep role unclosed unopened n b p es ≡ None
    matched-sweep [] n b p match = rw match refl
    matched-sweep (e ∷ es) n b p match = from_step (role e) n b p (IsMatched es) _ _ _
        (matched-sweep es (n + 1) (begun n b p) (p + 1)) (matched-sweep es (n - 1) b (p + 1)) (matched-sweep es n b (p + 1)) match

    -- marks of a list match where none is reported
    pub untold-matched : (es : List E) → Untold (nest_tell role unclosed unopened) [] es → IsMatched es 0
    untold-matched es untold = sweep-matched es 0 0 0 (sweep_first role unclosed unopened es ∙ untold-first (nest_tell role unclosed unopened) [] 0 es untold)

    pub matched-untold : (es : List E) → IsMatched es 0 → Untold (nest_tell role unclosed unopened) [] es
    matched-untold es match = first-untold (nest_tell role unclosed unopened) [] 0 es (sym (sweep_first role unclosed unopened es) ∙ matched-sweep es 0 0 0 match)

-- where marks match after one entry more, by the places of those that are open
pub matched_next : (s : Nesting) (place : ℕ) (places : List ℕ) (rest : ℕ → Type 0) → matched_step s (length places) rest
    → rest (length (files_turned s place places))
matched_next Opens place places rest match = match
matched_next Closes place [] rest match = absurd match
matched_next Closes place (p ∷ places) rest match = match
matched_next Parts place [] rest match = match
matched_next Parts place (p ∷ places) rest match = absurd match
matched_next Other place places rest match = match

-- none is open at an N_SO
parts_none : (s : Nesting) (places : List ℕ) (rest : ℕ → Type 0) → s ≡ Parts → matched_step s (length places) rest → places ≡ []
parts_none Opens places rest parts match = absurd cc
parts_none Closes places rest parts match = absurd cc
parts_none Parts [] rest parts match = refl
parts_none Parts (p ∷ places) rest parts match = absurd match
parts_none Other places rest parts match = absurd cc

-- ---- the turns of a list

abbrev turn_by : (header stab kept : Bool) (e f : Named) → Turn
turn_by true stab kept e f = marked e f
turn_by false true true e f = stays e
turn_by false true false e f = goes_out e
turn_by false false kept e f = stays e

before_by : (header stab kept : Bool) (e f : Named) (ts : List Turn) → before (turn_by header stab kept e f ∷ ts) ≡ e ∷ before ts
before_by true stab kept e f ts = refl
before_by false true true e f ts = refl
before_by false true false e f ts = refl
before_by false false kept e f ts = refl

after_by : (header stab kept : Bool) (e f : Named) (ts : List Turn)
    → after (turn_by header stab kept e f ∷ ts) ≡ cond header (f ∷ []) (cond stab (cond kept (e ∷ []) []) (e ∷ [])) ++ after ts
after_by true stab kept e f ts = refl
after_by false true true e f ts = refl
after_by false true false e f ts = refl
after_by false false kept e f ts = refl

module _ (c : Change) where
  abbrev pub turns : List Named → List Named → List Turn
  turns back [] = []
  turns back (e ∷ es) = turn_by (is_header e.kind) (is_stab e.kind) (is_kept_in c (range_in back 0)) e (mark_changed c (all_headers back) e) ∷ turns (e ∷ back) es

  -- the list
  pub before-turns : (back es : List Named) → before (turns back es) ≡ es
  before-turns back [] = refl
  before-turns back (e ∷ es) = before_by (is_header e.kind) (is_stab e.kind) (is_kept_in c (range_in back 0)) e (mark_changed c (all_headers back) e) (turns (e ∷ back) es)
      ∙ ap (λ zs. e ∷ zs) (before-turns (e ∷ back) es)

  -- the changed list
  pub after-turns : (back es : List Named) → after (turns back es) ≡ changed_from c back es
  after-turns back [] = refl
  after-turns back (e ∷ es) = after_by (is_header e.kind) (is_stab e.kind) (is_kept_in c (range_in back 0)) e (mark_changed c (all_headers back) e) (turns (e ∷ back) es)
      ∙ ap (λ zs. changed_at c back e ++ zs) (after-turns (e ∷ back) es)

  no_source : (b : Bool) (back : List Named) (e : Named) → (e.kind == N_SO) ≡ b → is_kept_in c (range_in back 0) ≡ false
      → ((e.kind == N_SO) ≡ true → open_places back ≡ []) → (e.kind == N_SO) ≡ false
  no_source true back e is gone source =
      let none : is_kept_in c (range_in back 0) ≡ true = ap (is_kept_in c) (range_open back 0 ∙ ap (λ places. slice_get places 0) (source is)) in absurd cc
  no_source false back e is gone source = is

  walk_by : (header stab kept : Bool) (back new : List Named) (e : Named) (ts : List Turn) → is_header e.kind ≡ header → is_stab e.kind ≡ stab
      → is_kept_in c (range_in back 0) ≡ kept
      → ((e.kind == N_SO) ≡ true → open_places back ≡ []) → IsBeside c back new → ((more : List Named) → IsBeside c (e ∷ back) more → Walk c (e ∷ back) more ts)
      → Walk c back new (turn_by header stab kept e (mark_changed c (all_headers back) e) ∷ ts)
  walk_by true stab kept back new e ts header is_one in_range source beside rest =
      (is_marked c back e header, beside, rest (mark_changed c (all_headers back) e ∷ new) (beside-marked c back new e header beside))
  walk_by false true true back new e ts header is_one in_range source beside rest =
      let stay : Stays c back e = record { header = header; kept = λ is. in_range; source = source } in
      (stay, beside, rest (e ∷ new) (beside-stays c back new e stay beside))
  walk_by false true false back new e ts header is_one in_range source beside rest =
      let out : GoesOut c back e = record { header = header; stab = is_one; gone = in_range; source = no_source (e.kind == N_SO) back e refl in_range source } in
      (out, beside, rest new (beside-gone c back new e out beside))
  walk_by false false kept back new e ts header is_one in_range source beside rest =
      let stay : Stays c back e = record { header = header; kept = λ is. absurd cc; source = source } in
      (stay, beside, rest (e ∷ new) (beside-stays c back new e stay beside))

  -- a list whose ranges match is walked
  walk_from : (back new es : List Named) → IsBeside c back new → IsMatched in_headers es (length (open_places back)) → Walk c back new (turns back es)
  walk_from back new [] beside match = beside
  walk_from back new (e ∷ es) beside match = walk_by (is_header e.kind) (is_stab e.kind) (is_kept_in c (range_in back 0)) back new e (turns (e ∷ back) es) refl refl refl
      (λ source. parts_none (in_headers e) (open_places back) (IsMatched in_headers es) (source_parts e.kind source) match) beside
      (λ more next_to. walk_from (e ∷ back) more es next_to (matched_next (in_headers e) (all_headers back) (open_places back) (IsMatched in_headers es) match))

  -- from its first entry
  pub walk : (es : List Named) → IsMatched in_headers es 0 → Walk c [] [] (turns [] es)
  walk es match = walk_from [] [] es (record { ranges = refl; count = refl; start = refl; going = λ e. refl }) match
