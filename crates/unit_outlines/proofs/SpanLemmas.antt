-- The entries inside a unit are a front of the list, behind its last entry no end was read, and each span of an outline begins in its list.
use Rattle.std.proofs.Common.{◌≡◌, ℕ, zero, suc, ◌+◌, ◌<◌, Bool, true, false, cond, Some, arith, refl, ap, subst, List, [], ◌∷◌, length, slice_get, take, drop}
use Rattle.std.proofs.lemmas.Option.{same_Some}
use Rattle.std.specs.Prelude.{◌==◌}
use Rattle.stab_codes.specs.declared.code.TheConstants.{N_SO}
use Rattle.nlist_codec.specs.declared.named.Named.{Named}
use Rattle.unit_outlines.specs.declared.closings.Closings.{Closings}
use Rattle.unit_outlines.specs.declared.kinds.SourceMark.{SourceMark}
use Rattle.unit_outlines.specs.declared.kinds.SourceMark.TheVariants.{Directory, Start, Stop, NoMark}
use Rattle.unit_outlines.specs.declared.outline_types.UnitSpan.{UnitSpan}
use Rattle.unit_outlines.specs.EntryWords.{next}
use Rattle.unit_outlines.specs.Marks.{mark_at}
use Rattle.unit_outlines.specs.Outlines.{inside, span_step, span_at, directory_of, units_from, IsOutlined}
use Rattle.unit_outlines.specs.Sweeps.{Closed}

-- ---- inside a unit

front : (b : Bool) (e : Named) (es more : List Named) → take (length more) es ≡ more → take (length (cond b [] (e ∷ more))) (e ∷ es) ≡ cond b [] (e ∷ more)
front true e es more h = refl
front false e es more h = ap (λ z. e ∷ z) h

-- the entries before the next N_SO are a front of the list
pub inside_front : (es : List Named) → take (length (inside es)) es ≡ inside es
inside_front [] = refl
inside_front (e ∷ es) = front (e.kind == N_SO) e es (inside es) (inside_front es)

pub ruleset inside_laws = inside_front

-- ---- ends of header ranges

-- no entry was read yet
pub closed_start : (p : ℕ) (es : List Named) (c : Closings) → ((p : ℕ) → Closed p [] c) → Closed p (drop (length es) es) c
closed_start p [] c new = new p
closed_start p (e ∷ es) c new = closed_start p es c new

-- ---- spans

first_or_later : (span s : UnitSpan) (more : List UnitSpan) (k n : ℕ) → span.first < n → ((j : ℕ) → slice_get more j ≡ Some s → s.first < n) → slice_get (span ∷ more) k ≡ Some s → s.first < n
first_or_later span s more zero n here later e = subst (λ (z : UnitSpan). z.first < n) (same_Some span s e) here
first_or_later span s more (suc k) n here later e = later k e

step_within : (m : SourceMark) (span s : UnitSpan) (more : List UnitSpan) (k n : ℕ) → span.first < n → ((j : ℕ) → slice_get more j ≡ Some s → s.first < n)
    → slice_get (span_step m span more) k ≡ Some s → s.first < n
step_within Directory span s more k n here later e = later k e
step_within Start span s more k n here later e = first_or_later span s more k n here later e
step_within Stop span s more k n here later e = later k e
step_within NoMark span s more k n here later e = later k e

spans_within : (t : ℕ) (d : List ℕ) (p : ℕ) (es : List Named) (k : ℕ) (s : UnitSpan) → slice_get (units_from t d p es) k ≡ Some s → s.first < p + length es
spans_within t d p [] k s e = absurd cc
spans_within t d p (x ∷ es) k s e =
    step_within (mark_at x (next es)) (span_at t d p x es) s (units_from t (directory_of (mark_at x (next es)) x.name) (p + 1) es) k (p + length (x ∷ es)) (omega arith)
    (λ j i. let h = spans_within t (directory_of (mark_at x (next es)) x.name) (p + 1) es j s i in omega arith) e

-- a span of an outline begins at an entry of the list
pub outlined_within : (entries : List Named) (span : UnitSpan) → IsOutlined entries span → span.first < length entries
outlined_within entries span o = let h = spans_within o.text_end [] 0 entries o.number span o.is in omega arith
