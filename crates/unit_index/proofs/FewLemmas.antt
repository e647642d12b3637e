-- A list of entries has no more units than entries, and none of them more headers.
use Rattle.std.proofs.Common.{◌≡◌, ◌≤◌, ◌<◌, ◌+◌, ◌^◌, ◌⊎◌, inl, inr, ℕ, zero, suc, Bool, true, false, cond, List, [], ◌∷◌, length, Some, ap, sym, ◌∙◌, arith, lit≤, subst}
use Rattle.std.specs.Prelude.{◌==◌, slice_get}
use Rattle.std.proofs.lemmas.List.{length-append}
use Rattle.std.proofs.lemmas.Option.{same_Some}
use Rattle.stab_codes.specs.declared.code.TheConstants.{N_SO, N_BINCL, N_EXCL}
use Rattle.nlist_codec.specs.declared.named.Named.{Named}
use Rattle.unit_outlines.specs.declared.outline_types.HeaderMark.{HeaderMark}
use Rattle.unit_outlines.specs.declared.outline_types.UnitSpan.{UnitSpan}
use Rattle.unit_outlines.specs.EntryWords.{next}
use Rattle.unit_outlines.specs.Marks.{mark_at}
use Rattle.unit_outlines.specs.Outlines.{end_number, header_at, headers_from, inside, units_from, units_of, span_at, directory_of}
use Rattle.unit_index.specs.LookingUp.{AreFew}
use Rattle.unit_index.proofs.StepLemmas.{step_cases}
use Rattle.unit_index.proofs.Tests.{none_is}

-- ---- headers

one_header : (a b : Bool) (h k : HeaderMark) → length (cond a (h ∷ []) (cond b (k ∷ []) [])) ≤ 1
one_header true b h k = lit≤ tt
one_header false true h k = lit≤ tt
one_header false false h k = lit≤ tt

headers_few : (p : ℕ) (es : List Named) → length (headers_from p es) ≤ length es
headers_few p [] = lit≤ tt
headers_few p (e ∷ es) =
    let here = one_header (e.kind == N_BINCL) (e.kind == N_EXCL) (record { name = e.name; first = p; past = end_number (p + 1) es; excluded = false; value = e.value })
    (record { name = e.name; first = p; past = p + 1; excluded = true; value = e.value }) in
    let more = headers_few (p + 1) es in
    let both = length-append (header_at p (end_number (p + 1) es) e) (headers_from (p + 1) es) in
    omega (arith, here, more, both)

inside_few : (es : List Named) → length (inside es) ≤ length es
inside_few [] = lit≤ tt
inside_few (e ∷ es) = by_case (e.kind == N_SO) (inside_few es) where
  by_case : (b : Bool) → length (inside es) ≤ length es → length (cond b [] (e ∷ inside es)) ≤ suc (length es)
  by_case true more = omega arith
  by_case false more = omega (arith, more)

-- ---- units

one_unit : (now more : List UnitSpan) (span : UnitSpan) (n : ℕ) → (now ≡ more) ⊎ (now ≡ span ∷ more) → length more ≤ n → length now ≤ suc n
one_unit now more span n (inl e) few = let l : length now ≡ length more = ap length e in omega (arith, few, l)
one_unit now more span n (inr e) few = let l : length now ≡ suc (length more) = ap length e in omega (arith, few, l)

pub units_few : (end : ℕ) (directory : List ℕ) (p : ℕ) (es : List Named) → length (units_from end directory p es) ≤ length es
units_few end directory p [] = lit≤ tt
units_few end directory p (e ∷ es) =
    one_unit (units_from end directory p (e ∷ es)) (units_from end (directory_of (mark_at e (next es)) e.name) (p + 1) es) (span_at end directory p e es) (length es)
    (step_cases e (next es) (span_at end directory p e es) (units_from end (directory_of (mark_at e (next es)) e.name) (p + 1) es))
    (units_few end (directory_of (mark_at e (next es)) e.name) (p + 1) es)

first_few : (span s : UnitSpan) (more : List UnitSpan) (k n : ℕ) → length span.headers ≤ n → ((j : ℕ) → slice_get more j ≡ Some s → length s.headers ≤ n)
    → slice_get (span ∷ more) k ≡ Some s → length s.headers ≤ n
first_few span s more zero n here later e = subst (λ (z : UnitSpan). length z.headers ≤ n) (same_Some span s e) here
first_few span s more (suc k) n here later e = later k e

step_few : (now more : List UnitSpan) (span s : UnitSpan) (k n : ℕ) → (now ≡ more) ⊎ (now ≡ span ∷ more) → length span.headers ≤ n → ((j : ℕ) → slice_get more j ≡ Some s → length s.headers ≤ n)
    → slice_get now k ≡ Some s → length s.headers ≤ n
step_few now more span s k n (inl is) here later e = later k (ap (λ z. slice_get z k) (sym is) ∙ e)
step_few now more span s k n (inr is) here later e = first_few span s more k n here later (ap (λ z. slice_get z k) (sym is) ∙ e)

spans_few : (end : ℕ) (directory : List ℕ) (p : ℕ) (es : List Named) (k : ℕ) (s : UnitSpan) → slice_get (units_from end directory p es) k ≡ Some s → length s.headers ≤ length es
spans_few end directory p [] k s e = absurd (none_is s e)
spans_few end directory p (x ∷ es) k s e =
    let hs = headers_few (p + 1) (inside es) in
    let is = inside_few es in
    step_few (units_from end directory p (x ∷ es)) (units_from end (directory_of (mark_at x (next es)) x.name) (p + 1) es) (span_at end directory p x es) s k (length (x ∷ es))
    (step_cases x (next es) (span_at end directory p x es) (units_from end (directory_of (mark_at x (next es)) x.name) (p + 1) es)) (omega (arith, hs, is))
    (λ j i. let more = spans_few end (directory_of (mark_at x (next es)) x.name) (p + 1) es j s i in omega (arith, more)) e

pub few_headers : (end : ℕ) (entries : List Named) → length entries < 2 ^ 32 → AreFew (units_of end entries)
few_headers end entries short = λ k s e. let few = spans_few end [] 0 entries k s e in omega (arith, few, short)

pub few_units : (end : ℕ) (entries : List Named) → length entries < 2 ^ 32 → length (units_of end entries) < 2 ^ 32
few_units end entries short = let few = units_few end [] 0 entries in omega (arith, few, short)
