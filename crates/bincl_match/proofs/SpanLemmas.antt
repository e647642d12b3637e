-- A list of entries has no more units and no more headers than entries, and each unit begins at an entry.
use Rattle.std.proofs.Common.{◌≡◌, ℕ, zero, suc, ◌+◌, ◌<◌, ◌≤◌, ◌⊎◌, inl, inr, Some, Bool, true, false, cond, arith, lit≤, refl, sym, ap, subst, ◌∙◌, List, [], ◌∷◌, ◌++◌, slice_get, length}
use Rattle.std.specs.Prelude.{◌==◌, ◌&&◌, Option}
use Rattle.std.proofs.Math.ListN.{length-append}
use Rattle.stab_codes.specs.declared.code.TheConstants.{N_SO, N_BINCL, N_EXCL}
use Rattle.nlist_codec.specs.declared.named.Named.{Named}
use Rattle.unit_outlines.specs.declared.outline_types.HeaderMark.{HeaderMark}
use Rattle.unit_outlines.specs.declared.outline_types.UnitSpan.{UnitSpan}
use Rattle.unit_outlines.specs.EntryWords.{next, is_empty, ends_in}
use Rattle.unit_outlines.specs.Marks.{mark_at, names_source}
use Rattle.unit_outlines.specs.Outlines.{IsOutlined, directory_of, end_number, header_at, headers_from, inside, span_at, span_step, units_from}
use Rattle.bincl_match.proofs.ListLemmas.{none_is, some_is}

-- ---- an entry begins a unit or none

-- where it begins one it is an N_SO
abbrev Steps : Named → List UnitSpan → UnitSpan → List UnitSpan → Type 0
Steps e spans span more = (spans ≡ more) ⊎ ((spans ≡ span ∷ more) × ((e.kind == N_SO) ≡ true))

-- in each case one of the two
steps : (e : Named) (o : Option Named) (span : UnitSpan) (more : List UnitSpan) → Steps e (span_step (mark_at e o) span more) span more
steps e o span more = by_case (e.kind == N_SO) (is_empty e.name) (ends_in 47 e.name && names_source o) refl refl refl where
  by_case : (a b d : Bool) → (e.kind == N_SO) ≡ a → is_empty e.name ≡ b → (ends_in 47 e.name && names_source o) ≡ d → Steps e (span_step (mark_at e o) span more) span more
  by_case false b d h k l = inl (rw h refl)
  by_case true true d h k l = inl (rw (h, k) refl)
  by_case true false true h k l = inl (rw (h, k, l) refl)
  by_case true false false h k l = inr (rw (h, k, l) refl, h)

-- ---- units

-- no more units than entries
pub few_spans : (end : ℕ) (directory : List ℕ) (p : ℕ) (entries : List Named) → length (units_from end directory p entries) ≤ length entries
few_spans end directory p [] = lit≤ tt
few_spans end directory p (e ∷ es) =
    by_case (steps e (next es) (span_at end directory p e es) (units_from end (directory_of (mark_at e (next es)) e.name) (p + 1) es))
    (few_spans end (directory_of (mark_at e (next es)) e.name) (p + 1) es) where
      by_case : Steps e (units_from end directory p (e ∷ es)) (span_at end directory p e es) (units_from end (directory_of (mark_at e (next es)) e.name) (p + 1) es)
          → length (units_from end (directory_of (mark_at e (next es)) e.name) (p + 1) es) ≤ length es → length (units_from end directory p (e ∷ es)) ≤ length (e ∷ es)
      by_case (inl is) few = let h = ap length is in omega arith
      by_case (inr is) few = let h = ap length is.0 in omega arith

-- the first span, or one of the others
first_of : (span s : UnitSpan) (more : List UnitSpan) (k n : ℕ) → span.first < n → ((j : ℕ) → slice_get more j ≡ Some s → s.first < n) → slice_get (span ∷ more) k ≡ Some s → s.first < n
first_of span s more zero n here later e = subst (λ (z : UnitSpan). z.first < n) (some_is (Some span) span s refl e) here
first_of span s more (suc k) n here later e = later k e

-- each unit begins at an entry
spans_within : (end : ℕ) (directory : List ℕ) (p : ℕ) (es : List Named) (k : ℕ) (s : UnitSpan) → slice_get (units_from end directory p es) k ≡ Some s → s.first < p + length es
spans_within end directory p [] k s e = absurd (none_is s e)
spans_within end directory p (x ∷ es) k s e =
    by_case (steps x (next es) (span_at end directory p x es) (units_from end (directory_of (mark_at x (next es)) x.name) (p + 1) es))
    (λ j i. let h = spans_within end (directory_of (mark_at x (next es)) x.name) (p + 1) es j s i in omega arith) where
      by_case : Steps x (units_from end directory p (x ∷ es)) (span_at end directory p x es) (units_from end (directory_of (mark_at x (next es)) x.name) (p + 1) es)
          → ((j : ℕ) → slice_get (units_from end (directory_of (mark_at x (next es)) x.name) (p + 1) es) j ≡ Some s → s.first < p + length (x ∷ es)) → s.first < p + length (x ∷ es)
      by_case (inl is) later = later k (ap (λ (z : List UnitSpan). slice_get z k) (sym is) ∙ e)
      by_case (inr is) later =
          first_of (span_at end directory p x es) s (units_from end (directory_of (mark_at x (next es)) x.name) (p + 1) es) k (p + length (x ∷ es)) (omega arith) later
          (ap (λ (z : List UnitSpan). slice_get z k) (sym is.0) ∙ e)

-- ---- headers

-- how many headers spans have
abbrev pub total : List UnitSpan → ℕ
total [] = 0
total (s ∷ spans) = length s.headers + total spans

-- an entry is one header at most
one_header : (a b : Bool) (x y : HeaderMark) → length (cond a (x ∷ []) (cond b (y ∷ []) [])) ≤ 1
one_header true b x y = lit≤ tt
one_header false true x y = lit≤ tt
one_header false false x y = lit≤ tt

-- no more headers than entries
few_headers : (p : ℕ) (es : List Named) → length (headers_from p es) ≤ length es
few_headers p [] = lit≤ tt
few_headers p (e ∷ es) =
    let a = few_headers (p + 1) es in
    let past = end_number (p + 1) es in
    let one : length (header_at p past e) ≤ 1 =
    one_header (e.kind == N_BINCL) (e.kind == N_EXCL) (record { name = e.name; first = p; past = past; excluded = false; value = e.value })
    (record { name = e.name; first = p; past = p + 1; excluded = true; value = e.value }) in
    let all : length (header_at p past e ++ headers_from (p + 1) es) ≡ length (header_at p past e) + length (headers_from (p + 1) es) = length-append (header_at p past e) (headers_from (p + 1) es) in
    omega arith

-- an entry inside, if the unit does not end there
one_inside : (b : Bool) (e : Named) (es : List Named) → length (cond b [] (e ∷ es)) ≤ suc (length es)
one_inside true e es = omega arith
one_inside false e es = omega arith

-- entries before the first unit's N_SO are of no header of these spans
total_few : (end : ℕ) (directory : List ℕ) (p : ℕ) (es : List Named) → total (units_from end directory p es) + length (inside es) ≤ length es
total_few end directory p [] = lit≤ tt
total_few end directory p (e ∷ es) =
    by_case (steps e (next es) (span_at end directory p e es) (units_from end (directory_of (mark_at e (next es)) e.name) (p + 1) es))
    (total_few end (directory_of (mark_at e (next es)) e.name) (p + 1) es) where
      by_case : Steps e (units_from end directory p (e ∷ es)) (span_at end directory p e es) (units_from end (directory_of (mark_at e (next es)) e.name) (p + 1) es)
          → total (units_from end (directory_of (mark_at e (next es)) e.name) (p + 1) es) + length (inside es) ≤ length es
          → total (units_from end directory p (e ∷ es)) + length (inside (e ∷ es)) ≤ length (e ∷ es)
      by_case (inl is) few =
          let h : total (units_from end directory p (e ∷ es)) ≡ total (units_from end (directory_of (mark_at e (next es)) e.name) (p + 1) es) = ap total is in
          let i : length (inside (e ∷ es)) ≤ suc (length (inside es)) = one_inside (e.kind == N_SO) e (inside es) in
          omega arith
      by_case (inr is) few =
          let h : total (units_from end directory p (e ∷ es)) ≡ length (headers_from (p + 1) (inside es)) + total (units_from end (directory_of (mark_at e (next es)) e.name) (p + 1) es) = ap total is.0 in
          let i : length (inside (e ∷ es)) ≡ 0 = ap (λ (z : Bool). length (cond z [] (e ∷ inside es))) is.1 in
          let f = few_headers (p + 1) (inside es) in
          omega arith

-- the units of a list have no more headers than the list has entries
pub few_total : (end : ℕ) (entries : List Named) → total (units_from end [] 0 entries) ≤ length entries
few_total end entries = let h = total_few end [] 0 entries in omega arith

-- a unit has no more headers than all units
one_of_total : (spans : List UnitSpan) (k : ℕ) (s : UnitSpan) → slice_get spans k ≡ Some s → length s.headers ≤ total spans
one_of_total [] k s e = absurd (none_is s e)
one_of_total (x ∷ spans) zero s e = let h = ap (λ (z : UnitSpan). length z.headers) (some_is (Some x) x s refl e) in omega arith
one_of_total (x ∷ spans) (suc k) s e = let h = one_of_total spans k s e in omega arith

-- ---- a span of an outline

-- it begins at an entry
pub outlined_within : (entries items : List Named) (span : UnitSpan) → items ≡ entries → IsOutlined entries span → span.first < length items
outlined_within entries items span same o = let h = spans_within o.text_end [] 0 entries o.number span o.is in let l = ap length same in omega arith

-- and has no more headers than there are entries
pub outlined_headers : (entries items : List Named) (span : UnitSpan) → items ≡ entries → IsOutlined entries span → length span.headers ≤ length items
outlined_headers entries items span same o =
    let h = one_of_total (units_from o.text_end [] 0 entries) o.number span o.is in
    let f = few_total o.text_end entries in
    let l = ap length same in omega arith
