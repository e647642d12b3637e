-- The map of headers, and the marks that are found in it.
use Rattle.std.proofs.Common.{◌≡◌, ◌≢◌, ℕ, zero, suc, ◌+◌, ◌<◌, ◌≤◌, ◌⊎◌, ◌&&◌, Bool, true, false, cond, List, [], ◌∷◌, ◌++◌, length, get_or, take, Option, Some, None, refl, sym, ap, ◌∙◌, arith, inl, inr, subst, below_more}
use Rattle.std.specs.Prelude.{slice_get, nat_eq}
use Rattle.std.proofs.lemmas.Bool.{eq-eqb, eqb-true}
use Rattle.std.proofs.lemmas.List.{get_or_default, take_all, take_more}
use Rattle.std.proofs.lemmas.Option.{slice_get_read, slice_get_within}
use Rattle.std.proofs.Math.ListN.{length-append}
use Rattle.bincl_match.specs.declared.prepared.Prepared.{Prepared}
use Rattle.bincl_match.specs.declared.range.RangeOf.{RangeOf}
use Rattle.bincl_match.specs.Lawful.{IsHeader}
use Rattle.bincl_match.specs.Refining.{AreMarks, Found, HasLost, IsLost, IsMark, IsMarkFor, IsPrepared}
use Rattle.bincl_match.proofs.ListLemmas.{InBack, both, both_true, get_cases, none_is, some_is}

-- ---- the map

-- one more range, whose unit and file these are, or are not
found_by : (rs : List RangeOf) (i u f : ℕ) (x : RangeOf) (old : Option ℕ) (b : Bool) → slice_get rs i ≡ Some x → b ≡ (nat_eq x.unit u && nat_eq x.file f) → Found rs i u f old → Found rs (i + 1) u f (cond b (Some (suc i)) old)
found_by rs i u f x old true is test before =
    let h = both (nat_eq x.unit u) (nat_eq x.file f) (sym test) in
    (omega arith, (x, is, eqb-true x.unit u h.0, eqb-true x.file f h.1))
found_by rs i u f x (Some zero) false is test before = absurd before
found_by rs i u f x (Some (suc k)) false is test before = (omega (arith, before.0), before.1)
found_by rs i u f x None false is test before =
    below_more (λ k. IsHeader rs u f k → ⊥) i before
    (λ (y, y_is, unit, file). let e : x ≡ y = some_is (slice_get rs i) x y is y_is in
    let c : false ≡ true = test ∙ both_true (nat_eq x.unit u) (nat_eq x.file f) (eq-eqb x.unit u (ap (λ (z : RangeOf). z.unit) e ∙ unit)) (eq-eqb x.file f (ap (λ (z : RangeOf). z.file) e ∙ file)) in
    absurd cc)

-- the map after one more range
pub found_more : (rs : List RangeOf) (i u f : ℕ) (x : RangeOf) (old new : Option ℕ) → i < length rs → x ≡ get_or rs i x → new ≡ cond (nat_eq x.unit u && nat_eq x.file f) (Some (i + 1)) old
    → Found rs i u f old → Found rs (i + 1) u f new
found_more rs i u f x old new lt at e before =
    let s : i + 1 ≡ suc i = omega arith in
    subst (Found rs (i + 1) u f) (sym (e ∙ ap (λ (z : ℕ). cond (nat_eq x.unit u && nat_eq x.file f) (Some z) old) s))
    (found_by rs i u f x old (nat_eq x.unit u && nat_eq x.file f) (slice_get_read rs (length rs) i x refl lt at) refl before)

-- what the map of all ranges tells is a number's mark, or that it is lost
pub mark_found : (rs : List RangeOf) (u n : ℕ) (o : Option ℕ) → n ≢ 0 → Found rs (length rs) u n o → IsMarkFor rs u n o
mark_found rs u n None ne found = (ne, (λ k h. found k (slice_get_within rs k h.0 h.1) h))
mark_found rs u n (Some zero) ne found = absurd found
mark_found rs u n (Some (suc k)) ne found = found.1

-- ---- marks so far

-- where one of the numbers is lost, they have a lost one
lost_at : (rs : List RangeOf) (u : ℕ) (ns : List ℕ) (i n : ℕ) → i < length ns → n ≡ get_or ns i n → IsLost rs u n → HasLost rs u ns
lost_at rs u [] i n lt is lost = absurd (omega (arith, lt))
lost_at rs u (m ∷ ns) zero n lt is lost = inl (subst (IsLost rs u) is lost)
lost_at rs u (m ∷ ns) (suc i) n lt is lost = inr (lost_at rs u ns i n (omega (arith, lt)) is lost)

-- one more mark
marks_push : (rs : List RangeOf) (u : ℕ) (ns ms : List ℕ) (n m : ℕ) → AreMarks rs u ns ms → IsMark rs u n m → AreMarks rs u (ns ++ n ∷ []) (ms ++ m ∷ [])
marks_push rs u [] [] n m old here = (here, tt)
marks_push rs u [] (b ∷ ms) n m old here = absurd old
marks_push rs u (a ∷ ns) [] n m old here = absurd old
marks_push rs u (a ∷ ns) (b ∷ ms) n m old here = (old.0, marks_push rs u ns ms n m old.1 here)

-- the mark of the next number
marks_more : (rs : List RangeOf) (u : ℕ) (ns ms : List ℕ) (i n m : ℕ) → i < length ns → n ≡ get_or ns i n → AreMarks rs u (take i ns) ms → IsMark rs u n m → AreMarks rs u (take (i + 1) ns) (ms ++ m ∷ [])
marks_more rs u ns ms i n m lt is old here =
    let e : take i ns ++ n ∷ [] ≡ take (i + 1) ns = ap (λ (z : ℕ). take i ns ++ z ∷ []) is ∙ sym (take_more ns i n lt) in
    subst (λ (z : List ℕ). AreMarks rs u z (ms ++ m ∷ [])) e (marks_push rs u (take i ns) ms n m old here)

-- a lost number, as the code reads it
pub lost_in : (rs : List RangeOf) (u : ℕ) (ns items : List ℕ) (i : ℕ) → items ≡ ns → i < length items → IsLost rs u (get_or items i 0) → HasLost rs u ns
lost_in rs u ns items i e lt lost = subst (HasLost rs u) e (lost_at rs u items i (get_or items i 0) lt (get_or_default items i 0 (get_or items i 0) lt) lost)

-- a mark, as the code reads it
pub marks_in : (rs : List RangeOf) (u : ℕ) (ns items ms : List ℕ) (i m : ℕ) → items ≡ ns → i < length items → AreMarks rs u (take i ns) ms → IsMark rs u (get_or items i 0) m → AreMarks rs u (take (i + 1) ns) (ms ++ m ∷ [])
marks_in rs u ns items ms i m e lt old here =
    let within : i < length ns = subst (λ (z : List ℕ). i < length z) e lt in
    marks_more rs u ns ms i (get_or ns i 0) m within (get_or_default ns i 0 (get_or ns i 0) within) old (subst (λ (z : List ℕ). IsMark rs u (get_or z i 0) m) e here)

-- the marks of all numbers, as the code reads them
pub marks_all : (rs : List RangeOf) (u : ℕ) (ns items ms : List ℕ) (i : ℕ) → items ≡ ns → length items ≤ i → AreMarks rs u (take i ns) ms → AreMarks rs u ns ms
marks_all rs u ns items ms i e past are = subst (λ (z : List ℕ). AreMarks rs u z ms) (take_all i ns (subst (λ (z : List ℕ). length z ≤ i) e past)) are

-- what is read of the range at a place, as the code reads it
pub read_as : (rs : List RangeOf) (i : ℕ) (r : RangeOf) (lone : Bool) (marks : List ℕ) → i < length rs → r ≡ get_or rs i r → IsPrepared rs r lone marks → (x : RangeOf) → slice_get rs i ≡ Some x → IsPrepared rs x lone marks
read_as rs i r lone marks lt at is x x_is = subst (λ (z : RangeOf). IsPrepared rs z lone marks) (some_is (slice_get rs i) r x (slice_get_read rs (length rs) i r refl lt at) x_is) is

-- ---- ranges so far

-- the first i ranges are prepared
pub record PreparedSoFar (rs : List RangeOf) (i : ℕ) (prepared : List Prepared) : Type 0 where
  pub count : length prepared ≡ i
  pub each : (j : ℕ) (x : RangeOf) (p : Prepared) → slice_get rs j ≡ Some x → slice_get prepared j ≡ Some p → IsPrepared rs x p.lone p.marks

-- one of the old ones, or the new one
prepared_at : (rs : List RangeOf) (i : ℕ) (prepared : List Prepared) (one p : Prepared) (j : ℕ) (x : RangeOf) → length prepared ≡ i → ((y : RangeOf) → slice_get rs i ≡ Some y → IsPrepared rs y one.lone one.marks) → slice_get rs j ≡ Some x
    → (slice_get prepared j ≡ Some p → IsPrepared rs x p.lone p.marks) → (slice_get prepared j ≡ Some p) ⊎ InBack prepared (one ∷ []) j p → IsPrepared rs x p.lone p.marks
prepared_at rs i prepared one p j x count here is old (inl h) = old h
prepared_at rs i prepared one p j x count here is old (inr (zero, at, e)) =
    let same : j ≡ i = omega (arith, count) in
    let what : one ≡ p = some_is (Some one) one p refl e in
    subst (λ (z : Prepared). IsPrepared rs x z.lone z.marks) what (here x (ap (slice_get rs) (sym same) ∙ is))
prepared_at rs i prepared one p j x count here is old (inr (suc k, at, e)) = absurd (none_is p e)

-- one more range
pub prepared_more : (rs : List RangeOf) (i : ℕ) (prepared : List Prepared) (one : Prepared) → ((y : RangeOf) → slice_get rs i ≡ Some y → IsPrepared rs y one.lone one.marks)
    → PreparedSoFar rs i prepared → PreparedSoFar rs (i + 1) (prepared ++ one ∷ [])
prepared_more rs i prepared one here old = record {
  count = length-append prepared (one ∷ []) ∙ omega (arith, old.count);
  each = λ j x p x_is p_is. prepared_at rs i prepared one p j x old.count here x_is (old.each j x p x_is) (get_cases prepared (one ∷ []) j p p_is);
}
