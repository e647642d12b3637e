-- Classes of ranges, and ranges that are all kept, are mergings.
use Rattle.std.proofs.Common.{◌≡◌, ◌≢◌, ℕ, ◌≤◌, ◌⊎◌, List, [], ◌∷◌, length, get_or, Some, refl, sym, ap, ◌∙◌, arith, inl, inr}
use Rattle.std.specs.Prelude.{slice_get}
use Rattle.std.proofs.lemmas.Bool.{cases_eq}
use Rattle.std.proofs.lemmas.Option.{slice_get_within}
use Rattle.bincl_match.specs.declared.range.Grouping.{Grouping}
use Rattle.bincl_match.specs.declared.range.RangeOf.{RangeOf}
use Rattle.bincl_match.specs.Instances.{IsAlone}
use Rattle.bincl_match.specs.Matching.{AllAgree, Among, AreClasses, InOneClass, MayPair, NumbersAgree, Shares}
use Rattle.bincl_match.specs.Merging.{IsMerging}
use Rattle.bincl_match.proofs.ListLemmas.{some_is}

-- ---- more pairs

module _ (rs : List RangeOf) (P Q : ℕ → ℕ → Type 0) (more : (k l : ℕ) → P k l → Q k l) where
  -- numbers agree where there are more pairs
  numbers_more : (u v m n : ℕ) → NumbersAgree rs P u v m n → NumbersAgree rs Q u v m n
  numbers_more u v m n (inl z) = inl z
  numbers_more u v m n (inr (k, l, hk, hl, inl e)) = inr (k, l, hk, hl, inl e)
  numbers_more u v m n (inr (k, l, hk, hl, inr p)) = inr (k, l, hk, hl, inr (more k l p))

  -- all of them
  agree_more : (u v : ℕ) (ms ns : List ℕ) → AllAgree rs P u v ms ns → AllAgree rs Q u v ms ns
  agree_more u v [] [] a = tt
  agree_more u v [] (n ∷ ns) a = absurd a
  agree_more u v (m ∷ ms) [] a = absurd a
  agree_more u v (m ∷ ms) (n ∷ ns) a = (numbers_more u v m n a.0, agree_more u v ms ns a.1)

  -- so ranges that may be one still may
  pub pair_more : (i j : ℕ) → MayPair rs P i j → MayPair rs Q i j
  pair_more i j m = record {
    first = m.first;
    second = m.second;
    first_is = m.first_is;
    second_is = m.second_is;
    candidates = m.candidates;
    units = m.units;
    names = m.names;
    shapes = m.shapes;
    agree = agree_more m.first.unit m.second.unit m.first.numbers m.second.numbers m.agree;
  }

-- ranges of one unit are no pair
pub not_a_pair : (rs : List RangeOf) (P : ℕ → ℕ → Type 0) (i j : ℕ) (x y : RangeOf) → slice_get rs i ≡ Some x → slice_get rs j ≡ Some y → x.unit ≡ y.unit → MayPair rs P i j → ⊥
not_a_pair rs P i j x y x_is y_is same m =
    m.units (sym (ap (λ (z : RangeOf). z.unit) (some_is (slice_get rs i) x m.first x_is m.first_is)) ∙ same ∙ ap (λ (z : RangeOf). z.unit) (some_is (slice_get rs j) y m.second y_is m.second_is))

-- ---- classes

module _ (rs : List RangeOf) (g : Grouping) (are : AreClasses rs g) where
  -- a range that is not kept is a pair with its kept one
  other_paired : (i k : ℕ) → k ≢ i → InOneClass rs i k → MayPair rs (λ a b. get_or g.kept a 0 ≡ get_or g.kept b 0) i k
  other_paired i k ne (inl e) = absurd (ne (sym e))
  other_paired i k ne (inr (pairs, m, a)) = pair_more rs (Among pairs) (λ a b. get_or g.kept a 0 ≡ get_or g.kept b 0) (are.greatest pairs m) i k (m i k a)

  -- ranges of one class have one kept range
  kept_same : (i k : ℕ) → InOneClass rs i k → get_or g.kept i 0 ≡ get_or g.kept k 0
  kept_same i k (inl e) = ap (λ (z : ℕ). get_or g.kept z 0) e
  kept_same i k (inr (pairs, m, a)) = are.greatest pairs m i k a

  -- two ranges of a unit have two kept ranges
  unit_apart : (i j : ℕ) (x y : RangeOf) → slice_get rs i ≡ Some x → slice_get rs j ≡ Some y → x.unit ≡ y.unit → get_or g.kept i 0 ≡ get_or g.kept j 0 → i ≡ j
  unit_apart i j x y x_is y_is same kept = by_case (cases_eq i j) where
    by_case : (i ≡ j) ⊎ (i ≡ j → ⊥) → i ≡ j
    by_case (inl e) = e
    by_case (inr ne) =
        absurd (not_a_pair rs (Shares (length rs) g.kept) i j x y x_is y_is same
        (are.sound i j (slice_get_within rs i x x_is, slice_get_within rs j y y_is, ne, kept)))

  -- classes are a merging
  pub classes_merging : IsMerging rs g
  classes_merging = record {
    count = are.count;
    inside = λ i lt. let low : get_or g.kept i 0 ≤ i = (are.first i lt).1 i (inl refl) in omega arith;
    fixed = λ i lt. sym (kept_same i (get_or g.kept i 0) (are.first i lt).0);
    paired = λ i lt ne. other_paired i (get_or g.kept i 0) ne (are.first i lt).0;
    apart = unit_apart;
    shared = are.shared;
    different = are.apart;
  }

-- ---- all ranges kept

-- ranges that are all kept are a merging
pub alone_merging : (rs : List RangeOf) (g : Grouping) → IsAlone rs g → IsMerging rs g
alone_merging rs g are = record {
  count = are.count;
  inside = λ i lt. omega (arith, are.kept i lt);
  fixed = λ i lt. ap (λ (z : ℕ). get_or g.kept z 0) (are.kept i lt);
  paired = λ i lt ne. absurd (ne (are.kept i lt));
  apart = λ i j x y x_is y_is unit same. sym (are.kept i (slice_get_within rs i x x_is)) ∙ same ∙ are.kept j (slice_get_within rs j y y_is);
  shared = λ i lt. ap (λ (z : ℕ). get_or g.instance z 0) (sym (are.kept i lt));
  different = λ i j x y x_is y_is name own also ne. are.apart i j x y x_is y_is name ne;
}
