-- Where every range is kept, there is exactly one grouping.
use Rattle.std.proofs.Common.{◌≡◌, ℕ, zero, suc, ◌+◌, ◌^◌, ◌<◌, List, [], ◌∷◌, ◌++◌, length, get_or, refl, sym, ap, ◌∙◌, arith, subst}
use Rattle.std.proofs.lemmas.List.{ext_get_or}
use Rattle.std.proofs.lemmas.Option.{slice_get_within}
use Rattle.bincl_match.specs.declared.range.Grouping.{Grouping}
use Rattle.bincl_match.specs.declared.range.RangeOf.{RangeOf}
use Rattle.bincl_match.specs.Instances.{AreLow, IsAlone}
use Rattle.bincl_match.proofs.InstanceLemmas.{ArePlaces, places_more}
use Rattle.bincl_match.proofs.GroupingLemmas.{AreInstances, apart_of, grouping_one, instances_some, low_of}

-- ---- one grouping at most

-- the ranges are kept at the same places
kept_one : (ranges : List RangeOf) (g h : Grouping) → IsAlone ranges g → IsAlone ranges h → g.kept ≡ h.kept
kept_one ranges g h a b =
    ext_get_or 0 g.kept h.kept (a.count.0 ∙ sym b.count.0) (λ i lt. let within : i < length ranges = omega (arith, a.count.0) in a.kept i within ∙ sym (b.kept i within))

-- where every range is kept, none has a later one kept
alone_low : (ranges : List RangeOf) (g : Grouping) → IsAlone ranges g → AreLow g.kept
alone_low ranges g a = low_of g.kept (length ranges) a.count.0 (λ i lt. omega (arith, a.kept i lt))

-- the instances are those of kept ranges
alone_instances : (ranges : List RangeOf) (g : Grouping) → IsAlone ranges g → AreInstances ranges g.kept g.instance
alone_instances ranges g a = record {
  count = a.count.1;
  own = λ i lt e. a.own i lt;
  shared = λ i lt. ap (λ (z : ℕ). get_or g.instance z 0) (sym (a.kept i lt));
}

-- one grouping at most keeps every range
pub alone_one : (ranges : List RangeOf) (grouping other : Grouping) → IsAlone ranges grouping → IsAlone ranges other → grouping ≡ other
alone_one ranges g h a b = grouping_one ranges g h (alone_low ranges g a) (kept_one ranges g h a b) (alone_instances ranges g a) (alone_instances ranges h b)

-- ---- there is a grouping

-- the places of so many ranges
places_of : (n : ℕ) → (kept : List ℕ) × ArePlaces n kept
places_of zero = ([], record { count = refl; own = λ i lt. absurd (omega arith) })
places_of (suc n) =
    let old = places_of n in
    let e : n + 1 ≡ suc n = omega arith in
    (old.0 ++ n ∷ [], subst (λ (z : ℕ). ArePlaces z (old.0 ++ n ∷ [])) e (places_more n old.0 (old.0 ++ n ∷ []) refl old.1))

-- so some grouping keeps every range
pub alone_some : (ranges : List RangeOf) → length ranges < 2 ^ 32 → (grouping : Grouping) × IsAlone ranges grouping
alone_some ranges few =
    let places = places_of (length ranges) in
    let kept = places.0 in
    let own = places.1.own in
    let all = instances_some ranges kept few (low_of kept (length ranges) places.1.count (λ i lt. omega (arith, own i lt))) in (
      record { kept = kept; instance = all.0 },
      record {
        count = (places.1.count, all.1.count);
        kept = own;
        own = λ i lt. all.1.own i lt (own i lt);
        apart = λ i j x y x_is y_is name ne. apart_of ranges kept all.0 all.1 i j x y x_is y_is name (own i (slice_get_within ranges i x x_is)) (own j (slice_get_within ranges j y y_is)) ne;
      },
    )
