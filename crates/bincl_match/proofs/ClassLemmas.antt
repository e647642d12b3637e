-- Matchings and classes: unions, what ranges of one class have, and that there is exactly one grouping by classes.
use Rattle.std.proofs.Common.{◌≡◌, ℕ, ◌^◌, ◌<◌, ◌≤◌, ◌⊎◌, List, ◌++◌, length, get_or, Some, refl, sym, ◌∙◌, arith, inl, inr, subst}
use Rattle.std.specs.Prelude.{slice_get}
use Rattle.std.specs.List.{Contains}
use Rattle.std.proofs.lemmas.List.{ext_get_or}
use Rattle.std.proofs.lemmas.List.Elements.{Contains-append_cases, Contains-append_left, Contains-append_right}
use Rattle.std.proofs.lemmas.Option.{slice_get_within}
use Rattle.bincl_match.specs.declared.prepared.Prepared.{Prepared}
use Rattle.bincl_match.specs.declared.range.Grouping.{Grouping}
use Rattle.bincl_match.specs.declared.range.RangeOf.{RangeOf}
use Rattle.bincl_match.specs.Instances.{AreLow, IsInstance}
use Rattle.bincl_match.specs.Lawful.{IsLawful}
use Rattle.bincl_match.specs.Matching.{Among, AreClasses, InOneClass, IsKept, IsMatching, MayPair}
use Rattle.bincl_match.specs.Refining.{AreRefined, AreSettled}
use Rattle.bincl_match.proofs.GroupingLemmas.{AreInstances, apart_of, grouping_one, instances_from, instances_some, low_of}
use Rattle.bincl_match.proofs.MergingLemmas.{not_a_pair, pair_more}
use Rattle.bincl_match.proofs.SettleLemmas.{class_shares, kept_first, shares_class}
use Rattle.bincl_match.proofs.RoundLemmas.{settled_some}

-- ---- unions

-- a pair of the first list
among_left : (p q : List (ℕ × ℕ)) (i j : ℕ) → Among p i j → Among (p ++ q) i j
among_left p q i j (inl h) = inl (Contains-append_left p q (i, j) h)
among_left p q i j (inr h) = inr (Contains-append_left p q (j, i) h)

-- a pair of the second
among_right : (p q : List (ℕ × ℕ)) (i j : ℕ) → Among q i j → Among (p ++ q) i j
among_right p q i j (inl h) = inl (Contains-append_right p q (i, j) h)
among_right p q i j (inr h) = inr (Contains-append_right p q (j, i) h)

-- a pair of both together
among_cases : (p q : List (ℕ × ℕ)) (i j : ℕ) → Among (p ++ q) i j → Among p i j ⊎ Among q i j
among_cases p q i j (inl h) = by_case (Contains-append_cases p q (i, j) h) where
  by_case : Contains p (i, j) ⊎ Contains q (i, j) → Among p i j ⊎ Among q i j
  by_case (inl a) = inl (inl a)
  by_case (inr a) = inr (inl a)
among_cases p q i j (inr h) = by_case (Contains-append_cases p q (j, i) h) where
  by_case : Contains p (j, i) ⊎ Contains q (j, i) → Among p i j ⊎ Among q i j
  by_case (inl a) = inl (inr a)
  by_case (inr a) = inr (inr a)

-- the union of two matchings is one
pub matching_union : (rs : List RangeOf) (p q : List (ℕ × ℕ)) → IsMatching rs (Among p) → IsMatching rs (Among q) → IsMatching rs (Among (p ++ q))
matching_union rs p q m n i j a = by_case (among_cases p q i j a) where
  by_case : Among p i j ⊎ Among q i j → MayPair rs (Among (p ++ q)) i j
  by_case (inl b) = pair_more rs (Among p) (Among (p ++ q)) (among_left p q) i j (m i j b)
  by_case (inr b) = pair_more rs (Among q) (Among (p ++ q)) (among_right p q) i j (n i j b)

-- ---- one class

-- no class has two ranges of one unit
pub one_of_a_unit : (rs : List RangeOf) (i j : ℕ) (x y : RangeOf) → slice_get rs i ≡ Some x → slice_get rs j ≡ Some y → x.unit ≡ y.unit → InOneClass rs i j → i ≡ j
one_of_a_unit rs i j x y x_is y_is same (inl e) = e
one_of_a_unit rs i j x y x_is y_is same (inr (pairs, m, a)) = absurd (not_a_pair rs (Among pairs) i j x y x_is y_is same (m i j a))

-- a range is of its own class
pub class_refl : (rs : List RangeOf) (i : ℕ) → InOneClass rs i i
class_refl rs i = inl refl

-- classes have no order
pub class_sym : (rs : List RangeOf) (i j : ℕ) → InOneClass rs i j → InOneClass rs j i
class_sym rs i j (inl e) = inl (sym e)
class_sym rs i j (inr (pairs, m, inl a)) = inr (pairs, m, inr a)
class_sym rs i j (inr (pairs, m, inr a)) = inr (pairs, m, inl a)

-- two pairs of matchings, by the groups that no round splits
class_join : (rs : List RangeOf) → IsLawful rs → (i j k : ℕ) → i < length rs → k < length rs → InOneClass rs i j → InOneClass rs j k → InOneClass rs i k
class_join rs law i j k lti ltk a b =
    let all = settled_some rs law in
    let groups = all.1.0 in
    shares_class rs groups i k all.1.2.matching lti ltk (class_shares rs all.0 groups all.1.1 i j a ∙ class_shares rs all.0 groups all.1.1 j k b)

-- what is of one class with a range is of one class with those of its class
pub class_trans : (rs : List RangeOf) → IsLawful rs → (i j k : ℕ) → InOneClass rs i j → InOneClass rs j k → InOneClass rs i k
class_trans rs law i j k (inl e) b = subst (λ (z : ℕ). InOneClass rs z k) (sym e) b
class_trans rs law i j k (inr a) (inl e) = subst (λ (z : ℕ). InOneClass rs i z) e (inr a)
class_trans rs law i j k (inr (p, m, a)) (inr (q, n, b)) =
    let s = m i j a in
    let t = n j k b in
    class_join rs law i j k (slice_get_within rs i s.first s.first_is) (slice_get_within rs k t.second t.second_is) (inr (p, m, a)) (inr (q, n, b))

-- ---- the grouping

module _ (rs : List RangeOf) (prepared : List Prepared) (kept instance : List ℕ) where
  -- groups that no round splits, and their instances, are the classes
  pub classes_of : AreRefined rs prepared kept → AreSettled rs kept → AreInstances rs kept instance → AreClasses rs (record { kept = kept; instance = instance })
  classes_of old done are = record {
    count = (old.count, are.count);
    sound = done.matching;
    greatest = old.keeps;
    first = kept_first rs prepared kept old done;
    own = are.own;
    shared = are.shared;
    apart = λ i j x y x_is y_is name own also ne. apart_of rs kept instance are i j x y x_is y_is name own also ne;
  }

-- as the code reads them
pub classes_from : (rs items also : List RangeOf) (prepared : List Prepared) (kept list instance : List ℕ) → items ≡ rs → also ≡ rs → list ≡ kept → AreRefined items prepared kept → AreSettled items kept
    → length instance ≡ length also → ((i : ℕ) → i < length also → get_or list i 0 ≡ i → IsInstance also list instance i) → ((i : ℕ) → i < length also → get_or instance i 0 ≡ get_or instance (get_or list i 0) 0)
    → AreClasses rs (record { kept = kept; instance = instance })
classes_from rs items also prepared kept list instance same same_too is old done long own shared =
    classes_of rs prepared kept instance (subst (λ (z : List RangeOf). AreRefined z prepared kept) same old) (subst (λ (z : List RangeOf). AreSettled z kept) same done)
    (instances_from rs also kept list instance same_too is long own shared)

-- the classes of lawful ranges
pub classes_some : (ranges : List RangeOf) → IsLawful ranges → length ranges < 2 ^ 32 → (grouping : Grouping) × AreClasses ranges grouping
classes_some rs law few =
    let all = settled_some rs law in
    let kept = all.1.0 in
    let instance = instances_some rs kept few all.1.1.low in
    (record { kept = kept; instance = instance.0 }, classes_of rs all.0 kept instance.0 all.1.1 all.1.2 instance.1)

-- the first range of a class is one
kept_one : (rs : List RangeOf) (i k l : ℕ) → IsKept rs i k → IsKept rs i l → k ≡ l
kept_one rs i k l a b = let x : k ≤ l = a.1 l b.0 in let y : l ≤ k = b.1 k a.0 in omega arith

-- no range has a later one kept
classes_low : (rs : List RangeOf) (g : Grouping) → AreClasses rs g → AreLow g.kept
classes_low rs g a = low_of g.kept (length rs) a.count.0 (λ i lt. (a.first i lt).1 i (inl refl))

-- the instances are those of kept ranges
class_instances : (rs : List RangeOf) (g : Grouping) → AreClasses rs g → AreInstances rs g.kept g.instance
class_instances rs g a = record { count = a.count.1; own = a.own; shared = a.shared }

-- one grouping at most is by classes
pub classes_one : (ranges : List RangeOf) (grouping other : Grouping) → AreClasses ranges grouping → AreClasses ranges other → grouping ≡ other
classes_one rs g h a b =
    grouping_one rs g h (classes_low rs g a)
    (ext_get_or 0 g.kept h.kept (a.count.0 ∙ sym b.count.0) (λ i lt. let within : i < length rs = omega (arith, a.count.0) in kept_one rs i (get_or g.kept i 0) (get_or h.kept i 0) (a.first i within) (b.first i within)))
    (class_instances rs g a) (class_instances rs h b)
