-- Groups that a round leaves as they are: their ranges are a matching, and each is named by the first range of its class.
use Rattle.std.proofs.Common.{◌≡◌, ◌≢◌, ℕ, zero, suc, ◌<◌, ◌≤◌, ◌⊎◌, Bool, true, false, cond, List, [], ◌∷◌, ◌++◌, length, get_or, map, refl, sym, ap, ◌∙◌, arith, inl, inr, subst, eqb}
use Rattle.std.specs.List.{Contains}
use Rattle.std.proofs.lemmas.Bool.{cases_eq, cases_lt, eq-eqb, eqb-true, ne_eqb}
use Rattle.std.proofs.lemmas.List.Elements.{Contains-append_cases, Contains-append_left, Contains-append_right, Contains-push, Contains-push_cases}
use Rattle.bincl_match.specs.declared.prepared.Prepared.{Prepared}
use Rattle.bincl_match.specs.declared.range.RangeOf.{RangeOf}
use Rattle.bincl_match.specs.Lawful.{IsLawful}
use Rattle.bincl_match.specs.Matching.{Among, InOneClass, IsKept, IsMatching, Shares}
use Rattle.bincl_match.specs.Crowding.{AreFirsts, key_at}
use Rattle.bincl_match.specs.Refining.{Alike, AreMarks, ArePrepared, AreRefined, AreSettled, IsPrepared, group_of}
use Rattle.bincl_match.proofs.MarkLemmas.{all_agree_of}
use Rattle.bincl_match.proofs.MergingLemmas.{pair_more}
use Rattle.bincl_match.proofs.RefineLemmas.{AreSignatures, first_again, keys_equal, signed, some_at}

-- ---- a matching

-- what two different ranges of one group have
record Joins (x y : RangeOf) (a b : Bool) : Type 0 where
  left : a ≡ false
  right : b ≡ false
  names : x.name ≡ y.name
  shapes : x.shape ≡ y.shape

-- neither stands alone
joins : (i j : ℕ) (x y : RangeOf) (a b : Bool) → i ≢ j → Alike i j x y a b → Joins x y a b
joins i j x y true true apart e = absurd (apart e)
joins i j x y true false apart e = absurd e
joins i j x y false true apart e = absurd e
joins i j x y false false apart e = record { left = refl; right = refl; names = e.0; shapes = e.1 }

-- so it is a candidate, with marks
joins_parts : (rs : List RangeOf) (x : RangeOf) (lone : Bool) (marks : List ℕ) → lone ≡ false → IsPrepared rs x lone marks → (x.candidate ≡ true) × AreMarks rs x.unit x.numbers marks
joins_parts rs x lone marks e prepared = subst (λ (b : Bool). IsPrepared rs x b marks) e prepared

-- groups that a round leaves are a matching
settled_matching : (rs : List RangeOf) (prepared : List Prepared) (keys : List (List ℕ)) (g : List ℕ) → IsLawful rs → ArePrepared rs prepared
    → AreRefined rs prepared g → AreSignatures prepared g keys → AreFirsts keys g → IsMatching rs (Shares (length rs) g)
settled_matching rs prepared keys g law ready old sigs f i j share =
    let lti : i < length rs = share.0 in
    let ltj : j < length rs = share.1 in
    let x = some_at rs i lti in
    let y = some_at rs j ltj in
    let p = some_at prepared i (omega (arith, ready.count)) in
    let q = some_at prepared j (omega (arith, ready.count)) in
    let join : Joins x.0 y.0 p.0.lone q.0.lone = joins i j x.0 y.0 p.0.lone q.0.lone share.2 (old.finer i j x.0 y.0 p.0 q.0 x.1 y.1 p.1 q.1 share.3) in
    let pr = joins_parts rs x.0 p.0.lone p.0.marks join.left (ready.each i x.0 p.0 x.1 p.1) in
    let qr = joins_parts rs y.0 q.0.lone q.0.marks join.right (ready.each j y.0 q.0 y.1 q.1) in
    let keyed : key_at keys i ≡ key_at keys j = keys_equal keys g f i j (omega (arith, sigs.count, ready.count)) (omega (arith, sigs.count, ready.count)) share.3 in
    let marks : map (group_of g) p.0.marks ≡ map (group_of g) q.0.marks = (signed prepared g keys sigs i j p.0 q.0 p.1 q.1 keyed).1 in
    record {
      first = x.0;
      second = y.0;
      first_is = x.1;
      second_is = y.1;
      candidates = (pr.0, qr.0);
      units = λ e. share.2 (law.only_one i j x.0 y.0 x.1 y.1 pr.0 e join.names join.shapes);
      names = join.names;
      shapes = join.shapes;
      agree = all_agree_of rs g x.0.unit y.0.unit x.0.numbers y.0.numbers p.0.marks q.0.marks pr.1 qr.1 marks;
    }

-- groups that a round leaves are settled
pub settled : (rs : List RangeOf) (prepared : List Prepared) (keys : List (List ℕ)) (g next : List ℕ) → IsLawful rs → ArePrepared rs prepared → AreRefined rs prepared g → AreSignatures prepared g keys → AreFirsts keys next → next ≡ g
    → AreSettled rs g
settled rs prepared keys g next law ready old s f e =
    let h : AreFirsts keys g = subst (AreFirsts keys) e f in
    record { matching = settled_matching rs prepared keys g law ready old s h; first = λ i lt. first_again keys g h i (omega (arith, s.count, ready.count)) }

-- ---- the pairs of groups as a list

-- the pairs of i and a place below n that pass a test
row : (ℕ → ℕ → Bool) → ℕ → ℕ → List (ℕ × ℕ)
row test i zero = []
row test i (suc j) = cond (test i j) (row test i j ++ (i, j) ∷ []) (row test i j)

-- those of a place below m and one below n
grid : (ℕ → ℕ → Bool) → ℕ → ℕ → List (ℕ × ℕ)
grid test zero n = []
grid test (suc i) n = grid test i n ++ row test i n

-- the pair of the last place, or one of those before
row_push : (t : ℕ → ℕ → Bool) (i j k : ℕ) (b : Bool) → t i j ≡ b → k < suc j → t i k ≡ true → (k < j → Contains (row t i j) (i, k)) → Contains (cond b (row t i j ++ (i, j) ∷ []) (row t i j)) (i, k)
row_push t i j k true e lt is old = by_order (cases_lt k j) where
  by_order : (k < j) ⊎ (j ≤ k) → Contains (row t i j ++ (i, j) ∷ []) (i, k)
  by_order (inl less) = Contains-append_left (row t i j) ((i, j) ∷ []) (i, k) (old less)
  by_order (inr more) = let h : j ≡ k = omega arith in subst (λ (z : ℕ). Contains (row t i j ++ (i, j) ∷ []) (i, z)) h (Contains-push (row t i j) (i, j))
row_push t i j k false e lt is old = by_order (cases_eq k j) where
  by_order : (k ≡ j) ⊎ (k ≡ j → ⊥) → Contains (row t i j) (i, k)
  by_order (inl h) = let u : t i k ≡ t i j = ap (t i) h in let v : true ≡ false = sym is ∙ u ∙ e in cc
  by_order (inr ne) = old (omega (arith, ne))

-- a row has what passes
row_has : (t : ℕ → ℕ → Bool) (i k n : ℕ) → k < n → t i k ≡ true → Contains (row t i n) (i, k)
unfolding row
row_has t i k zero lt is = absurd (omega arith)
row_has t i k (suc j) lt is = row_push t i j k (t i j) refl lt is (λ less. row_has t i k j less is)

-- and so have all rows
grid_has : (t : ℕ → ℕ → Bool) (h k m n : ℕ) → h < m → k < n → t h k ≡ true → Contains (grid t m n) (h, k)
unfolding grid
grid_has t h k zero n lt less is = absurd (omega arith)
grid_has t h k (suc i) n lt less is = by_order (cases_eq h i) (λ l. grid_has t h k i n l less is) where
  by_order : (h ≡ i) ⊎ (h ≡ i → ⊥) → (h < i → Contains (grid t i n) (h, k)) → Contains (grid t i n ++ row t i n) (h, k)
  by_order (inl e) old = subst (λ (z : ℕ). Contains (grid t i n ++ row t z n) (h, k)) e (Contains-append_right (grid t i n) (row t h n) (h, k) (row_has t h k n less is))
  by_order (inr ne) old = Contains-append_left (grid t i n) (row t i n) (h, k) (old (omega (arith, ne)))

-- with one more place, a pair passes
row_step : (t : ℕ → ℕ → Bool) (i j : ℕ) (p : ℕ × ℕ) (b : Bool) → t i j ≡ b → Contains (cond b (row t i j ++ (i, j) ∷ []) (row t i j)) p
    → (Contains (row t i j) p → (p.0 ≡ i) × (p.1 < j) × (t p.0 p.1 ≡ true)) → (p.0 ≡ i) × (p.1 < suc j) × (t p.0 p.1 ≡ true)
row_step t i j p true e has old = by_case (Contains-push_cases (row t i j) (i, j) p has) where
  by_case : Contains (row t i j) p ⊎ ((i, j) ≡ p) → (p.0 ≡ i) × (p.1 < suc j) × (t p.0 p.1 ≡ true)
  by_case (inl h) = let o = old h in (o.0, omega arith, o.2)
  by_case (inr h) =
      let a : i ≡ p.0 = ap (λ (z : ℕ × ℕ). z.0) h in
      let b : j ≡ p.1 = ap (λ (z : ℕ × ℕ). z.1) h in
      (sym a, omega arith, sym (ap (λ (z : ℕ × ℕ). t z.0 z.1) h) ∙ e)
row_step t i j p false e has old = let o = old has in (o.0, omega arith, o.2)

-- a row has no other pairs
row_only : (t : ℕ → ℕ → Bool) (i n : ℕ) (p : ℕ × ℕ) → Contains (row t i n) p → (p.0 ≡ i) × (p.1 < n) × (t p.0 p.1 ≡ true)
unfolding row
row_only t i zero p has = absurd (omega arith)
row_only t i (suc j) p has = row_step t i j p (t i j) refl has (row_only t i j p)

-- nor have all rows
grid_only : (t : ℕ → ℕ → Bool) (m n : ℕ) (p : ℕ × ℕ) → Contains (grid t m n) p → (p.0 < m) × (p.1 < n) × (t p.0 p.1 ≡ true)
unfolding grid
grid_only t zero n p has = absurd (omega arith)
grid_only t (suc i) n p has = by_case (Contains-append_cases (grid t i n) (row t i n) p has) (grid_only t i n p) where
  by_case : Contains (grid t i n) p ⊎ Contains (row t i n) p → (Contains (grid t i n) p → (p.0 < i) × (p.1 < n) × (t p.0 p.1 ≡ true)) → (p.0 < suc i) × (p.1 < n) × (t p.0 p.1 ≡ true)
  by_case (inl h) old = let o = old h in (omega arith, o.1, o.2)
  by_case (inr h) old = let o = row_only t i n p h in (omega arith, o.1, o.2)

-- two places are different and share a group
share_test : List ℕ → ℕ → ℕ → Bool
share_test g i j = cond (eqb i j) false (eqb (get_or g i 0) (get_or g j 0))

-- what shares a group passes
test_of : (g : List ℕ) (n i j : ℕ) → Shares n g i j → share_test g i j ≡ true
unfolding share_test
test_of g n i j s = rw (ne_eqb i j s.2) (eq-eqb (get_or g i 0) (get_or g j 0) s.3)

-- and the other way round
share_by : (i j a b : ℕ) → cond (eqb i j) false (eqb a b) ≡ true → (i ≢ j) × (a ≡ b)
share_by i j a b e = by_case (cases_eq i j) where
  by_case : (i ≡ j) ⊎ (i ≡ j → ⊥) → (i ≢ j) × (a ≡ b)
  by_case (inl h) = let c = rw (eq-eqb i j h) at e in let d : false ≡ true = c in cc
  by_case (inr ne) = (ne, eqb-true a b (rw (ne_eqb i j ne) at e))

-- the pairs that share a group
sharing : List ℕ → ℕ → List (ℕ × ℕ)
sharing g n = grid (share_test g) n n

-- the list has them
sharing_has : (g : List ℕ) (n i j : ℕ) → Shares n g i j → Contains (sharing g n) (i, j)
unfolding sharing
sharing_has g n i j s = grid_has (share_test g) i j n n s.0 s.1 (test_of g n i j s)

-- and no others
sharing_only : (g : List ℕ) (n i j : ℕ) → Contains (sharing g n) (i, j) → Shares n g i j
unfolding sharing share_test
sharing_only g n i j has =
    let o = grid_only (share_test g) n n (i, j) has in
    let s = share_by i j (get_or g i 0) (get_or g j 0) o.2 in
    (o.0, o.1, s.0, s.1)

-- in either order
among_shares : (g : List ℕ) (n i j : ℕ) → Among (sharing g n) i j → Shares n g i j
among_shares g n i j (inl h) = sharing_only g n i j h
among_shares g n i j (inr h) = let s = sharing_only g n j i h in (s.1, s.0, (λ e. s.2 (sym e)), sym s.3)

-- so a matching that shares groups is a list of pairs
sharing_matching : (rs : List RangeOf) (g : List ℕ) → IsMatching rs (Shares (length rs) g) → IsMatching rs (Among (sharing g (length rs)))
sharing_matching rs g m i j a =
    pair_more rs (Shares (length rs) g) (Among (sharing g (length rs))) (λ k l s. inl (sharing_has g (length rs) k l s)) i j (m i j (among_shares g (length rs) i j a))

-- and ranges that share a group are of one class
pub shares_class : (rs : List RangeOf) (g : List ℕ) (i j : ℕ) → IsMatching rs (Shares (length rs) g) → i < length rs → j < length rs → get_or g i 0 ≡ get_or g j 0 → InOneClass rs i j
shares_class rs g i j m lti ltj same = by_case (cases_eq i j) where
  by_case : (i ≡ j) ⊎ (i ≡ j → ⊥) → InOneClass rs i j
  by_case (inl e) = inl e
  by_case (inr ne) = inr (sharing g (length rs), sharing_matching rs g m, inl (sharing_has g (length rs) i j (lti, ltj, ne, same)))

-- ---- kept ranges

-- ranges of one class are of one group
pub class_shares : (rs : List RangeOf) (prepared : List Prepared) (g : List ℕ) → AreRefined rs prepared g → (i j : ℕ) → InOneClass rs i j → get_or g i 0 ≡ get_or g j 0
class_shares rs prepared g old i j (inl e) = ap (λ (z : ℕ). get_or g z 0) e
class_shares rs prepared g old i j (inr (pairs, m, a)) = old.keeps pairs m i j a

-- the group's number is the first range of the class
pub kept_first : (rs : List RangeOf) (prepared : List Prepared) (g : List ℕ) → AreRefined rs prepared g → AreSettled rs g → (i : ℕ) → i < length rs → IsKept rs i (get_or g i 0)
kept_first rs prepared g old done i lt = (
  shares_class rs g i (get_or g i 0) done.matching lt (omega (arith, old.low i)) (sym (done.first i lt)),
  (λ j one. let e : get_or g i 0 ≡ get_or g j 0 = class_shares rs prepared g old i j one in omega (arith, old.low j)),
)
