-- What one more range does to the instances so far.
use Rattle.std.proofs.Common.{◌≡◌, ◌≢◌, ℕ, ◌+◌, ◌%◌, ◌^◌, ◌<◌, ◌≤◌, ◌⊎◌, ◌&&◌, Bool, true, false, cond, List, [], ◌∷◌, ◌++◌, length, get_or, Some, refl, sym, ap, ◌∙◌, arith, inl, inr, subst, below_more}
use Rattle.std.specs.Prelude.{slice_get, slice_index, nat_eq}
use Rattle.std.proofs.lemmas.Bool.{cases_eq, eq-eqb, eqb-true}
use Rattle.std.proofs.lemmas.Option.{slice_get_within, slice_get_read}
use Rattle.std.proofs.Math.Seq.{get_or-append_seam}
use Rattle.std.proofs.Math.ListN.{get_or-append, length-append}
use Rattle.std.specs.Cmp.Lexicographic.{pointwise}
use Rattle.std.proofs.lemmas.Slice.Eq.{bytes_eq-Decides}
use Rattle.bincl_match.specs.declared.range.RangeOf.{RangeOf}
use Rattle.bincl_match.specs.Instances.{AreLow, IsTaken, FirstFrom, IsInstance, IsAlone}
use Rattle.bincl_match.proofs.ListLemmas.{some_is, both, both_true}

-- ---- the instances so far

-- what a test tells of an instance
abbrev pub TakenBy : List RangeOf → List ℕ → List ℕ → ℕ → List ℕ → ℕ → Bool → Type 0
TakenBy rs kept out i name v true = IsTaken rs kept out i name v
TakenBy rs kept out i name v false = IsTaken rs kept out i name v → ⊥

-- the instances of the first i ranges
pub record InstancesSoFar (rs : List RangeOf) (kept : List ℕ) (i : ℕ) (out : List ℕ) (found : List ℕ → ℕ → Bool) (size : ℕ) : Type 0 where
  pub count : length out ≡ i
  pub own : (j : ℕ) → j < i → get_or kept j 0 ≡ j → IsInstance rs kept out j
  pub shared : (j : ℕ) → j < i → get_or out j 0 ≡ get_or out (get_or kept j 0) 0
  pub taken : (name : List ℕ) (v : ℕ) → TakenBy rs kept out i name v (found name v)
  pub room : size ≤ i

-- one more instance does not change what stands before it
taken_on : (rs : List RangeOf) (kept out : List ℕ) (w i : ℕ) (name : List ℕ) (v : ℕ) → i ≤ length out → IsTaken rs kept out i name v → IsTaken rs kept (out ++ w ∷ []) i name v
taken_on rs kept out w i name v le (j, x, lt, is, n, k, o) = (j, x, lt, is, n, k, get_or-append out (w ∷ []) 0 j (omega arith) ∙ o)

-- and the other way round
taken_back : (rs : List RangeOf) (kept out : List ℕ) (w i : ℕ) (name : List ℕ) (v : ℕ) → i ≤ length out → IsTaken rs kept (out ++ w ∷ []) i name v → IsTaken rs kept out i name v
taken_back rs kept out w i name v le (j, x, lt, is, n, k, o) = (j, x, lt, is, n, k, sym (get_or-append out (w ∷ []) 0 j (omega arith)) ∙ o)

-- and no instance
instance_on : (rs : List RangeOf) (kept out : List ℕ) (w j : ℕ) → j < length out → IsInstance rs kept out j → IsInstance rs kept (out ++ w ∷ []) j
instance_on rs kept out w j lt (x, is, (d, v, un, all)) =
    let e : get_or (out ++ w ∷ []) j 0 ≡ get_or out j 0 = get_or-append out (w ∷ []) 0 j lt in (
      x,
      is,
      (
        d,
        e ∙ v,
        (λ t. let U : ℕ → Type 0 = λ z. IsTaken rs kept out j x.name z in un (subst U e (taken_back rs kept out w j x.name (get_or (out ++ w ∷ []) j 0) (omega arith) t))),
        (λ b below. taken_on rs kept out w j x.name ((x.sum + b) % 2 ^ 32) (omega arith) (all b below)),
      ),
    )

-- the last item
last_is : (out : List ℕ) (w i : ℕ) → length out ≡ i → get_or (out ++ w ∷ []) i 0 ≡ w
last_is out w i n = ap (λ (z : ℕ). get_or (out ++ w ∷ []) z 0) (sym n) ∙ get_or-append_seam out w [] 0

-- one more instance, which may be that of a kept range
own_on : (rs : List RangeOf) (kept out : List ℕ) (i w : ℕ) → length out ≡ i → ((j : ℕ) → j < i → get_or kept j 0 ≡ j → IsInstance rs kept out j)
    → (get_or kept i 0 ≡ i → IsInstance rs kept (out ++ w ∷ []) i) → (j : ℕ) → j < i + 1 → get_or kept j 0 ≡ j → IsInstance rs kept (out ++ w ∷ []) j
own_on rs kept out i w n old here =
    below_more (λ j. get_or kept j 0 ≡ j → IsInstance rs kept (out ++ w ∷ []) j) i (λ j lt k. instance_on rs kept out w j (omega arith) (old j lt k)) here

-- one more range has the instance of its kept range
shared_on : (kept out : List ℕ) (i w : ℕ) → AreLow kept → length out ≡ i → ((j : ℕ) → j < i → get_or out j 0 ≡ get_or out (get_or kept j 0) 0)
    → w ≡ get_or (out ++ w ∷ []) (get_or kept i 0) 0 → (j : ℕ) → j < i + 1 → get_or (out ++ w ∷ []) j 0 ≡ get_or (out ++ w ∷ []) (get_or kept j 0) 0
shared_on kept out i w low n old here =
    below_more (λ j. get_or (out ++ w ∷ []) j 0 ≡ get_or (out ++ w ∷ []) (get_or kept j 0) 0) i
    (λ j lt. get_or-append out (w ∷ []) 0 j (omega arith) ∙ old j lt ∙ sym (get_or-append out (w ∷ []) 0 (get_or kept j 0) (omega (arith, low j))))
    (last_is out w i n ∙ here)

-- a range that is not kept
other_by : (rs : List RangeOf) (kept out : List ℕ) (i w : ℕ) (name : List ℕ) (v : ℕ) (b : Bool) → length out ≡ i → (get_or kept i 0 ≡ i → ⊥) → TakenBy rs kept out i name v b → TakenBy rs kept (out ++ w ∷ []) (i + 1) name v b
other_by rs kept out i w name v true n not old = more (taken_on rs kept out w i name v (omega arith) old) where
  more : IsTaken rs kept (out ++ w ∷ []) i name v → IsTaken rs kept (out ++ w ∷ []) (i + 1) name v
  more (j, x, lt, is, m, k, o) = (j, x, omega arith, is, m, k, o)
other_by rs kept out i w name v false n not old = less where
  less : IsTaken rs kept (out ++ w ∷ []) (i + 1) name v → ⊥
  less (j, x, lt, is, m, k, o) = by_case (cases_eq j i) where
    by_case : (j ≡ i) ⊎ (j ≡ i → ⊥) → ⊥
    by_case (inl e) = not (ap (λ (z : ℕ). get_or kept z 0) (sym e) ∙ k ∙ e)
    by_case (inr ne) = old (taken_back rs kept out w i name v (omega arith) (j, x, omega (arith, ne), is, m, k, o))

-- such a range is one more
pub other_more : (rs : List RangeOf) (kept : List ℕ) (i : ℕ) (out : List ℕ) (found : List ℕ → ℕ → Bool) (size w : ℕ) → AreLow kept → get_or kept i 0 < i → w ≡ get_or out (get_or kept i 0) 0
    → InstancesSoFar rs kept i out found size → InstancesSoFar rs kept (i + 1) (out ++ w ∷ []) found size
other_more rs kept i out found size w low less is old =
    let not : get_or kept i 0 ≡ i → ⊥ = λ e. absurd (omega (arith, e, less)) in
    record {
      count = length-append out (w ∷ []) ∙ omega (arith, old.count);
      own = own_on rs kept out i w old.count old.own (λ e. absurd (not e));
      shared = shared_on kept out i w low old.count old.shared (is ∙ sym (get_or-append out (w ∷ []) 0 (get_or kept i 0) (omega (arith, old.count))));
      taken = λ name v. other_by rs kept out i w name v (found name v) old.count not (old.taken name v);
      room = omega (arith, old.room);
    }

-- a kept range
new_by : (rs : List RangeOf) (kept out : List ℕ) (i w : ℕ) (name : List ℕ) (v : ℕ) (x : RangeOf) (b c : Bool) → length out ≡ i → slice_get rs i ≡ Some x → get_or kept i 0 ≡ i
    → (c ≡ true → (x.name ≡ name) × (w ≡ v)) → ((x.name ≡ name) × (w ≡ v) → c ≡ true) → TakenBy rs kept out i name v b → TakenBy rs kept (out ++ w ∷ []) (i + 1) name v (cond c true b)
new_by rs kept out i w name v x b true n is k to from old = let h = to refl in (i, x, omega arith, is, h.0, k, last_is out w i n ∙ h.1)
new_by rs kept out i w name v x true false n is k to from old = more (taken_on rs kept out w i name v (omega arith) old) where
  more : IsTaken rs kept (out ++ w ∷ []) i name v → IsTaken rs kept (out ++ w ∷ []) (i + 1) name v
  more (j, y, lt, yis, m, l, o) = (j, y, omega arith, yis, m, l, o)
new_by rs kept out i w name v x false false n is k to from old = less where
  less : IsTaken rs kept (out ++ w ∷ []) (i + 1) name v → ⊥
  less (j, y, lt, yis, m, l, o) = by_case (cases_eq j i) where
    by_case : (j ≡ i) ⊎ (j ≡ i → ⊥) → ⊥
    by_case (inl e) =
        let same : x ≡ y = some_is (slice_get rs i) x y is (ap (slice_get rs) (sym e) ∙ yis) in
        let a : x.name ≡ name = ap (λ (z : RangeOf). z.name) same ∙ m in
        let b : w ≡ v = sym (last_is out w i n) ∙ ap (λ (z : ℕ). get_or (out ++ w ∷ []) z 0) (sym e) ∙ o in
        let f : false ≡ true = from (a, b) in absurd cc
    by_case (inr ne) = old (taken_back rs kept out w i name v (omega arith) (j, y, omega (arith, ne), yis, m, l, o))

-- an instance that is taken passes the test
taken_true : (rs : List RangeOf) (kept out : List ℕ) (i : ℕ) (name : List ℕ) (v : ℕ) (b : Bool) → TakenBy rs kept out i name v b → IsTaken rs kept out i name v → b ≡ true
taken_true rs kept out i name v true t is = refl
taken_true rs kept out i name v false t is = absurd (t is)

-- one that passes is taken
true_taken : (rs : List RangeOf) (kept out : List ℕ) (i : ℕ) (name : List ℕ) (v : ℕ) (b : Bool) → TakenBy rs kept out i name v b → b ≡ true → IsTaken rs kept out i name v
true_taken rs kept out i name v true t e = t
true_taken rs kept out i name v false t e = let h : false ≡ true = e in absurd cc

-- such a range is one more
pub own_more : (rs : List RangeOf) (kept : List ℕ) (i : ℕ) (out : List ℕ) (found new : List ℕ → ℕ → Bool) (size more w : ℕ) (x : RangeOf) → AreLow kept → get_or kept i 0 ≡ i → i < length rs → x ≡ get_or rs i x
    → FirstFrom x.sum (λ v. found x.name v ≡ true) w → ((name : List ℕ) (v : ℕ) → new name v ≡ cond (pointwise nat_eq x.name name && nat_eq w v) true (found name v)) → more ≤ size + 1
    → InstancesSoFar rs kept i out found size → InstancesSoFar rs kept (i + 1) (out ++ w ∷ []) new more
own_more rs kept i out found new size more w x low k lt xis (d, v, un, all) news sized old =
    let is : slice_get rs i ≡ Some x = slice_get_read rs (length rs) i x refl lt xis in
    let e : get_or (out ++ w ∷ []) i 0 ≡ w = last_is out w i old.count in
    record {
      count = length-append out (w ∷ []) ∙ omega (arith, old.count);
      own = own_on rs kept out i w old.count old.own (λ h. (
        x,
        is,
        (
          d,
          e ∙ v,
          (λ t. let U : ℕ → Type 0 = λ z. IsTaken rs kept out i x.name z in
              un (taken_true rs kept out i x.name w (found x.name w) (old.taken x.name w) (subst U e (taken_back rs kept out w i x.name (get_or (out ++ w ∷ []) i 0) (omega (arith, old.count)) t)))),
          (λ b below. taken_on rs kept out w i x.name ((x.sum + b) % 2 ^ 32) (omega (arith, old.count)) (true_taken rs kept out i x.name ((x.sum + b) % 2 ^ 32) (found x.name ((x.sum + b) % 2 ^ 32)) (old.taken x.name ((x.sum + b) % 2 ^ 32)) (all b below))),
        ),
      ));
      shared = shared_on kept out i w low old.count old.shared (sym (ap (λ (z : ℕ). get_or (out ++ w ∷ []) z 0) k ∙ e));
      taken = λ name u.
          let T : Bool → Type 0 = TakenBy rs kept (out ++ w ∷ []) (i + 1) name u in
          subst T (sym (news name u)) (new_by rs kept out i w name u x (found name u) (pointwise nat_eq x.name name && nat_eq w u) old.count is k
          (λ h. let a = both (pointwise nat_eq x.name name) (nat_eq w u) h in ((bytes_eq-Decides x.name name).0 a.0, eqb-true w u a.1))
          (λ h. both_true (pointwise nat_eq x.name name) (nat_eq w u) ((bytes_eq-Decides x.name name).1 h.0) (eq-eqb w u h.1))
          (old.taken name u));
      room = omega (arith, old.room);
    }

-- a set grows by one at most
pub one_more : (m n : ℕ) (b : Bool) → m ≡ n + cond b 1 0 → m ≤ n + 1
one_more m n true e = omega arith
one_more m n false e = omega arith

-- a kept range, as the code reads it
pub own_step : (rs : List RangeOf) (kept : List ℕ) (i : ℕ) (out : List ℕ) (found new : List ℕ → ℕ → Bool) (size more w : ℕ) (x : RangeOf) (key : List ℕ) → key ≡ x.name → AreLow kept → get_or kept i 0 ≡ i → i < length rs → x ≡ get_or rs i x
    → FirstFrom x.sum (λ v. found key v ≡ true) w → ((name : List ℕ) (v : ℕ) → new name v ≡ cond (pointwise nat_eq key name && nat_eq w v) true (found name v)) → more ≤ size + 1
    → InstancesSoFar rs kept i out found size → InstancesSoFar rs kept (i + 1) (out ++ w ∷ []) new more
own_step rs kept i out found new size more w x key e low k lt is first news sized old =
    let F : List ℕ → Type 0 = λ z. FirstFrom x.sum (λ v. found z v ≡ true) w in
    let N : List ℕ → Type 0 = λ z. (name : List ℕ) (v : ℕ) → new name v ≡ cond (pointwise nat_eq z name && nat_eq w v) true (found name v) in
    own_more rs kept i out found new size more w x low k lt is (subst F e first) (subst N e news) sized old

-- ---- every range is kept

-- the list of the places below n
pub record ArePlaces (n : ℕ) (kept : List ℕ) : Type 0 where
  pub count : length kept ≡ n
  pub own : (i : ℕ) → i < n → slice_index kept i ≡ i

-- one more place
pub places_more : (n : ℕ) (kept new : List ℕ) → new ≡ kept ++ n ∷ [] → ArePlaces n kept → ArePlaces (n + 1) new
places_more n kept new is old =
    let more : ArePlaces (n + 1) (kept ++ n ∷ []) = record {
      count = length-append kept (n ∷ []) ∙ omega (arith, old.count);
      own = below_more (λ i. get_or (kept ++ n ∷ []) i 0 ≡ i) n
          (λ i lt. get_or-append kept (n ∷ []) 0 i (omega (arith, old.count)) ∙ old.own i lt) (last_is kept n n old.count);
    } in
    subst (λ (z : List ℕ). ArePlaces (n + 1) z) (sym is) more

-- what the calls tell, as one fact
pub alone_of : (rs : List RangeOf) (kept items instance : List ℕ) → items ≡ kept → length kept ≡ length rs → ((i : ℕ) → i < length rs → slice_index kept i ≡ i)
    → length instance ≡ length rs → ((i : ℕ) → i < length rs → slice_index items i ≡ i → IsInstance rs items instance i)
    → ((i j : ℕ) (x y : RangeOf) → slice_get rs i ≡ Some x → slice_get rs j ≡ Some y → x.name ≡ y.name → slice_index items i ≡ i → slice_index items j ≡ j → i ≢ j → slice_index instance i ≢ slice_index instance j)
    → IsAlone rs (record { kept = kept; instance = instance })
alone_of rs kept items instance is count own long each apart =
    let same = λ (i : ℕ). ap (λ (z : List ℕ). slice_index z i) is in
    record {
      count = (count, long);
      kept = own;
      own = λ i lt. subst (λ (z : List ℕ). IsInstance rs z instance i) is (each i lt (same i ∙ own i lt));
      apart = λ i j x y xis yis n ne. apart i j x y xis yis n (same i ∙ own i (slice_get_within rs i x xis)) (same j ∙ own j (slice_get_within rs j y yis)) ne;
    }
