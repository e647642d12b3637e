-- Groups by name and shape, and which of them some unit has twice.
use Rattle.std.proofs.Common.{◌≡◌, ◌≢◌, ℕ, zero, suc, ◌+◌, ◌<◌, ◌≤◌, ◌⊎◌, ◌&&◌, ◌||◌, ◌==◌, Bool, true, false, cond, List, [], ◌∷◌, length, get_or, Some, refl, sym, ap, ◌∙◌, arith, inl, inr, subst, slice_set}
use Rattle.std.specs.Prelude.{slice_get, nat_eq}
use Rattle.std.specs.List.{list_any}
use Rattle.std.specs.Cmp.Lexicographic.{pointwise, pointwise_decides}
use Rattle.std.proofs.lemmas.Bool.{eq-eqb, eqb-true, cases_eq, cases_lt}
use Rattle.std.proofs.lemmas.Option.{slice_get_within}
use Rattle.std.proofs.lemmas.List.{length-set}
use Rattle.std.proofs.lemmas.Slice.Eq.{bytes_eq-Decides}
use Rattle.bincl_match.specs.declared.range.RangeOf.{RangeOf}
use Rattle.bincl_match.specs.Ranges.{is_like, is_like_in, is_repeated}
use Rattle.bincl_match.specs.Crowding.{AreKeys, AreFirsts, AreGroups, Tells, Met, Twice, CrowdedSoFar, AreCrowded}
use Rattle.bincl_match.proofs.ListLemmas.{some_is, none_is, both, both_true, which, not_both, get_beside}

-- ---- a flag that is set

-- the item that was set
get_set_same : {A : Type 0} (xs : List A) (i : ℕ) (y : A) → i < length xs → slice_get (slice_set xs i y) i ≡ Some y
get_set_same [] i y l = absurd (omega arith)
get_set_same (x ∷ xs) zero y l = refl
get_set_same (x ∷ xs) (suc i) y l = get_set_same xs i y (omega arith)

-- the others stay
get_set_other : {A : Type 0} (xs : List A) (i k : ℕ) (y : A) → k ≢ i → slice_get (slice_set xs i y) k ≡ slice_get xs k
get_set_other [] i k y n = refl
get_set_other (x ∷ xs) zero zero y n = absurd (n refl)
get_set_other (x ∷ xs) zero (suc k) y n = refl
get_set_other (x ∷ xs) (suc i) zero y n = refl
get_set_other (x ∷ xs) (suc i) (suc k) y n = get_set_other xs i k y (λ e. n (ap suc e))

-- ---- groups

-- first places of keys are groups
pub are_groups : (rs : List RangeOf) (keys : List (List ℕ)) (g : List ℕ) → AreKeys rs keys → AreFirsts keys g → AreGroups rs g
are_groups rs keys g sk af =
    let inside = λ (i : ℕ) (x : RangeOf) (e : slice_get rs i ≡ Some x). (let l : i < length rs = slice_get_within rs i x e in let c : length keys ≡ length rs = sk.count in let h : i < length keys = omega arith in h) in
    record {
      count = af.count ∙ sk.count;
      low = λ i l. (let c : length keys ≡ length rs = sk.count in let h : i < length keys = omega arith in let f : get_or g i 0 ≤ i = (af.each i h).0 in omega arith);
      to = λ i j x y ei ej n s. same_first keys g i j af (inside i x ei) (inside j y ej) (sk.keyed i j x y ei ej n s);
      from = λ i j x y ei ej e.
          let a = af.each i (inside i x ei) in
          let b = af.each j (inside j y ej) in
          let k : get_or keys i [] ≡ get_or keys j [] = sym a.1 ∙ ap (λ z. get_or keys z []) e ∙ b.1 in
          sk.alike i j x y ei ej k;
    } where
      same_first : (ks : List (List ℕ)) (out : List ℕ) (i j : ℕ) → AreFirsts ks out → i < length ks → j < length ks → get_or ks i [] ≡ get_or ks j [] → get_or out i 0 ≡ get_or out j 0
      same_first ks out i j f li lj e = by_order (cases_lt (get_or out i 0) (get_or out j 0)) (cases_lt (get_or out j 0) (get_or out i 0)) where
        by_order : (get_or out i 0 < get_or out j 0) ⊎ (get_or out j 0 ≤ get_or out i 0) → (get_or out j 0 < get_or out i 0) ⊎ (get_or out i 0 ≤ get_or out j 0) → get_or out i 0 ≡ get_or out j 0
        by_order (inl h) k = absurd ((f.each j lj).2 (get_or out i 0) h ((f.each i li).1 ∙ e))
        by_order (inr h) (inl k) = absurd ((f.each i li).2 (get_or out j 0) k ((f.each j lj).1 ∙ sym e))
        by_order (inr h) (inr k) = omega arith

-- ---- one more range

-- a test that passes tells the fact
tells_true : {P : Type 0} (b : Bool) → b ≡ true → Tells b P → P
tells_true true e t = t
tells_true false e t = let z : false ≡ true = e in absurd cc

-- one that fails denies it
tells_false : {P : Type 0} (b : Bool) → b ≡ false → Tells b P → P → ⊥
tells_false true e t = let z : true ≡ false = e in absurd cc
tells_false false e t = t

-- a test tells what holds in both cases
tell : {P : Type 0} (b : Bool) → (b ≡ true → P) → (b ≡ false → P → ⊥) → Tells b P
tell true f g = f refl
tell false f g = g refl

module _ (rs : List RangeOf) (g : List ℕ) (n : ℕ) (x : RangeOf) (ex : slice_get rs n ≡ Some x) where
  -- what was met stays met
  met_later : (u k : ℕ) → Met rs g n u k → Met rs g (n + 1) u k
  met_later u k (j, y, l, e, a, b) = (j, y, (let h : j < n + 1 = omega arith in h), e, a, b)

  -- what is met with one more range was met before, or is the new range
  met_back : (u k : ℕ) → Met rs g (n + 1) u k → Met rs g n u k ⊎ ((x.unit ≡ u) × (get_or g n 0 ≡ k))
  met_back u k (j, y, l, e, a, b) = by_case (cases_lt j n) where
    by_case : (j < n) ⊎ (n ≤ j) → Met rs g n u k ⊎ ((x.unit ≡ u) × (get_or g n 0 ≡ k))
    by_case (inl h) = inl (j, y, h, e, a, b)
    by_case (inr h) =
        let q : n ≡ j = omega arith in
        let s : x ≡ y = some_is (slice_get rs n) x y ex (ap (slice_get rs) q ∙ e) in
        inr (ap (λ (z : RangeOf). z.unit) s ∙ a, ap (λ z. get_or g z 0) q ∙ b)

  -- what stands twice stays so
  twice_later : (k : ℕ) → Twice rs g n k → Twice rs g (n + 1) k
  twice_later k (j, l, y, z, a, b, c, d, e, f, h) = (j, l, y, z, a, (let q : l < n + 1 = omega arith in q), c, d, e, f, h)

  -- what stands twice with one more range did so before, or its group was met in the unit of the new one
  twice_back : (k : ℕ) → Twice rs g (n + 1) k → Twice rs g n k ⊎ (Met rs g n x.unit k × (get_or g n 0 ≡ k))
  twice_back k (j, l, y, z, a, b, c, d, e, f, h) = by_case (cases_lt l n) where
    by_case : (l < n) ⊎ (n ≤ l) → Twice rs g n k ⊎ (Met rs g n x.unit k × (get_or g n 0 ≡ k))
    by_case (inl q) = inl (j, l, y, z, a, q, c, d, e, f, h)
    by_case (inr q) =
        let m : n ≡ l = omega arith in
        let s : x ≡ z = some_is (slice_get rs n) x z ex (ap (slice_get rs) m ∙ d) in
        inr ((j, y, (let w : j < n = omega arith in w), c, e ∙ ap (λ (w : RangeOf). w.unit) (sym s), f), ap (λ w. get_or g w 0) m ∙ h)

  -- a pair that was met before: its group is marked
  pub met_again : (met : ℕ → ℕ → Bool) (bad bad2 : List Bool) → get_or g n 0 < length rs → met x.unit (get_or g n 0) ≡ true → bad2 ≡ slice_set bad (get_or g n 0) true → CrowdedSoFar rs g n met bad → CrowdedSoFar rs g (n + 1) met bad2
  met_again met bad bad2 low t e so =
      let here : Met rs g n x.unit (get_or g n 0) = tells_true (met x.unit (get_or g n 0)) t (so.met_is x.unit (get_or g n 0)) in
      record {
        count = ap length e ∙ length-set bad (get_or g n 0) true ∙ so.count;
        met_is = λ u k. tell (met u k)
            (λ q. met_later u k (tells_true (met u k) q (so.met_is u k)))
            (λ q m. still u k q here (met_back u k m));
        bad_is = λ k b q. marked k b here (sym (ap (λ z. slice_get z k) e) ∙ q) (cases_eq k (get_or g n 0));
      } where
        still : (u k : ℕ) → met u k ≡ false → Met rs g n x.unit (get_or g n 0) → Met rs g n u k ⊎ ((x.unit ≡ u) × (get_or g n 0 ≡ k)) → ⊥
        still u k q here2 (inl m) = tells_false (met u k) q (so.met_is u k) m
        still u k q here2 (inr m) =
            let a : met x.unit (get_or g n 0) ≡ met u k = ap (λ z. met z (get_or g n 0)) m.0 ∙ ap (met u) m.1 in
            not_both (met u k) (sym a ∙ t) q

        marked : (k : ℕ) (b : Bool) → Met rs g n x.unit (get_or g n 0) → slice_get (slice_set bad (get_or g n 0) true) k ≡ Some b → (k ≡ get_or g n 0) ⊎ (k ≢ get_or g n 0) → Tells b (Twice rs g (n + 1) k)
        marked k b (j, y, l, ey, a, c) q (inl h) =
            let w : get_or g n 0 < length bad = (let z : length bad ≡ length rs = so.count in omega arith) in
            let v : slice_get (slice_set bad (get_or g n 0) true) k ≡ Some true = ap (slice_get (slice_set bad (get_or g n 0) true)) h ∙ get_set_same bad (get_or g n 0) true w in
            let r : true ≡ b = some_is (slice_get (slice_set bad (get_or g n 0) true) k) true b v q in
            let P : Bool → Type 0 = λ z. Tells z (Twice rs g (n + 1) k) in
            subst P r (j, n, y, x, l, (let z : n < n + 1 = omega arith in z), ey, ex, a, c ∙ sym h, sym h)
        marked k b here2 q (inr h) =
            more k b (so.bad_is k b (sym (get_set_other bad (get_or g n 0) k true h) ∙ q)) (λ z. h (sym z)) where
              more : (m : ℕ) (c : Bool) → Tells c (Twice rs g n m) → (get_or g n 0 ≡ m → ⊥) → Tells c (Twice rs g (n + 1) m)
              more m true v w = twice_later m v
              more m false v w = λ z. never m v w (twice_back m z) where
                never : (m2 : ℕ) → (Twice rs g n m2 → ⊥) → (get_or g n 0 ≡ m2 → ⊥) → Twice rs g n m2 ⊎ (Met rs g n x.unit m2 × (get_or g n 0 ≡ m2)) → ⊥
                never m2 v2 w2 (inl z) = v2 z
                never m2 v2 w2 (inr z) = w2 z.1

  -- a pair that was not met is noted
  pub met_new : (met next : ℕ → ℕ → Bool) (bad : List Bool) → met x.unit (get_or g n 0) ≡ false → ((u k : ℕ) → next u k ≡ cond (nat_eq x.unit u && nat_eq (get_or g n 0) k) true (met u k)) → CrowdedSoFar rs g n met bad → CrowdedSoFar rs g (n + 1) next bad
  met_new met next bad f news so = record {
    count = so.count;
    met_is = λ u k.
        let P : Bool → Type 0 = λ z. Tells z (Met rs g (n + 1) u k) in
        subst P (sym (news u k)) (noted u k (which (nat_eq x.unit u && nat_eq (get_or g n 0) k)));
    bad_is = λ k b q. marks k b (so.bad_is k b q);
  } where
    old : (u k : ℕ) (b : Bool) → Tells b (Met rs g n u k) → ((x.unit ≡ u) × (get_or g n 0 ≡ k) → ⊥) → Tells b (Met rs g (n + 1) u k)
    old u k true t apart = met_later u k t
    old u k false t apart = λ m. by_case (met_back u k m) where
      by_case : Met rs g n u k ⊎ ((x.unit ≡ u) × (get_or g n 0 ≡ k)) → ⊥
      by_case (inl a) = t a
      by_case (inr a) = apart a

    noted : (u k : ℕ) → ((nat_eq x.unit u && nat_eq (get_or g n 0) k) ≡ true) ⊎ ((nat_eq x.unit u && nat_eq (get_or g n 0) k) ≡ false) → Tells (cond (nat_eq x.unit u && nat_eq (get_or g n 0) k) true (met u k)) (Met rs g (n + 1) u k)
    noted u k (inl t) =
        let c = both (nat_eq x.unit u) (nat_eq (get_or g n 0) k) t in
        let P : Bool → Type 0 = λ z. Tells (cond z true (met u k)) (Met rs g (n + 1) u k) in
        subst P (sym t) (n, x, (let z : n < n + 1 = omega arith in z), ex, eqb-true x.unit u c.0, eqb-true (get_or g n 0) k c.1)
    noted u k (inr t) =
        let P : Bool → Type 0 = λ z. Tells (cond z true (met u k)) (Met rs g (n + 1) u k) in
        subst P (sym t) (old u k (met u k) (so.met_is u k)
        (λ a. not_both (nat_eq x.unit u && nat_eq (get_or g n 0) k) (both_true (nat_eq x.unit u) (nat_eq (get_or g n 0) k) (eq-eqb x.unit u a.0) (eq-eqb (get_or g n 0) k a.1)) t))

    marks : (k : ℕ) (b : Bool) → Tells b (Twice rs g n k) → Tells b (Twice rs g (n + 1) k)
    marks k true t = twice_later k t
    marks k false t = λ m. by_case (twice_back k m) where
      by_case : Twice rs g n k ⊎ (Met rs g n x.unit k × (get_or g n 0 ≡ k)) → ⊥
      by_case (inl a) = t a
      by_case (inr a) = tells_false (met x.unit k) (ap (met x.unit) (sym a.1) ∙ f) (so.met_is x.unit k) a.0

-- ---- the whole

-- no range was looked at yet
pub start_crowd : (rs : List RangeOf) (g : List ℕ) (met : ℕ → ℕ → Bool) (bad : List Bool) → ((u k : ℕ) → met u k ≡ false) → length bad ≡ length rs
    → ((k : ℕ) (b : Bool) → slice_get bad k ≡ Some b → b ≡ false) → CrowdedSoFar rs g 0 met bad
start_crowd rs g met bad m l f = record {
  count = l;
  met_is = λ u k. (let P : Bool → Type 0 = λ z. Tells z (Met rs g 0 u k) in subst P (sym (m u k)) (λ h. absurd (let z : h.0 < 0 = h.2 in omega arith)));
  bad_is = λ k b q. (let P : Bool → Type 0 = λ z. Tells z (Twice rs g 0 k) in subst P (sym (f k b q)) (λ h. absurd (let z : h.1 < 0 = h.5 in omega arith)));
}

-- ---- ranges that are alike

-- equal names and shapes, and only they, are alike
pub like_is : (x y : RangeOf) → is_like x y ≡ true → (x.name ≡ y.name) × (x.shape ≡ y.shape)
like_is x y e =
    let p = both (pointwise nat_eq x.name y.name) (pointwise (pointwise nat_eq) x.shape y.shape) e in
    ((bytes_eq-Decides x.name y.name).0 p.0, (pointwise_decides bytes_eq-Decides x.shape y.shape).0 p.1)

-- ranges of one name and shape are alike
pub is_like_of : (x y : RangeOf) → x.name ≡ y.name → x.shape ≡ y.shape → is_like x y ≡ true
is_like_of x y n s = both_true (pointwise nat_eq x.name y.name) (pointwise (pointwise nat_eq) x.shape y.shape)
    ((bytes_eq-Decides x.name y.name).1 n) ((pointwise_decides bytes_eq-Decides x.shape y.shape).1 s)

-- two of the ranges are of one unit and like x
pub record IsTwice (x : RangeOf) (rs : List RangeOf) : Type 0 where
  pub first : ℕ
  pub second : ℕ
  pub y : RangeOf
  pub z : RangeOf
  pub order : first < second
  pub y_is : slice_get rs first ≡ Some y
  pub z_is : slice_get rs second ≡ Some z
  pub units : y.unit ≡ z.unit
  pub y_like : is_like x y ≡ true
  pub z_like : is_like x z ≡ true

-- of a disjunction that passes one side passes
either : (a b : Bool) → (a || b) ≡ true → (a ≡ true) ⊎ (b ≡ true)
either true b e = inl refl
either false b e = inr e

-- and the other way round
one_of : (a b : Bool) → (a ≡ true) ⊎ (b ≡ true) → (a || b) ≡ true
one_of true b h = refl
one_of false b (inl e) = let z : false ≡ true = e in absurd cc
one_of false b (inr e) = e

-- an item that passes, with its place
abbrev AnyAt : (RangeOf → Bool) → List RangeOf → Type 0
AnyAt p rs = (j : ℕ) × (z : RangeOf) × (slice_get rs j ≡ Some z) × (p z ≡ true)

-- where some item passes there is one
any_at : (p : RangeOf → Bool) (rs : List RangeOf) → list_any p rs ≡ true → AnyAt p rs
any_at p [] e = let z : false ≡ true = e in absurd cc
any_at p (x ∷ rs) e = by_case (either (p x) (list_any p rs) e) (λ h. any_at p rs h) where
  by_case : (p x ≡ true) ⊎ (list_any p rs ≡ true) → (list_any p rs ≡ true → AnyAt p rs) → AnyAt p (x ∷ rs)
  by_case (inl h) more = (zero, x, refl, h)
  by_case (inr h) more = let r = more h in (suc r.0, r.1, r.2, r.3)

-- and the other way round
at_any : (p : RangeOf → Bool) (rs : List RangeOf) (j : ℕ) (z : RangeOf) → slice_get rs j ≡ Some z → p z ≡ true → list_any p rs ≡ true
at_any p [] j z e h = absurd (none_is z e)
at_any p (x ∷ rs) zero z e h = one_of (p x) (list_any p rs) (inl (ap p (some_is (Some x) x z refl e) ∙ h))
at_any p (x ∷ rs) (suc j) z e h = one_of (p x) (list_any p rs) (inr (at_any p rs j z e h))

-- where a range is repeated, two ranges of one unit are like it
pub twice_of : (x : RangeOf) (rs : List RangeOf) → is_repeated x rs ≡ true → IsTwice x rs
twice_of x [] e = let z : false ≡ true = e in absurd cc
twice_of x (y ∷ ys) e = by_case (either (is_like x y && list_any (is_like_in x y.unit) ys) (is_repeated x ys) e) (λ h. twice_of x ys h) where
  by_case : ((is_like x y && list_any (is_like_in x y.unit) ys) ≡ true) ⊎ (is_repeated x ys ≡ true) → (is_repeated x ys ≡ true → IsTwice x ys) → IsTwice x (y ∷ ys)
  by_case (inl h) more =
      let p = both (is_like x y) (list_any (is_like_in x y.unit) ys) h in
      let r = any_at (is_like_in x y.unit) ys p.1 in
      let q = both (r.1.unit == y.unit) (is_like x r.1) r.3 in
      record { first = zero; second = suc r.0; y = y; z = r.1; order = omega arith; y_is = refl; z_is = r.2; units = sym (eqb-true r.1.unit y.unit q.0); y_like = p.0; z_like = q.1 }
  by_case (inr h) more =
      let t = more h in
      let o : t.first < t.second = t.order in
      record { first = suc t.first; second = suc t.second; y = t.y; z = t.z; order = omega arith; y_is = t.y_is; z_is = t.z_is; units = t.units; y_like = t.y_like; z_like = t.z_like }

-- and the other way round, by places
repeated_at : (x : RangeOf) (rs : List RangeOf) (j l : ℕ) (y z : RangeOf) → j < l → slice_get rs j ≡ Some y → slice_get rs l ≡ Some z → y.unit ≡ z.unit → is_like x y ≡ true → is_like x z ≡ true → is_repeated x rs ≡ true
repeated_at x [] j l y z o ey ez u a b = absurd (none_is y ey)
repeated_at x (w ∷ rs) zero zero y z o ey ez u a b = absurd (omega arith)
repeated_at x (w ∷ rs) zero (suc l) y z o ey ez u a b =
    let s : w ≡ y = some_is (Some w) w y refl ey in
    one_of (is_like x w && list_any (is_like_in x w.unit) rs) (is_repeated x rs) (inl (both_true (is_like x w) (list_any (is_like_in x w.unit) rs)
    (ap (is_like x) s ∙ a)
    (at_any (is_like_in x w.unit) rs l z ez (both_true (z.unit == w.unit) (is_like x z) (eq-eqb z.unit w.unit (sym u ∙ ap (λ (v : RangeOf). v.unit) (sym s))) b))))
repeated_at x (w ∷ rs) (suc j) zero y z o ey ez u a b = absurd (omega arith)
repeated_at x (w ∷ rs) (suc j) (suc l) y z o ey ez u a b =
    one_of (is_like x w && list_any (is_like_in x w.unit) rs) (is_repeated x rs) (inr (repeated_at x rs j l y z (omega arith) ey ez u a b))

-- two ranges of one unit that are like a range make it repeated
pub repeated_of : (x : RangeOf) (rs : List RangeOf) → IsTwice x rs → is_repeated x rs ≡ true
repeated_of x rs t = repeated_at x rs t.first t.second t.y t.z t.order t.y_is t.z_is t.units t.y_like t.z_like

-- ---- the flags of ranges

module _ (rs : List RangeOf) (g : List ℕ) (ag : AreGroups rs g) (i : ℕ) (x : RangeOf) (ex : slice_get rs i ≡ Some x) where
  -- two such ranges are of its group
  in_groups : IsTwice x rs → Twice rs g (length rs) (get_or g i 0)
  in_groups t =
      let a = like_is x t.y t.y_like in
      let b = like_is x t.z t.z_like in (
        t.first,
        t.second,
        t.y,
        t.z,
        t.order,
        slice_get_within rs t.second t.z t.z_is,
        t.y_is,
        t.z_is,
        t.units,
        ag.to t.first i t.y x t.y_is ex (sym a.0) (sym a.1),
        ag.to t.second i t.z x t.z_is ex (sym b.0) (sym b.1),
      )

  -- two ranges of its group and of one unit are such
  in_ranges : Twice rs g (length rs) (get_or g i 0) → IsTwice x rs
  in_ranges (j, l, y, z, o, n, ey, ez, u, a, b) =
      let p = ag.from i j x y ex ey (sym a) in
      let q = ag.from i l x z ex ez (sym b) in
      record { first = j; second = l; y = y; z = z; order = o; y_is = ey; z_is = ez; units = u; y_like = is_like_of x y p.0 p.1; z_like = is_like_of x z q.0 q.1 }

  -- so the flag of the group is that of the range
  flag_is : (b : Bool) → Tells b (Twice rs g (length rs) (get_or g i 0)) → b ≡ is_repeated x rs
  flag_is true t = sym (repeated_of x rs (in_ranges t))
  flag_is false t = by_case (which (is_repeated x rs)) where
    by_case : (is_repeated x rs ≡ true) ⊎ (is_repeated x rs ≡ false) → false ≡ is_repeated x rs
    by_case (inl h) = absurd (t (in_groups (twice_of x rs h)))
    by_case (inr h) = sym h

-- the flag of its group for each range
pub are_crowded : (rs : List RangeOf) (g : List ℕ) (bad out : List Bool) → AreGroups rs g → ((k : ℕ) (b : Bool) → slice_get bad k ≡ Some b → Tells b (Twice rs g (length rs) k))
    → length out ≡ length rs → ((i : ℕ) (b : Bool) → slice_get out i ≡ Some b → slice_get bad (get_or g i 0) ≡ Some b) → AreCrowded rs out
are_crowded rs g bad out ag tells lo is = record {
  count = lo;
  each = λ i x ex.
      let b = get_beside rs out i x (sym lo) ex in
      b.1 ∙ ap Some (flag_is rs g ag i x ex b.0 (tells (get_or g i 0) b.0 (is i b.0 b.1)));
}
