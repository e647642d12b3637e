-- Which ranges are kept determines their instances, by whatever rule they are chosen; and there always are such instances.
use Rattle.std.proofs.Common.{◌≡◌, ◌≢◌, ℕ, zero, suc, ◌+◌, ◌%◌, ◌^◌, ◌<◌, ◌≤◌, ◌⊎◌, ◌&&◌, ◌||◌, Bool, true, false, cond, List, [], ◌∷◌, ◌++◌, length, get_or, Some, refl, sym, ap, ◌∙◌, arith, inl, inr, subst, below_more}
use Rattle.std.specs.Prelude.{slice_get, nat_eq}
use Rattle.std.specs.List.{list_any}
use Rattle.std.proofs.lemmas.Bool.{cases_eq, cases_lt, eq-eqb, eqb-true}
use Rattle.std.proofs.lemmas.List.{ext_get_or}
use Rattle.std.proofs.lemmas.Option.{slice_get_within}
use Rattle.std.proofs.Math.ListN.{get_or-eq_default}
use Rattle.std.specs.Cmp.Lexicographic.{pointwise}
use Rattle.std.proofs.lemmas.Slice.Eq.{bytes_eq-Decides}
use Rattle.bincl_match.specs.declared.range.Grouping.{Grouping}
use Rattle.bincl_match.specs.declared.range.RangeOf.{RangeOf}
use Rattle.bincl_match.specs.Instances.{AreLow, IsTaken, FirstFrom, IsInstance}
use Rattle.bincl_match.specs.Crowding.{AreTried}
use Rattle.bincl_match.proofs.ListLemmas.{some_is, both, both_true, which}
use Rattle.bincl_match.proofs.FreeLemmas.{Key, key_is, tries_within, first_free}
use Rattle.bincl_match.proofs.InstanceLemmas.{InstancesSoFar, own_more, other_more}

-- the instances of ranges, where these are kept
pub record AreInstances (rs : List RangeOf) (kept out : List ℕ) : Type 0 where
  pub count : length out ≡ length rs
  pub own : (i : ℕ) → i < length rs → get_or kept i 0 ≡ i → IsInstance rs kept out i
  pub shared : (i : ℕ) → i < length rs → get_or out i 0 ≡ get_or out (get_or kept i 0) 0

-- as the code reads them
pub instances_from : (rs items : List RangeOf) (kept list out : List ℕ) → items ≡ rs → list ≡ kept → length out ≡ length items → ((i : ℕ) → i < length items → get_or list i 0 ≡ i → IsInstance items list out i)
    → ((i : ℕ) → i < length items → get_or out i 0 ≡ get_or out (get_or list i 0) 0) → AreInstances rs kept out
instances_from rs items kept list out same is count own shared =
    let here : AreInstances items list out = record { count = count; own = own; shared = shared } in
    subst (λ (z : List RangeOf). AreInstances z kept out) same (subst (λ (z : List ℕ). AreInstances items z out) is here)

-- where none of so many ranges has a later one kept, no place has
pub low_of : (kept : List ℕ) (n : ℕ) → length kept ≡ n → ((i : ℕ) → i < n → get_or kept i 0 ≤ i) → AreLow kept
low_of kept n count low i = by_case (cases_lt i n) where
  by_case : (i < n) ⊎ (n ≤ i) → get_or kept i 0 ≤ i
  by_case (inl lt) = low i lt
  by_case (inr le) = omega (arith, get_or-eq_default kept 0 (subst (λ (z : ℕ). z ≤ i) (sym count) le))

-- ---- one grouping at most

-- where the same numbers are taken, one is the first that is not
first_one : (sum : ℕ) (T U : ℕ → Type 0) (v w : ℕ) → ((n : ℕ) → T n → U n) → ((n : ℕ) → U n → T n) → FirstFrom sum T v → FirstFrom sum U w → v ≡ w
first_one sum T U v w to from (d, v_is, v_free, below) (e, w_is, w_free, under) = by_order (cases_lt d e) (cases_lt e d) where
  by_order : (d < e) ⊎ (e ≤ d) → (e < d) ⊎ (d ≤ e) → v ≡ w
  by_order (inl less) k = absurd (v_free (from v (subst U (sym v_is) (under d less))))
  by_order (inr le) (inl less) = absurd (w_free (to w (subst T (sym w_is) (below e less))))
  by_order (inr le) (inr ge) = let same : d ≡ e = omega arith in v_is ∙ ap (λ (z : ℕ). (sum + z) % 2 ^ 32) same ∙ sym w_is

-- where earlier ranges have the same instances, the same are taken
taken_alike : (rs : List RangeOf) (kept out other : List ℕ) (i : ℕ) (name : List ℕ) (v : ℕ) → ((j : ℕ) → j < i → get_or out j 0 ≡ get_or other j 0) → IsTaken rs kept out i name v → IsTaken rs kept other i name v
taken_alike rs kept out other i name v same (j, x, lt, is, n, k, o) = (j, x, lt, is, n, k, sym (same j lt) ∙ o)

-- and the next range has the same instance
instance_one : (rs : List RangeOf) (kept out other : List ℕ) (i : ℕ) → ((j : ℕ) → j < i → get_or out j 0 ≡ get_or other j 0) → IsInstance rs kept out i → IsInstance rs kept other i → get_or out i 0 ≡ get_or other i 0
instance_one rs kept out other i same (x, x_is, first) (y, y_is, second) =
    let e : y ≡ x = some_is (slice_get rs i) y x y_is x_is in
    let F : RangeOf → Type 0 = λ z. FirstFrom z.sum (IsTaken rs kept other i z.name) (get_or other i 0) in
    first_one x.sum (IsTaken rs kept out i x.name) (IsTaken rs kept other i x.name) (get_or out i 0) (get_or other i 0)
    (λ v. taken_alike rs kept out other i x.name v same) (λ v. taken_alike rs kept other out i x.name v (λ j lt. sym (same j lt))) first (subst F e second)

-- be it kept or not
instance_next : (rs : List RangeOf) (kept out other : List ℕ) → AreLow kept → AreInstances rs kept out → AreInstances rs kept other → (n : ℕ) → n < length rs
    → ((i : ℕ) → i < n → get_or out i 0 ≡ get_or other i 0) → get_or out n 0 ≡ get_or other n 0
instance_next rs kept out other low a b n lt old = by_case (cases_eq (get_or kept n 0) n) where
  by_case : (get_or kept n 0 ≡ n) ⊎ (get_or kept n 0 ≡ n → ⊥) → get_or out n 0 ≡ get_or other n 0
  by_case (inl own) = instance_one rs kept out other n old (a.own n lt own) (b.own n lt own)
  by_case (inr not) = a.shared n lt ∙ old (get_or kept n 0) (omega (arith, low n, not)) ∙ sym (b.shared n lt)

-- so the first n have the same instances
instances_one : (rs : List RangeOf) (kept out other : List ℕ) → AreLow kept → AreInstances rs kept out → AreInstances rs kept other → (n : ℕ) → n ≤ length rs → (i : ℕ) → i < n → get_or out i 0 ≡ get_or other i 0
instances_one rs kept out other low a b zero le i lt = absurd (omega arith)
instances_one rs kept out other low a b (suc n) le i lt =
    let old = instances_one rs kept out other low a b n (omega arith) in
    below_more (λ i. get_or out i 0 ≡ get_or other i 0) n old (instance_next rs kept out other low a b n (omega arith) old) i (omega arith)

-- a grouping is its two lists
grouping_is : (g h : Grouping) → g.kept ≡ h.kept → g.instance ≡ h.instance → g ≡ h
grouping_is g h k e = ap (λ (z : List ℕ). record { kept = z; instance = g.instance }) k ∙ ap (λ (z : List ℕ). record { kept = h.kept; instance = z }) e

-- so what is kept determines the grouping
pub grouping_one : (rs : List RangeOf) (g h : Grouping) → AreLow g.kept → g.kept ≡ h.kept → AreInstances rs g.kept g.instance → AreInstances rs h.kept h.instance → g ≡ h
grouping_one rs g h low same a b =
    let c : AreInstances rs g.kept h.instance = subst (λ (z : List ℕ). AreInstances rs z h.instance) (sym same) b in
    grouping_is g h same (ext_get_or 0 g.instance h.instance (a.count ∙ sym b.count)
    (λ i lt. instances_one rs g.kept g.instance h.instance low a c (length rs) (omega arith) i (omega (arith, a.count))))

-- ---- free numbers

-- some number is not taken, and all before it are
FreeFrom : (ℕ → Bool) → ℕ → Type 0
FreeFrom taken sum = (d : ℕ) × (taken ((sum + d) % 2 ^ 32) ≡ false) × AreTried taken sum d

-- where no more than so many in a row are taken, there is one
free_from : (taken : ℕ → Bool) (sum most left d : ℕ) → d + left ≡ most + 1 → (AreTried taken sum (most + 1) → ⊥) → AreTried taken sum d → FreeFrom taken sum
unfolding FreeFrom
free_from taken sum most zero d is not tried = absurd (not (λ e lt. tried e (omega (arith, is))))
free_from taken sum most (suc left) d is not tried = by_case (which (taken ((sum + d) % 2 ^ 32))) (λ more. free_from taken sum most left (d + 1) (omega (arith, is)) not more) where
  by_case : (taken ((sum + d) % 2 ^ 32) ≡ true) ⊎ (taken ((sum + d) % 2 ^ 32) ≡ false) → (AreTried taken sum (d + 1) → (d : ℕ) × (taken ((sum + d) % 2 ^ 32) ≡ false) × AreTried taken sum d)
      → (d : ℕ) × (taken ((sum + d) % 2 ^ 32) ≡ false) × AreTried taken sum d
  by_case (inl t) later = later (below_more (λ e. taken ((sum + e) % 2 ^ 32) ≡ true) d tried t)
  by_case (inr f) later = (d, f, tried)

-- fewer than 2 ^ 32 keys leave each name a free number
free_of : (keys : List Key) (name : List ℕ) (sum : ℕ) → length keys < 2 ^ 32 → FreeFrom (λ v. list_any (key_is name v) keys) sum
free_of keys name sum few =
    free_from (λ v. list_any (key_is name v) keys) sum (length keys) (length keys + 1) 0 (omega arith)
    (λ tried. let n : length keys + 1 ≤ length keys = tries_within keys name sum (length keys + 1) (omega arith) tried in absurd (omega arith)) (λ e lt. absurd (omega arith))

-- ---- keys of instances

-- two tests that pass together are one
same_test : (a b : Bool) → (a ≡ true → b ≡ true) → (b ≡ true → a ≡ true) → a ≡ b
same_test true b to from = sym (to refl)
same_test false true to from = from refl
same_test false false to from = refl

-- a test that comes first
any_more : (a b c : Bool) → a ≡ c → (a || b) ≡ cond c true b
any_more true b true e = refl
any_more false b false e = refl
any_more true b false e = let h : true ≡ false = e in cc
any_more false b true e = let h : false ≡ true = e in cc

-- the key of a name and a number
key_of : List ℕ → ℕ → Key
key_of name v = (record { ref_ptr = (0, 0); now = name }, v)

-- where it comes first, it has its name and number
key_more : (keys : List Key) (own : List ℕ) (w : ℕ) (name : List ℕ) (v : ℕ) → list_any (key_is name v) (key_of own w ∷ keys) ≡ cond (pointwise nat_eq own name && nat_eq w v) true (list_any (key_is name v) keys)
unfolding key_of
key_more keys own w name v =
    any_more (pointwise nat_eq name own && nat_eq v w) (list_any (key_is name v) keys) (pointwise nat_eq own name && nat_eq w v)
    (same_test (pointwise nat_eq name own && nat_eq v w) (pointwise nat_eq own name && nat_eq w v)
    (λ h. let a = both (pointwise nat_eq name own) (nat_eq v w) h in
    both_true (pointwise nat_eq own name) (nat_eq w v) ((bytes_eq-Decides own name).1 (sym ((bytes_eq-Decides name own).0 a.0))) (eq-eqb w v (sym (eqb-true v w a.1))))
    (λ h. let a = both (pointwise nat_eq own name) (nat_eq w v) h in
    both_true (pointwise nat_eq name own) (nat_eq v w) ((bytes_eq-Decides name own).1 (sym ((bytes_eq-Decides own name).0 a.0))) (eq-eqb v w (sym (eqb-true w v a.1)))))

-- ---- range by range

-- the first n ranges have instances, and these keys are taken
record Instanced (rs : List RangeOf) (kept : List ℕ) (n : ℕ) : Type 0 where
  pub keys : List Key
  pub out : List ℕ
  pub are : InstancesSoFar rs kept n out (λ name v. list_any (key_is name v) keys) (length keys)

-- no range
none_taken : (rs : List RangeOf) (kept : List ℕ) → InstancesSoFar rs kept 0 [] (λ name v. list_any (key_is name v) []) 0
none_taken rs kept = record {
  count = refl;
  own = λ j lt. absurd (omega arith);
  shared = λ j lt. absurd (omega arith);
  taken = λ name v t. absurd (omega (arith, t.2));
  room = omega arith;
}

-- the item at a place
pub item_at : (rs : List RangeOf) (i : ℕ) → i < length rs → (x : RangeOf) × (x ≡ get_or rs i x)
item_at [] i lt = absurd (omega arith)
item_at (x ∷ rs) zero lt = (x, refl)
item_at (x ∷ rs) (suc i) lt = item_at rs i (omega arith)

-- one kept range more
kept_more : (rs : List RangeOf) (kept : List ℕ) (n : ℕ) → length rs < 2 ^ 32 → AreLow kept → n < length rs → get_or kept n 0 ≡ n → Instanced rs kept n → Instanced rs kept (n + 1)
unfolding FreeFrom
kept_more rs kept n few low lt own old =
    let at = item_at rs n lt in
    let x = at.0 in
    let free = free_of old.keys x.name x.sum (omega (arith, old.are.room)) in
    let w = (x.sum + free.0) % 2 ^ 32 in
    record {
      keys = key_of x.name w ∷ old.keys;
      out = old.out ++ w ∷ [];
      are = own_more rs kept n old.out (λ name v. list_any (key_is name v) old.keys) (λ name v. list_any (key_is name v) (key_of x.name w ∷ old.keys)) (length old.keys) (length (key_of x.name w ∷ old.keys)) w x low own lt at.1
          (first_free (λ v. list_any (key_is x.name v) old.keys) x.sum free.0 w refl free.1 free.2) (key_more old.keys x.name w) (omega arith) old.are;
    }

-- one range more that is not kept
unkept_more : (rs : List RangeOf) (kept : List ℕ) (n : ℕ) → AreLow kept → get_or kept n 0 < n → Instanced rs kept n → Instanced rs kept (n + 1)
unkept_more rs kept n low less old = record {
  keys = old.keys;
  out = old.out ++ get_or old.out (get_or kept n 0) 0 ∷ [];
  are = other_more rs kept n old.out (λ name v. list_any (key_is name v) old.keys) (length old.keys) (get_or old.out (get_or kept n 0) 0) low less refl old.are;
}

-- in each case one range more
instanced_more : (rs : List RangeOf) (kept : List ℕ) (n : ℕ) → length rs < 2 ^ 32 → AreLow kept → n < length rs → Instanced rs kept n → Instanced rs kept (n + 1)
instanced_more rs kept n few low lt old = by_case (cases_eq (get_or kept n 0) n) where
  by_case : (get_or kept n 0 ≡ n) ⊎ (get_or kept n 0 ≡ n → ⊥) → Instanced rs kept (n + 1)
  by_case (inl own) = kept_more rs kept n few low lt own old
  by_case (inr not) = unkept_more rs kept n low (omega (arith, low n, not)) old

-- so each of the first n
instanced : (rs : List RangeOf) (kept : List ℕ) (n : ℕ) → length rs < 2 ^ 32 → AreLow kept → n ≤ length rs → Instanced rs kept n
instanced rs kept zero few low le = record { keys = []; out = []; are = none_taken rs kept }
instanced rs kept (suc n) few low le =
    let e : n + 1 ≡ suc n = omega arith in
    subst (Instanced rs kept) e (instanced_more rs kept n few low (omega arith) (instanced rs kept n few low (omega arith)))

-- so there are instances, whatever is kept
pub instances_some : (rs : List RangeOf) (kept : List ℕ) → length rs < 2 ^ 32 → AreLow kept → (out : List ℕ) × AreInstances rs kept out
instances_some rs kept few low =
    let all = instanced rs kept (length rs) few low (omega arith) in
    (all.out, record { count = all.are.count; own = all.are.own; shared = all.are.shared })

-- ---- kept ranges of one name

-- an earlier range of the name has another instance
apart_from : (rs : List RangeOf) (kept out : List ℕ) (i j : ℕ) (x y : RangeOf) → i < j → slice_get rs i ≡ Some x → slice_get rs j ≡ Some y → x.name ≡ y.name → get_or kept i 0 ≡ i → IsInstance rs kept out j → get_or out i 0 ≢ get_or out j 0
apart_from rs kept out i j x y lt x_is y_is name own (z, z_is, (d, is, free, tried)) same =
    let e : y ≡ z = some_is (slice_get rs j) y z y_is z_is in
    free (i, x, lt, x_is, name ∙ ap (λ (r : RangeOf). r.name) e, own, same)

-- two kept ranges of one name have two instances
pub apart_of : (rs : List RangeOf) (kept out : List ℕ) → AreInstances rs kept out → (i j : ℕ) (x y : RangeOf) → slice_get rs i ≡ Some x → slice_get rs j ≡ Some y → x.name ≡ y.name
    → get_or kept i 0 ≡ i → get_or kept j 0 ≡ j → i ≢ j → get_or out i 0 ≢ get_or out j 0
apart_of rs kept out are i j x y x_is y_is name own also ne same = by_order (cases_lt i j) (cases_lt j i) where
  by_order : (i < j) ⊎ (j ≤ i) → (j < i) ⊎ (i ≤ j) → ⊥
  by_order (inl lt) k = apart_from rs kept out i j x y lt x_is y_is name own (are.own j (slice_get_within rs j y y_is) also) same
  by_order (inr le) (inl lt) = apart_from rs kept out j i y x lt y_is x_is (sym name) also (are.own i (slice_get_within rs i x x_is) own) (sym same)
  by_order (inr le) (inr ge) = let e : i ≡ j = omega arith in ne e
