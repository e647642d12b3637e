-- Rounds of refinement: groups by first places of keys keep the pairs of every matching, and a round that splits a group leaves less room.
use Rattle.std.proofs.Common.{◌≡◌, ◌≢◌, ℕ, zero, suc, ◌+◌, ◌*◌, ◌<◌, ◌≤◌, ◌⊎◌, Bool, true, false, List, [], ◌∷◌, length, get_or, map, sum, Some, None, refl, sym, ap, ◌∙◌, arith, inl, inr, subst}
use Rattle.std.specs.Prelude.{slice_get}
use Rattle.std.proofs.lemmas.Bool.{cases_eq, cases_lt}
use Rattle.std.proofs.lemmas.List.{get_or_past}
use Rattle.std.proofs.lemmas.List.Sums.{sum_by-cons}
use Rattle.std.proofs.lemmas.Option.{slice_get_cases, slice_get_read, slice_get_within}
use Rattle.bincl_match.specs.declared.prepared.Prepared.{Prepared}
use Rattle.bincl_match.specs.declared.range.RangeOf.{RangeOf}
use Rattle.bincl_match.specs.Instances.{AreLow}
use Rattle.bincl_match.specs.Lawful.{IsLawful}
use Rattle.bincl_match.specs.Matching.{AllAgree, Among, MayPair}
use Rattle.bincl_match.specs.Crowding.{AreFirsts, AreGroups, IsFirst, key_at}
use Rattle.bincl_match.specs.Refining.{Alike, AreKeysBy, AreMarks, ArePrepared, AreRefined, HasLost, IsPrepared, group_of, room, signature, start_key}
use Rattle.bincl_match.proofs.ListLemmas.{not_both, some_is}
use Rattle.bincl_match.proofs.KeyLemmas.{Keyed}
use Rattle.bincl_match.proofs.MarkLemmas.{marks_of, none_lost, others_not_lost}

-- ---- first places

-- a place with the key is not before the first
least : (keys : List (List ℕ)) (i k m : ℕ) → IsFirst keys i k → key_at keys m ≡ key_at keys i → k ≤ m
least keys i k m f e = by_order (cases_lt m k) where
  by_order : (m < k) ⊎ (k ≤ m) → k ≤ m
  by_order (inl lt) = absurd (f.2 m lt e)
  by_order (inr le) = le

-- equal keys have one first place
pub firsts_equal : (keys : List (List ℕ)) (out : List ℕ) → AreFirsts keys out → (i j : ℕ) → i < length keys → j < length keys → key_at keys i ≡ key_at keys j → get_or out i 0 ≡ get_or out j 0
firsts_equal keys out f i j lti ltj e =
    let a : IsFirst keys i (get_or out i 0) = f.each i lti in
    let b : IsFirst keys j (get_or out j 0) = f.each j ltj in
    let x : get_or out i 0 ≤ get_or out j 0 = least keys i (get_or out i 0) (get_or out j 0) a (b.1 ∙ sym e) in
    let y : get_or out j 0 ≤ get_or out i 0 = least keys j (get_or out j 0) (get_or out i 0) b (a.1 ∙ e) in
    omega arith

-- and the other way round
pub keys_equal : (keys : List (List ℕ)) (out : List ℕ) → AreFirsts keys out → (i j : ℕ) → i < length keys → j < length keys → get_or out i 0 ≡ get_or out j 0 → key_at keys i ≡ key_at keys j
keys_equal keys out f i j lti ltj e = sym (f.each i lti).1 ∙ ap (key_at keys) e ∙ (f.each j ltj).1

-- no first place is after its own
pub firsts_low : (keys : List (List ℕ)) (out : List ℕ) → AreFirsts keys out → AreLow out
firsts_low keys out f i = by_order (cases_lt i (length keys)) where
  by_order : (i < length keys) ⊎ (length keys ≤ i) → get_or out i 0 ≤ i
  by_order (inl lt) = (f.each i lt).0
  by_order (inr le) = let e : get_or out i 0 ≡ 0 = get_or_past out i 0 (omega (arith, f.count)) in omega arith

-- the first place is its own first place
pub first_again : (keys : List (List ℕ)) (out : List ℕ) → AreFirsts keys out → (i : ℕ) → i < length keys → get_or out (get_or out i 0) 0 ≡ get_or out i 0
first_again keys out f i lt = let a : IsFirst keys i (get_or out i 0) = f.each i lt in firsts_equal keys out f (get_or out i 0) i (omega (arith, a.0)) lt a.1

-- ---- keys

-- a place of a list has an item
pub some_at : {A : Type 0} (xs : List A) (i : ℕ) → i < length xs → (x : A) × (slice_get xs i ≡ Some x)
some_at {A} xs i lt = by_case (slice_get_cases xs i).1 where
  by_case : ((x : A) × (i < length xs) × (slice_get xs i ≡ Some x) × (get_or xs i x ≡ x)) ⊎ ((length xs ≤ i) × (slice_get xs i ≡ None)) → (x : A) × (slice_get xs i ≡ Some x)
  by_case (inl y) = (y.0, y.2)
  by_case (inr y) = absurd (omega arith)

-- the key of the range at a place
abbrev pub KeyBy : (ℕ → Prepared → List ℕ) → List Prepared → ℕ → List ℕ → Type 0
KeyBy key prepared i k = (p : Prepared) → slice_get prepared i ≡ Some p → k ≡ key i p

-- as the code reads it
pub key_here : (key : ℕ → Prepared → List ℕ) (prepared : List Prepared) (i : ℕ) (k : List ℕ) (p : Prepared) → i < length prepared → p ≡ get_or prepared i p → k ≡ key i p → KeyBy key prepared i k
key_here key prepared i k p lt at is q q_is = is ∙ ap (key i) (some_is (slice_get prepared i) p q (slice_get_read prepared (length prepared) i p refl lt at) q_is)

-- a key for each range
pub keys_all : (key : ℕ → Prepared → List ℕ) (prepared : List Prepared) (keys : List (List ℕ)) → Keyed (KeyBy key prepared) (length prepared) keys → AreKeysBy key prepared keys
keys_all key prepared keys k = record { count = k.count; each = λ i p p_is. k.each i (slice_get_within prepared i p p_is) p p_is }

-- equal keys, made of places and of what is read of the ranges
keys_are : (key : ℕ → Prepared → List ℕ) (prepared : List Prepared) (keys : List (List ℕ)) → AreKeysBy key prepared keys → (i j : ℕ) (p q : Prepared) → slice_get prepared i ≡ Some p → slice_get prepared j ≡ Some q
    → key_at keys i ≡ key_at keys j → key i p ≡ key j q
keys_are key prepared keys are i j p q p_is q_is e = sym (are.each i p p_is) ∙ e ∙ are.each j q q_is

-- ---- the pairs of a matching

-- a candidate without lost numbers does not stand alone
not_lone : (rs : List RangeOf) (x : RangeOf) (lone : Bool) (marks : List ℕ) → IsPrepared rs x lone marks → x.candidate ≡ true → (HasLost rs x.unit x.numbers → ⊥) → lone ≡ false
not_lone rs x true marks (inl out) holds found = not_both x.candidate holds out
not_lone rs x true marks (inr lost) holds found = absurd (found lost)
not_lone rs x false marks prepared holds found = refl

-- what is read of two ranges that may be one
pub record Paired (rs : List RangeOf) (prepared : List Prepared) (P : ℕ → ℕ → Type 0) (i j : ℕ) : Type 0 where
  pub x : RangeOf
  pub y : RangeOf
  pub p : Prepared
  pub q : Prepared
  pub x_is : slice_get rs i ≡ Some x
  pub y_is : slice_get rs j ≡ Some y
  pub p_is : slice_get prepared i ≡ Some p
  pub q_is : slice_get prepared j ≡ Some q
  pub p_joins : p.lone ≡ false
  pub q_joins : q.lone ≡ false
  pub p_marks : AreMarks rs x.unit x.numbers p.marks
  pub q_marks : AreMarks rs y.unit y.numbers q.marks
  pub names : x.name ≡ y.name
  pub shapes : x.shape ≡ y.shape
  pub agree : AllAgree rs P x.unit y.unit x.numbers y.numbers

-- neither stands alone, so both have marks
pub paired : (rs : List RangeOf) (prepared : List Prepared) (P : ℕ → ℕ → Type 0) → ArePrepared rs prepared → (i j : ℕ) → MayPair rs P i j → Paired rs prepared P i j
paired rs prepared P ready i j m =
    let lti : i < length rs = slice_get_within rs i m.first m.first_is in
    let ltj : j < length rs = slice_get_within rs j m.second m.second_is in
    let p = some_at prepared i (omega (arith, ready.count)) in
    let q = some_at prepared j (omega (arith, ready.count)) in
    let pr : IsPrepared rs m.first p.0.lone p.0.marks = ready.each i m.first p.0 m.first_is p.1 in
    let qr : IsPrepared rs m.second q.0.lone q.0.marks = ready.each j m.second q.0 m.second_is q.1 in
    let pl : p.0.lone ≡ false = not_lone rs m.first p.0.lone p.0.marks pr m.candidates.0 (none_lost rs P m.first.unit m.second.unit m.first.numbers m.second.numbers m.agree) in
    let ql : q.0.lone ≡ false = not_lone rs m.second q.0.lone q.0.marks qr m.candidates.1 (others_not_lost rs P m.first.unit m.second.unit m.first.numbers m.second.numbers m.agree) in
    record {
      x = m.first;
      y = m.second;
      p = p.0;
      q = q.0;
      x_is = m.first_is;
      y_is = m.second_is;
      p_is = p.1;
      q_is = q.1;
      p_joins = pl;
      q_joins = ql;
      p_marks = (subst (λ (b : Bool). IsPrepared rs m.first b p.0.marks) pl pr).1;
      q_marks = (subst (λ (b : Bool). IsPrepared rs m.second b q.0.marks) ql qr).1;
      names = m.names;
      shapes = m.shapes;
      agree = m.agree;
    }

-- ---- the start

-- two first keys that are equal are those of ranges that are alike
alike_of : (rs : List RangeOf) (groups : List ℕ) → AreGroups rs groups → (i j : ℕ) (x y : RangeOf) (a b : Bool) → slice_get rs i ≡ Some x → slice_get rs j ≡ Some y → start_key groups i a ≡ start_key groups j b → Alike i j x y a b
alike_of rs groups are i j x y true true x_is y_is e = cc
alike_of rs groups are i j x y true false x_is y_is e = let h : 0 ∷ i ∷ [] ≡ 1 ∷ get_or groups j 0 ∷ [] = e in let z : zero ≡ suc zero = cc in absurd (omega arith)
alike_of rs groups are i j x y false true x_is y_is e = let h : 1 ∷ get_or groups i 0 ∷ [] ≡ 0 ∷ j ∷ [] = e in let z : suc zero ≡ zero = cc in absurd (omega arith)
alike_of rs groups are i j x y false false x_is y_is e =
    let h : 1 ∷ get_or groups i 0 ∷ [] ≡ 1 ∷ get_or groups j 0 ∷ [] = e in
    let z : get_or groups i 0 ≡ get_or groups j 0 = cc in
    are.from i j x y x_is y_is z

-- ranges of one group that do not stand alone have one first key
keyed_of : (groups : List ℕ) (i j : ℕ) (a b : Bool) → a ≡ false → b ≡ false → get_or groups i 0 ≡ get_or groups j 0 → start_key groups i a ≡ start_key groups j b
keyed_of groups i j true b e f g = let h : true ≡ false = e in cc
keyed_of groups i j false true e f g = let h : true ≡ false = f in cc
keyed_of groups i j false false e f g = ap (λ (z : ℕ). 1 ∷ z ∷ []) g

-- groups by first keys are refined
pub refined_start : (rs : List RangeOf) (prepared : List Prepared) (groups : List ℕ) (keys : List (List ℕ)) (start : List ℕ) → ArePrepared rs prepared → AreGroups rs groups
    → AreKeysBy (λ i p. start_key groups i p.lone) prepared keys → AreFirsts keys start → AreRefined rs prepared start
refined_start rs prepared groups keys start ready are s f = record {
  count = f.count ∙ s.count ∙ ready.count;
  low = firsts_low keys start f;
  keeps = λ pairs m i j among.
      let t : Paired rs prepared (Among pairs) i j = paired rs prepared (Among pairs) ready i j (m i j among) in
      let lti : i < length rs = slice_get_within rs i t.x t.x_is in
      let ltj : j < length rs = slice_get_within rs j t.y t.y_is in
      firsts_equal keys start f i j (omega (arith, s.count, ready.count)) (omega (arith, s.count, ready.count))
      (s.each i t.p t.p_is ∙ keyed_of groups i j t.p.lone t.q.lone t.p_joins t.q_joins (are.to i j t.x t.y t.x_is t.y_is t.names t.shapes) ∙ sym (s.each j t.q t.q_is));
  finer = λ i j x y p q x_is y_is p_is q_is e.
      let lti : i < length rs = slice_get_within rs i x x_is in
      let ltj : j < length rs = slice_get_within rs j y y_is in
      alike_of rs groups are i j x y p.lone q.lone x_is y_is
      (keys_are (λ i p. start_key groups i p.lone) prepared keys s i j p q p_is q_is (keys_equal keys start f i j (omega (arith, s.count, ready.count)) (omega (arith, s.count, ready.count)) e));
}

-- ---- a round

-- the first of a signature is the group
head_equal : (a b : ℕ) (as1 bs : List ℕ) → a ∷ as1 ≡ b ∷ bs → a ≡ b
head_equal a b as1 bs e = cc

-- the others are what the marks are
tail_equal : (a b : ℕ) (as1 bs : List ℕ) → a ∷ as1 ≡ b ∷ bs → as1 ≡ bs
tail_equal a b as1 bs e = cc

-- the signatures of ranges
abbrev pub AreSignatures : List Prepared → List ℕ → List (List ℕ) → Type 0
AreSignatures prepared groups keys = AreKeysBy (λ i p. signature groups i p.marks) prepared keys

-- equal signatures have one group and the same marks
pub signed : (prepared : List Prepared) (g : List ℕ) (keys : List (List ℕ)) → AreSignatures prepared g keys → (i j : ℕ) (p q : Prepared) → slice_get prepared i ≡ Some p → slice_get prepared j ≡ Some q
    → key_at keys i ≡ key_at keys j → (get_or g i 0 ≡ get_or g j 0) × (map (group_of g) p.marks ≡ map (group_of g) q.marks)
signed prepared g keys s i j p q p_is q_is e =
    let h : signature g i p.marks ≡ signature g j q.marks = keys_are (λ i p. signature g i p.marks) prepared keys s i j p q p_is q_is e in
    (head_equal _ _ _ _ h, tail_equal _ _ _ _ h)

-- equal signatures have one group
groups_equal : (prepared : List Prepared) (g : List ℕ) (keys : List (List ℕ)) → AreSignatures prepared g keys → (i j : ℕ) → i < length prepared → j < length prepared → key_at keys i ≡ key_at keys j → get_or g i 0 ≡ get_or g j 0
groups_equal prepared g keys s i j lti ltj e =
    let p = some_at prepared i lti in
    let q = some_at prepared j ltj in
    (signed prepared g keys s i j p.0 q.0 p.1 q.1 e).0

-- groups that are split by signatures are refined
pub refined_next : (rs : List RangeOf) (prepared : List Prepared) (g : List ℕ) (keys : List (List ℕ)) (next : List ℕ) → IsLawful rs → ArePrepared rs prepared
    → AreRefined rs prepared g → AreSignatures prepared g keys → AreFirsts keys next → AreRefined rs prepared next
refined_next rs prepared g keys next law ready old s f = record {
  count = f.count ∙ s.count ∙ ready.count;
  low = firsts_low keys next f;
  keeps = λ pairs m i j among.
      let t : Paired rs prepared (Among pairs) i j = paired rs prepared (Among pairs) ready i j (m i j among) in
      let lti : i < length rs = slice_get_within rs i t.x t.x_is in
      let ltj : j < length rs = slice_get_within rs j t.y t.y_is in
      let here : get_or g i 0 ≡ get_or g j 0 = old.keeps pairs m i j among in
      let marks : map (group_of g) t.p.marks ≡ map (group_of g) t.q.marks = marks_of rs (Among pairs) g law (old.keeps pairs m) t.x.unit t.y.unit t.x.numbers t.y.numbers t.p.marks t.q.marks t.agree t.p_marks t.q_marks in
      let same : signature g i t.p.marks ≡ signature g j t.q.marks = cc in
      firsts_equal keys next f i j (omega (arith, s.count, ready.count)) (omega (arith, s.count, ready.count)) (s.each i t.p t.p_is ∙ same ∙ sym (s.each j t.q t.q_is));
  finer = λ i j x y p q x_is y_is p_is q_is e.
      let lti : i < length rs = slice_get_within rs i x x_is in
      let ltj : j < length rs = slice_get_within rs j y y_is in
      old.finer i j x y p q x_is y_is p_is q_is
      (groups_equal prepared g keys s i j (omega (arith, ready.count)) (omega (arith, ready.count)) (keys_equal keys next f i j (omega (arith, s.count, ready.count)) (omega (arith, s.count, ready.count)) e));
}

-- ---- room

-- a round lowers no number
rises : (prepared : List Prepared) (g : List ℕ) (keys : List (List ℕ)) (next : List ℕ) → AreLow g → length g ≡ length prepared → AreSignatures prepared g keys → AreFirsts keys next → (i : ℕ) → get_or g i 0 ≤ get_or next i 0
rises prepared g keys next low count s f i = by_order (cases_lt i (length prepared)) where
  by_order : (i < length prepared) ⊎ (length prepared ≤ i) → get_or g i 0 ≤ get_or next i 0
  by_order (inl lt) =
      let a : IsFirst keys i (get_or next i 0) = f.each i (omega (arith, s.count)) in
      let e : get_or g (get_or next i 0) 0 ≡ get_or g i 0 = groups_equal prepared g keys s (get_or next i 0) i (omega (arith, a.0)) lt a.1 in
      omega (arith, low (get_or next i 0))
  by_order (inr le) = let e : get_or g i 0 ≡ 0 = get_or_past g i 0 (omega (arith, count)) in omega arith

-- the first item and the others
sum-cons : (x : ℕ) (xs : List ℕ) → sum (x ∷ xs) ≡ x + sum xs
sum-cons x xs = sum_by-cons (λ z. z) x xs

-- items that rise have a sum that rises
sum_rises : (xs ys : List ℕ) → length xs ≡ length ys → ((i : ℕ) → get_or xs i 0 ≤ get_or ys i 0) → sum xs ≤ sum ys
sum_rises [] ys n le = omega arith
sum_rises (x ∷ xs) [] n le = absurd (omega (arith, n))
sum_rises (x ∷ xs) (y ∷ ys) n le =
    let h : x ≤ y = le 0 in
    let t : sum xs ≤ sum ys = sum_rises xs ys (omega (arith, n)) (λ i. le (suc i)) in
    omega (arith, sum-cons x xs, sum-cons y ys)

-- the first item rises, or the others do
grows_by : (x y : ℕ) (xs ys : List ℕ) → x ≤ y → sum xs ≤ sum ys → ((xs ≢ ys) → sum xs < sum ys) → (y ∷ ys ≡ x ∷ xs → ⊥) → sum (x ∷ xs) < sum (y ∷ ys)
grows_by x y xs ys h t rest apart = by_order (cases_eq x y) where
  by_order : (x ≡ y) ⊎ (x ≡ y → ⊥) → sum (x ∷ xs) < sum (y ∷ ys)
  by_order (inl e) = let u : sum xs < sum ys = rest (λ h. apart (cc)) in omega (arith, sum-cons x xs, sum-cons y ys)
  by_order (inr ne) = omega (arith, ne, sum-cons x xs, sum-cons y ys)

-- where an item rises, so does the sum
sum_grows : (xs ys : List ℕ) → length xs ≡ length ys → ((i : ℕ) → get_or xs i 0 ≤ get_or ys i 0) → (ys ≡ xs → ⊥) → sum xs < sum ys
sum_grows [] [] n le apart = absurd (apart refl)
sum_grows [] (y ∷ ys) n le apart = absurd (omega (arith, n))
sum_grows (x ∷ xs) [] n le apart = absurd (omega (arith, n))
sum_grows (x ∷ xs) (y ∷ ys) n le apart =
    grows_by x y xs ys (le 0) (sum_rises xs ys (omega (arith, n)) (λ i. le (suc i))) (λ ne. sum_grows xs ys (omega (arith, n)) (λ i. le (suc i)) (λ h. ne (sym h))) apart

-- a sum of items that are no more than m
sum_bound : (xs : List ℕ) (m : ℕ) → ((i : ℕ) → get_or xs i 0 ≤ m) → sum xs ≤ length xs * m
sum_bound [] m le = omega arith
sum_bound (x ∷ xs) m le =
    let h : x ≤ m = le 0 in
    let t : sum xs ≤ length xs * m = sum_bound xs m (λ i. le (suc i)) in
    let e : length (x ∷ xs) * m ≡ length xs * m + m = omega arith in
    omega (arith, sum-cons x xs)

-- the numbers of groups are no more than there are ranges
low_bound : (g : List ℕ) → AreLow g → (i : ℕ) → get_or g i 0 ≤ length g
low_bound g low i = by_order (cases_lt i (length g)) where
  by_order : (i < length g) ⊎ (length g ≤ i) → get_or g i 0 ≤ length g
  by_order (inl lt) = omega (arith, low i)
  by_order (inr le) = let e : get_or g i 0 ≡ 0 = get_or_past g i 0 le in omega arith

-- a round that splits a group leaves less room
pub room_falls : (prepared : List Prepared) (g : List ℕ) (keys : List (List ℕ)) (next : List ℕ) → AreLow g → length g ≡ length prepared → AreSignatures prepared g keys → AreFirsts keys next
    → (next ≡ g → ⊥) → room next < room g
room_falls prepared g keys next low count s f apart =
    let same : length next ≡ length g = f.count ∙ s.count ∙ sym count in
    let a : sum g < sum next = sum_grows g next (sym same) (rises prepared g keys next low count s f) apart in
    let b : sum next ≤ length next * length next = sum_bound next (length next) (low_bound next (firsts_low keys next f)) in
    let e : length next * length next ≡ length g * length g = ap (λ (n : ℕ). n * n) same in
    omega arith
