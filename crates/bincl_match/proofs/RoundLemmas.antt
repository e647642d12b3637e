-- Every list of ranges has groups that a round leaves as they are. It is what the code finds, here without the code.
use Rattle.std.proofs.Common.{◌≡◌, ℕ, zero, suc, ◌<◌, ◌≤◌, ◌⊎◌, ◌&&◌, true, false, List, [], ◌∷◌, length, map, Option, Some, None, refl, sym, ap, ◌∙◌, arith, inl, inr, subst}
use Rattle.std.specs.Prelude.{slice_get, nat_eq}
use Rattle.std.specs.Cmp.Lexicographic.{pointwise}
use Rattle.std.proofs.lemmas.Bool.{cases_eq, eq-eqb, eqb-true}
use Rattle.std.proofs.lemmas.Option.{get_or_from_slice_get, slice_get_within}
use Rattle.std.proofs.lemmas.Slice.Eq.{bytes_eq-Decides}
use Rattle.bincl_match.specs.declared.prepared.Prepared.{Prepared}
use Rattle.bincl_match.specs.declared.range.RangeOf.{RangeOf}
use Rattle.bincl_match.specs.Lawful.{IsHeader, IsLawful}
use Rattle.bincl_match.specs.Crowding.{AreFirsts, AreGroups, AreKeys, IsFirst, key_at}
use Rattle.bincl_match.specs.Refining.{AreKeysBy, AreMarks, ArePrepared, AreRefined, AreSettled, HasLost, IsMarkFor, IsPrepared, room, signature, start_key}
use Rattle.bincl_match.proofs.ListLemmas.{both, both_true, first_place, listed, none_is, not_both, some_is, which}
use Rattle.bincl_match.proofs.CrowdLemmas.{are_groups}
use Rattle.bincl_match.proofs.RefineLemmas.{KeyBy, keys_all, refined_next, refined_start, room_falls, some_at}
use Rattle.bincl_match.proofs.SettleLemmas.{settled}

-- ---- first places

-- for each key there is a first place
first_some : (keys : List (List ℕ)) (i : ℕ) → (k : ℕ) × IsFirst keys i k
first_some keys i =
    let test = λ (j : ℕ). pointwise nat_eq (key_at keys j) (key_at keys i) in
    let first = first_place test i ((bytes_eq-Decides (key_at keys i) (key_at keys i)).1 refl) in (
      first.0,
      (
        first.1,
        (bytes_eq-Decides (key_at keys first.0) (key_at keys i)).0 first.2.0,
        (λ j lt e. not_both (test j) ((bytes_eq-Decides (key_at keys j) (key_at keys i)).1 e) (first.2.1 j lt)),
      ),
    )

-- so there is a list of them
firsts_some : (keys : List (List ℕ)) → (out : List ℕ) × AreFirsts keys out
firsts_some keys = let all = listed 0 (IsFirst keys) (length keys) (λ i lt. first_some keys i) in (all.0, record { count = all.1; each = all.2 })

-- ---- groups by name and shape

-- a text before others: each byte is one more, and 0 ends it
text_code : List ℕ → List ℕ → List ℕ
text_code [] rest = 0 ∷ rest
text_code (b ∷ text) rest = suc b ∷ text_code text rest

-- it tells the text and the others
text_one : (t u r s : List ℕ) → text_code t r ≡ text_code u s → (t ≡ u) × (r ≡ s)
unfolding text_code
text_one [] [] r s e = (refl, cc)
text_one [] (b ∷ u) r s e = let h : 0 ∷ r ≡ suc b ∷ text_code u s = e in let z : zero ≡ suc b = cc in absurd (omega (arith, z))
text_one (a ∷ t) [] r s e = let h : suc a ∷ text_code t r ≡ 0 ∷ s = e in let z : suc a ≡ zero = cc in absurd (omega (arith, z))
text_one (a ∷ t) (b ∷ u) r s e =
    let h : suc a ∷ text_code t r ≡ suc b ∷ text_code u s = e in
    let first : suc a ≡ suc b = cc in
    let others : text_code t r ≡ text_code u s = cc in
    let same : a ≡ b = omega (arith, first) in
    let more = text_one t u r s others in
    let texts : t ≡ u = more.0 in
    (cc, more.1)

-- texts, one after the other
texts_code : List (List ℕ) → List ℕ
texts_code [] = []
texts_code (t ∷ texts) = text_code t (texts_code texts)

-- no text's code is empty
text_not_none : (t r : List ℕ) → text_code t r ≡ [] → ⊥
unfolding text_code
text_not_none [] r e = cc
text_not_none (b ∷ t) r e = cc

-- it tells the texts
texts_one : (ts us : List (List ℕ)) → texts_code ts ≡ texts_code us → ts ≡ us
unfolding texts_code
texts_one [] [] e = refl
texts_one [] (u ∷ us) e = absurd (text_not_none u (texts_code us) (sym e))
texts_one (t ∷ ts) [] e = absurd (text_not_none t (texts_code ts) e)
texts_one (t ∷ ts) (u ∷ us) e =
    let one = text_one t u (texts_code ts) (texts_code us) e in
    let a : t ≡ u = one.0 in
    let b : ts ≡ us = texts_one ts us one.1 in
    cc

-- the key of a range's name and shape
range_key : RangeOf → List ℕ
range_key x = texts_code (x.name ∷ x.shape)

-- a key of a list of keys
key_map : (rs : List RangeOf) (i : ℕ) (x : RangeOf) → slice_get rs i ≡ Some x → key_at (map range_key rs) i ≡ range_key x
key_map [] i x e = absurd (none_is x e)
key_map (y ∷ rs) zero x e = ap range_key (some_is (Some y) y x refl e)
key_map (y ∷ rs) (suc i) x e = key_map rs i x e

-- as many keys as ranges
key_count : (rs : List RangeOf) → length (map range_key rs) ≡ length rs
key_count [] = refl
key_count (x ∷ rs) = let e : length (map range_key rs) ≡ length rs = key_count rs in omega arith

-- the keys of ranges
range_keys : (rs : List RangeOf) → AreKeys rs (map range_key rs)
unfolding range_key
range_keys rs = record {
  count = key_count rs;
  alike = λ i j x y x_is y_is e.
      let all : x.name ∷ x.shape ≡ y.name ∷ y.shape = texts_one (x.name ∷ x.shape) (y.name ∷ y.shape) (sym (key_map rs i x x_is) ∙ e ∙ key_map rs j y y_is) in
      (cc, cc);
  keyed = λ i j x y x_is y_is names shapes.
      let all : x.name ∷ x.shape ≡ y.name ∷ y.shape = cc in
      key_map rs i x x_is ∙ ap texts_code all ∙ sym (key_map rs j y y_is);
}

-- so ranges have groups
groups_some : (rs : List RangeOf) → (groups : List ℕ) × AreGroups rs groups
groups_some rs = let all = firsts_some (map range_key rs) in (all.0, are_groups rs (map range_key rs) all.0 (range_keys rs) all.1)

-- ---- what is read of ranges

-- the first range is not the header, and no other is
not_header : (x : RangeOf) (rs : List RangeOf) (u f : ℕ) → (nat_eq x.unit u && nat_eq x.file f) ≡ false → ((k : ℕ) → IsHeader rs u f k → ⊥) → (k : ℕ) → IsHeader (x ∷ rs) u f k → ⊥
not_header x rs u f fails not zero (y, is, unit, file) =
    let e : x ≡ y = some_is (Some x) x y refl is in
    not_both (nat_eq x.unit u && nat_eq x.file f) (both_true (nat_eq x.unit u) (nat_eq x.file f) (eq-eqb x.unit u (ap (λ (z : RangeOf). z.unit) e ∙ unit)) (eq-eqb x.file f (ap (λ (z : RangeOf). z.file) e ∙ file))) fails
not_header x rs u f fails not (suc k) h = not k h

-- a file is that of a header, or of none
abbrev HeaderOr : List RangeOf → ℕ → ℕ → Type 0
HeaderOr rs u f = ((k : ℕ) × IsHeader rs u f k) ⊎ ((k : ℕ) → IsHeader rs u f k → ⊥)

-- in each case one of the two
header_or : (rs : List RangeOf) (u f : ℕ) → HeaderOr rs u f
header_or [] u f = inr (λ k h. none_is h.0 h.1)
header_or (x ∷ rs) u f = by_case (which (nat_eq x.unit u && nat_eq x.file f)) (header_or rs u f) where
  by_case : ((nat_eq x.unit u && nat_eq x.file f) ≡ true) ⊎ ((nat_eq x.unit u && nat_eq x.file f) ≡ false) → HeaderOr rs u f → HeaderOr (x ∷ rs) u f
  by_case (inl holds) more = let h = both (nat_eq x.unit u) (nat_eq x.file f) holds in inl (zero, (x, refl, eqb-true x.unit u h.0, eqb-true x.file f h.1))
  by_case (inr fails) (inl (k, h)) = inl (suc k, h)
  by_case (inr fails) (inr not) = inr (not_header x rs u f fails not)

-- a number has a mark, or it is lost
mark_some : (rs : List RangeOf) (u n : ℕ) → (o : Option ℕ) × IsMarkFor rs u n o
mark_some rs u n = by_case (cases_eq n 0) (header_or rs u n) where
  by_case : (n ≡ 0) ⊎ (n ≡ 0 → ⊥) → HeaderOr rs u n → (o : Option ℕ) × IsMarkFor rs u n o
  by_case (inl e) h = (Some 0, e)
  by_case (inr ne) (inl (k, h)) = (Some (suc k), h)
  by_case (inr ne) (inr not) = (None, (ne, not))

-- numbers have marks, or one of them is lost
abbrev MarksOr : List RangeOf → ℕ → List ℕ → Type 0
MarksOr rs u ns = ((ms : List ℕ) × AreMarks rs u ns ms) ⊎ HasLost rs u ns

-- one number more
marks_or_more : (rs : List RangeOf) (u n : ℕ) (ns : List ℕ) (o : Option ℕ) → IsMarkFor rs u n o → MarksOr rs u ns → MarksOr rs u (n ∷ ns)
marks_or_more rs u n ns None lost more = inr (inl lost)
marks_or_more rs u n ns (Some m) is (inl (ms, are)) = inl (m ∷ ms, (is, are))
marks_or_more rs u n ns (Some m) is (inr lost) = inr (inr lost)

-- in each case one of the two
marks_or : (rs : List RangeOf) (u : ℕ) (ns : List ℕ) → MarksOr rs u ns
marks_or rs u [] = inl ([], tt)
marks_or rs u (n ∷ ns) = let one = mark_some rs u n in marks_or_more rs u n ns one.0 one.1 (marks_or rs u ns)

-- what is read of a range
read_some : (rs : List RangeOf) (x : RangeOf) → (p : Prepared) × IsPrepared rs x p.lone p.marks
read_some rs x = by_case (which x.candidate) (marks_or rs x.unit x.numbers) where
  by_case : (x.candidate ≡ true) ⊎ (x.candidate ≡ false) → MarksOr rs x.unit x.numbers → (p : Prepared) × IsPrepared rs x p.lone p.marks
  by_case (inr fails) more = (record { lone = true; marks = [] }, inl fails)
  by_case (inl holds) (inl (ms, are)) = (record { lone = false; marks = ms }, (holds, are))
  by_case (inl holds) (inr lost) = (record { lone = true; marks = [] }, inr lost)

-- of the range at a place
abbrev ReadAt : List RangeOf → ℕ → Prepared → Type 0
ReadAt rs i p = (x : RangeOf) → slice_get rs i ≡ Some x → IsPrepared rs x p.lone p.marks

-- it is there
read_at : (rs : List RangeOf) (i : ℕ) → i < length rs → (p : Prepared) × ReadAt rs i p
read_at rs i lt =
    let x = some_at rs i lt in
    let p = read_some rs x.0 in
    (p.0, (λ y y_is. subst (λ (z : RangeOf). IsPrepared rs z p.0.lone p.0.marks) (some_is (slice_get rs i) x.0 y x.1 y_is) p.1))

-- nothing read
abbrev blank : Prepared
blank = record { lone = true; marks = [] }

-- so all ranges can be read
prepared_some : (rs : List RangeOf) → (prepared : List Prepared) × ArePrepared rs prepared
prepared_some rs =
    let all = listed blank (ReadAt rs) (length rs) (read_at rs) in (
      all.0,
      record {
        count = all.1;
        each = λ i x p x_is p_is. subst (λ (z : Prepared). IsPrepared rs x z.lone z.marks) (get_or_from_slice_get all.0 i p blank p_is) (all.2 i (slice_get_within rs i x x_is) x x_is);
      },
    )

-- ---- rounds

-- keys that are made of what is read
keys_some : (key : ℕ → Prepared → List ℕ) (prepared : List Prepared) → (keys : List (List ℕ)) × AreKeysBy key prepared keys
keys_some key prepared =
    let all = listed [] (KeyBy key prepared) (length prepared) (λ i lt. let p = some_at prepared i lt in (key i p.0, (λ q q_is. ap (key i) (some_is (slice_get prepared i) p.0 q p.1 q_is)))) in
    (all.0, keys_all key prepared all.0 (record { count = all.1; each = all.2 }))

-- groups that no round splits
abbrev pub Settling : List RangeOf → List Prepared → Type 0
Settling rs prepared = (groups : List ℕ) × AreRefined rs prepared groups × AreSettled rs groups

-- a round splits no group, or it leaves less room
abbrev RoundOr : List RangeOf → List Prepared → List ℕ → Type 0
RoundOr rs prepared g = AreSettled rs g ⊎ ((next : List ℕ) × AreRefined rs prepared next × (room next < room g))

module _ (rs : List RangeOf) (prepared : List Prepared) (law : IsLawful rs) (ready : ArePrepared rs prepared) where
  -- groups to begin with
  start_some : (groups : List ℕ) × AreRefined rs prepared groups
  start_some =
      let groups = groups_some rs in
      let keys = keys_some (λ i p. start_key groups.0 i p.lone) prepared in
      let start = firsts_some keys.0 in
      (start.0, refined_start rs prepared groups.0 keys.0 start.0 ready groups.1 keys.1 start.1)

  -- in each case one of the two
  round_or : (g : List ℕ) → AreRefined rs prepared g → RoundOr rs prepared g
  round_or g old = by_case (which (pointwise nat_eq next.0 g)) where
    keys : (keys : List (List ℕ)) × AreKeysBy (λ i p. signature g i p.marks) prepared keys
    keys = keys_some (λ i p. signature g i p.marks) prepared

    next : (out : List ℕ) × AreFirsts keys.0 out
    next = firsts_some keys.0

    by_case : (pointwise nat_eq next.0 g ≡ true) ⊎ (pointwise nat_eq next.0 g ≡ false) → RoundOr rs prepared g
    by_case (inl same) = inl (settled rs prepared keys.0 g next.0 law ready old keys.1 next.1 ((bytes_eq-Decides next.0 g).0 same))
    by_case (inr other) =
        inr (
          next.0,
          refined_next rs prepared g keys.0 next.0 law ready old keys.1 next.1,
          room_falls prepared g keys.0 next.0 old.low (old.count ∙ sym ready.count) keys.1 next.1 (λ e. not_both (pointwise nat_eq next.0 g) ((bytes_eq-Decides next.0 g).1 e) other),
        )

  -- where there is no more room than so much, the rounds come to an end
  settling_from : (most : ℕ) (g : List ℕ) → room g ≤ most → AreRefined rs prepared g → Settling rs prepared
  settling_from zero g le old = by_case (round_or g old) where
    by_case : RoundOr rs prepared g → Settling rs prepared
    by_case (inl done) = (g, old, done)
    by_case (inr (next, more, less)) = absurd (omega (arith, le, less))
  settling_from (suc most) g le old = by_case (round_or g old) (settling_from most) where
    by_case : RoundOr rs prepared g → ((h : List ℕ) → room h ≤ most → AreRefined rs prepared h → Settling rs prepared) → Settling rs prepared
    by_case (inl done) later = (g, old, done)
    by_case (inr (next, more, less)) later = later next (omega (arith, le, less)) more

  -- so there are groups that no round splits
  pub settling_some : Settling rs prepared
  settling_some = let start = start_some in settling_from (room start.0) start.0 (omega arith) start.1

-- whatever the ranges
pub settled_some : (rs : List RangeOf) → IsLawful rs → (prepared : List Prepared) × Settling rs prepared
settled_some rs law = let all = prepared_some rs in (all.0, settling_some rs all.0 law all.1)
