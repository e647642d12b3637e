-- The table of a list of names: where a name stands in it, that the name is found there, and what adding a name does.
use Rattle.std.proofs.Common.{◌≡◌, ◌≢◌, ℕ, zero, suc, ◌+◌, ◌<◌, ◌≤◌, Bool, true, false, not, nat_lt, List, [], ◌∷◌, ◌++◌, length, drop, Some, None, position, Contains, refl, sym, ap, ◌∙◌, inl, inr, arith, length-append, append_assoc}
use Rattle.std.proofs.Math.Seq.{take-append_seam, drop-append_seam}
use Rattle.std.proofs.lemmas.Bool.{cases_Bool, or_right, cond-true, cond-false, ltb-false, lt-ltb, le-leb, ne_eqb, and_from, eq-eqb, true≢false}
use Rattle.std.proofs.lemmas.List.Sums.{take_while-cons, prefix_len-le-length}
use Rattle.std.proofs.lemmas.List.Folds.{prefix_len-append}
use Rattle.std.proofs.lemmas.Option.{none-some}
use Rattle.std.proofs.lemmas.Slice.Eq.{bytes_eq-Decides}
use Rattle.std.specs.List.{list_any, prefix_len, position_or_len}
use Rattle.std.specs.Str.{bytes_eq}
use Rattle.st_base.specs.Number.{bytes_of}
use Rattle.st_base.proofs.BytesLemmas.{length-bytes_of}
use Rattle.strtab.specs.StringTable.{is_zero, before_zero, name_in, HasNoZero}
use Rattle.strtab.specs.Names.{spelled, size_of, table_of, names_before, offset_of}

-- ---- equal names

-- a name equals itself
pub bytes_eq-itself : (name : List ℕ) → bytes_eq name name ≡ true
bytes_eq-itself name = (bytes_eq-Decides name name).1 refl

-- names that the test takes for equal are equal
pub same_name : (name other : List ℕ) → bytes_eq name other ≡ true → name ≡ other
same_name name other e = (bytes_eq-Decides name other).0 e

-- ---- the names before a name

-- before the first name nothing stands
pub names_before-here : (name first : List ℕ) (names : List (List ℕ)) → bytes_eq name first ≡ true → names_before (first ∷ names) name ≡ []
names_before-here name first names e =
    take_while-cons (λ other. not (bytes_eq name other)) first names ∙ rw e refl

-- another first name stands before it
pub names_before-later : (name first : List ℕ) (names : List (List ℕ)) → bytes_eq name first ≡ false
    → names_before (first ∷ names) name ≡ first ∷ names_before names name
names_before-later name first names e =
    take_while-cons (λ other. not (bytes_eq name other)) first names ∙ rw e refl

-- before a new name all names stand
pub names_before-new : (name : List ℕ) (names : List (List ℕ)) → list_any (bytes_eq name) names ≡ false → names_before names name ≡ names
names_before-new name [] e = refl
names_before-new name (first ∷ names) e =
    elim (cases_Bool (bytes_eq name first)) [
      | inl h ↦ absurd (true≢false (rw h at e))
      | inr h ↦ names_before-later name first names h ∙ ap (λ (l : List (List ℕ)). first ∷ l) (names_before-new name names (rw h at e))
    ]

-- before a name that was new and went last all the others stand
pub names_before-last : (name : List ℕ) (names : List (List ℕ)) → list_any (bytes_eq name) names ≡ false → names_before (names ++ name ∷ []) name ≡ names
names_before-last name [] e = names_before-here name name [] (bytes_eq-itself name)
names_before-last name (first ∷ names) e =
    elim (cases_Bool (bytes_eq name first)) [
      | inl h ↦ absurd (true≢false (rw h at e))
      | inr h ↦ names_before-later name first (names ++ name ∷ []) h ∙ ap (λ (l : List (List ℕ)). first ∷ l) (names_before-last name names (rw h at e))
    ]

-- a name that is there stands right after the names before it
pub split_at_name : (name : List ℕ) (names : List (List ℕ)) → list_any (bytes_eq name) names ≡ true
    → (rest : List (List ℕ)) × (names ≡ names_before names name ++ name ∷ rest)
split_at_name name [] e = absurd (true≢false (sym e))
split_at_name name (first ∷ names) e =
    elim (cases_Bool (bytes_eq name first)) [
      | inl h ↦ (names, rw (names_before-here name first names h) (ap (λ (n : List ℕ). n ∷ names) (sym (same_name name first h))))
      | inr h ↦
          let later = split_at_name name names (rw h at e) in
          (later.0, rw (names_before-later name first names h) (ap (λ (l : List (List ℕ)). first ∷ l) later.1))
    ]

-- a name that the list contains is found there
pub found-Contains : (name : List ℕ) (names : List (List ℕ)) → Contains names name → list_any (bytes_eq name) names ≡ true
found-Contains name [] h = absurd (omega (arith, h.1))
found-Contains name (first ∷ names) (zero, within, same) = rw (same, bytes_eq-itself name) refl
found-Contains name (first ∷ names) (suc at, within, same) =
    let later = found-Contains name names (at, omega arith, same) in
    or_right (bytes_eq name first) _ later

-- ---- the bytes of the names

-- the bytes of two lists of names are those of the one and then those of the other
pub spelled-append : (names more : List (List ℕ)) → spelled (names ++ more) ≡ spelled names ++ spelled more
spelled-append [] more = refl
spelled-append (name ∷ names) more = rw (spelled-append names more) (sym (append_assoc name (0 ∷ spelled names) (spelled more)))

-- ---- a name up to its zero byte

-- in a name without a zero byte all bytes are passed
name_len : (name : List ℕ) → HasNoZero name → prefix_len (λ b. not (is_zero b)) name ≡ length name
name_len name whole =
    let most = prefix_len-le-length (λ b. not (is_zero b)) name in
    elim (cases_Bool (nat_lt (position_or_len is_zero name) (length name))) [
      | inl h ↦ absurd (none-some (position_or_len is_zero name) (sym whole ∙ cond-true _ _ None h))
      | inr h ↦ let least = ltb-false (position_or_len is_zero name) (length name) h in omega arith
    ]

-- the first zero byte after a name without one is the byte that ends it
position-ended : (name rest : List ℕ) → HasNoZero name → position is_zero (name ++ (0 ∷ rest)) ≡ Some (length name)
position-ended name rest whole =
    let len = name_len name whole in
    let all = eq-eqb (prefix_len (λ b. not (is_zero b)) name) (length name) len in
    let at : position_or_len is_zero (name ++ (0 ∷ rest)) ≡ length name =
    prefix_len-append (λ b. not (is_zero b)) name (0 ∷ rest) ∙ cond-true _ _ _ all ∙ omega arith in
    let within : position_or_len is_zero (name ++ (0 ∷ rest)) < length (name ++ (0 ∷ rest)) = rw at (simp length-append (omega arith)) in
    cond-true _ _ None (lt-ltb _ _ within) ∙ ap (λ (n : ℕ). Some n) at

-- what is read there is the name
pub before_zero-ended : (name rest : List ℕ) → HasNoZero name → before_zero (name ++ (0 ∷ rest)) ≡ Some name
before_zero-ended name rest h = rw (position-ended name rest h) (ap (λ (n : List ℕ). Some n) (take-append_seam name (0 ∷ rest)))

-- ---- the offset of a name

-- the offset of a name that is not empty
pub offset_of-filled : (names : List (List ℕ)) (name : List ℕ) → name ≢ [] → offset_of names name ≡ size_of (names_before names name)
offset_of-filled names [] filled = absurd (filled refl)
offset_of-filled names (b ∷ bytes) filled = refl

-- ---- a name is found at its offset

-- after four bytes and some more a list goes on with what follows them
drop-behind : (word before after : List ℕ) → length word ≡ 4 → drop (4 + length before) (word ++ (before ++ after)) ≡ after
drop-behind word before after four =
    let front : length (word ++ before) ≡ 4 + length before = simp length-append (rw four refl) in
    rw (← front, ← append_assoc word before after) (drop-append_seam (word ++ before) after)

-- where the name at an offset is looked for among the bytes there
name_in-read : (table : List ℕ) (strx : ℕ) → 4 ≤ strx → strx < length table → name_in table strx ≡ before_zero (drop strx table)
name_in-read table strx above within =
    let named = ne_eqb strx 0 (λ e. omega arith) in
    let read = and_from _ _ (le-leb 4 strx above) (lt-ltb strx (length table) within) in
    cond-false _ (Some []) _ named ∙ cond-true _ _ None read

-- after any word of four bytes the name at the offset of a name is that name
name_in-behind : (word : List ℕ) (names : List (List ℕ)) (name : List ℕ) → length word ≡ 4 → name ≢ [] → HasNoZero name
    → list_any (bytes_eq name) names ≡ true → name_in (word ++ spelled names) (offset_of names name) ≡ Some name
name_in-behind word names name four filled whole there =
    let split = split_at_name name names there in
    let before = spelled (names_before names name) in
    let after = name ++ (0 ∷ spelled split.0) in
    let bytes : spelled names ≡ before ++ after = ap spelled split.1 ∙ spelled-append (names_before names name) (name ∷ split.0) in
    let longer : length (word ++ (before ++ after)) ≡ 4 + (length before + length after) = simp length-append (rw four refl) in
    let rest : length after ≡ length name + (1 + length (spelled split.0)) = simp length-append (omega arith) in
    let within : 4 + length before < length (word ++ (before ++ after)) = omega arith in
    rw (offset_of-filled names name filled, bytes)
    (name_in-read _ (4 + length before) (omega arith) within ∙ ap before_zero (drop-behind word before after four) ∙ before_zero-ended name _ whole)

-- in the table of names the name at the offset of a name is that name
pub name_in-offset_of : (big : Bool) (names : List (List ℕ)) (name : List ℕ) → name ≢ [] → HasNoZero name
    → list_any (bytes_eq name) names ≡ true → name_in (table_of big names) (offset_of names name) ≡ Some name
name_in-offset_of big names name =
    name_in-behind (bytes_of big 4 (size_of names)) names name (length-bytes_of big 4 (size_of names))

-- two names with one offset are one name
pub offset_of-injective : (names : List (List ℕ)) (name other : List ℕ) → name ≢ [] → HasNoZero name → other ≢ [] → HasNoZero other
    → list_any (bytes_eq name) names ≡ true → list_any (bytes_eq other) names ≡ true → offset_of names name ≡ offset_of names other → name ≡ other
offset_of-injective names name other filled whole other_filled other_whole there other_there same =
    let first = name_in-offset_of true names name filled whole there in
    let second = name_in-offset_of true names other other_filled other_whole other_there in
    let both : Some name ≡ Some other = sym first ∙ ap (name_in (table_of true names)) same ∙ second in
    cc
