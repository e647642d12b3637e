-- Lists by places: maps, and the one item that passes a test.
use Rattle.std.proofs.Common.{◌≡◌, ℕ, zero, suc, ◌+◌, ◌<◌, ◌⊎◌, Bool, true, false, cond, List, [], ◌∷◌, length, drop, map, Option, Some, refl, sym, ap, ◌∙◌, arith, inl, inr}
use Rattle.std.specs.Prelude.{slice_get, slice_set, unwrap_or}
use Rattle.std.specs.List.{filter, slice_index_or}
use Rattle.std.proofs.lemmas.List.{drop_more, drop-set-lt}
use Rattle.std.proofs.lemmas.Option.{get_or_from_slice_get, unwrap_or-slice_get}
use Rattle.unit_index.specs.Owners.{only_of, the_one}
use Rattle.bincl_match.proofs.ListLemmas.{some_is, none_is, which}

-- ---- items at places

-- an item of a list gives one of its map
pub get_map : {A B : Type 0} (f : A → B) (xs : List A) (k : ℕ) (x : A) → slice_get xs k ≡ Some x → slice_get (map f xs) k ≡ Some (f x)
get_map f [] k x e = absurd (none_is x e)
get_map f (z ∷ xs) zero x e = let h : z ≡ x = some_is (Some z) z x refl e in ap (λ w. Some (f w)) h
get_map f (z ∷ xs) (suc k) x e = get_map f xs k x e

-- below the length there is an item
pub get_there : {A : Type 0} (xs : List A) (k : ℕ) → k < length xs → (x : A) × (slice_get xs k ≡ Some x)
get_there [] k within = absurd (omega arith)
get_there (x ∷ xs) zero within = (x, refl)
get_there (x ∷ xs) (suc k) within = get_there xs k (omega arith)

-- a number that is found, or the other one where there is none
pub index_is : (xs : List ℕ) (k d : ℕ) (o : Option ℕ) → o ≡ slice_get xs k → unwrap_or o d ≡ slice_index_or xs k d
index_is xs k d o is = ap (λ z. unwrap_or z d) is ∙ unwrap_or-slice_get xs k d

-- an item for which another one is put in, and those after it
pub taken_out : {A : Type 0} (xs new : List A) (k : ℕ) (x other : A) → k < length xs → slice_get xs k ≡ Some x → new ≡ slice_set xs k other
    → drop k xs ≡ x ∷ drop (k + 1) new
taken_out xs new k x other within is set_is =
    let behind : drop (k + 1) new ≡ drop (k + 1) xs = ap (drop (k + 1)) set_is ∙ drop-set-lt (k + 1) xs k other (omega arith) in
    drop_more xs k x within ∙ ap (λ z. z ∷ drop (k + 1) xs) (get_or_from_slice_get xs k x x is) ∙ ap (λ z. x ∷ z) (sym behind)

-- ---- the one item that passes

module _ {A : Type 0} (test : A → Bool) where
  -- an item is the first of those that pass, or is none of them
  filter_passes : (x : A) (xs : List A) → test x ≡ true → filter test (x ∷ xs) ≡ x ∷ filter test xs
  filter_passes x xs e = ap (λ b. cond b (x ∷ filter test xs) (filter test xs)) e

  filter_fails : (x : A) (xs : List A) → test x ≡ false → filter test (x ∷ xs) ≡ filter test xs
  filter_fails x xs e = ap (λ b. cond b (x ∷ filter test xs) (filter test xs)) e

  -- none passes
  filter_none : (xs : List A) → ((j : ℕ) (y : A) → slice_get xs j ≡ Some y → test y ≡ true → ⊥) → filter test xs ≡ []
  filter_none [] none = refl
  filter_none (x ∷ xs) none = by_case (which (test x)) (filter_none xs (λ j y g h. none (suc j) y g h)) where
    by_case : (test x ≡ true) ⊎ (test x ≡ false) → filter test xs ≡ [] → filter test (x ∷ xs) ≡ []
    by_case (inl e) more = absurd (none zero x refl e)
    by_case (inr e) more = filter_fails x xs e ∙ more

  -- one alone passes
  pub only_passes : (xs : List A) (i : ℕ) (x : A) → slice_get xs i ≡ Some x → test x ≡ true
      → ((j : ℕ) (y : A) → slice_get xs j ≡ Some y → test y ≡ true → j ≡ i) → filter test xs ≡ x ∷ []
  only_passes [] i x e passes one = absurd (none_is x e)
  only_passes (z ∷ xs) zero x e passes one =
      let h : z ≡ x = some_is (Some z) z x refl e in
      filter_passes z xs (ap test h ∙ passes)
      ∙ ap (λ w. z ∷ w) (filter_none xs (λ j y g s. let c : suc j ≡ zero = one (suc j) y g s in absurd (omega arith))) ∙ ap (λ w. w ∷ []) h
  only_passes (z ∷ xs) (suc i) x e passes one =
      by_case (which (test z)) (only_passes xs i x e passes (λ j y g s. let c : suc j ≡ suc i = one (suc j) y g s in omega arith)) where
        by_case : (test z ≡ true) ⊎ (test z ≡ false) → filter test xs ≡ x ∷ [] → filter test (z ∷ xs) ≡ x ∷ []
        by_case (inl s) more = let c : zero ≡ suc i = one zero z refl s in absurd (omega arith)
        by_case (inr s) more = filter_fails z xs s ∙ more

  -- so it is found
  pub the_one_is : (xs : List A) (i : ℕ) (x : A) → slice_get xs i ≡ Some x → test x ≡ true
      → ((j : ℕ) (y : A) → slice_get xs j ≡ Some y → test y ≡ true → j ≡ i) → the_one test xs ≡ Some x
  the_one_is xs i x e passes one = ap only_of (only_passes xs i x e passes one)
