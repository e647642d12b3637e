-- Lists of names, each once in order of first use: what is in one is what was used.
use Rattle.std.proofs.Common.{◌≡◌, ◌⊎◌, ℕ, zero, suc, true, false, List, [], ◌∷◌, ◌++◌, length, slice_get, fold, Some, refl, sym, ap, subst, ◌∙◌, inl, inr, arith, append-nil, append_assoc}
use Rattle.std.specs.Prelude.{Contains}
use Rattle.std.specs.List.{list_any}
use Rattle.std.specs.Str.{bytes_eq}
use Rattle.std.proofs.lemmas.Bool.{cases_Bool, true≢false}
use Rattle.std.proofs.lemmas.List.Elements.{Contains-append_left, Contains-append_right, Contains-append_cases, Contains-push, Contains-push_cases}
use Rattle.std.proofs.lemmas.Map.Keys.{any_passes_from_place}
use Rattle.std.proofs.lemmas.Map.Views.{Contains-from_any}
use Rattle.std.proofs.lemmas.Option.{none-some, same_Some}
use Rattle.std.proofs.lemmas.Slice.Eq.{bytes_eq-Decides}
use Rattle.st_base.specs.FirstUses.{used}

-- ---- items of lists

pub none_in : {X : Type 0} (x : X) → Contains [] x → ⊥
none_in x h = let within = h.1 in absurd (omega (arith, within))

pub one_in_is : {X : Type 0} (y x : X) → Contains (y ∷ []) x → y ≡ x
one_in_is y x h = elim (Contains-push_cases [] y x h) [ inl n ↦ absurd (none_in x n) | inr e ↦ e ]

pub one_in_has : {X : Type 0} (y x : X) → y ≡ x → Contains (y ∷ []) x
one_in_has {X} y x e = subst (λ (z : X). Contains (z ∷ []) x) (sym e) (Contains-push [] x)

pushed_at : {X : Type 0} (xs : List X) (x y : X) (i : ℕ) → slice_get (xs ++ x ∷ []) i ≡ Some y → (slice_get xs i ≡ Some y) ⊎ ((i ≡ length xs) × (x ≡ y))
pushed_at [] x y zero e = inr (refl, same_Some x y e)
pushed_at [] x y (suc i) e = absurd (none-some y e)
pushed_at (z ∷ xs) x y zero e = inl e
pushed_at (z ∷ xs) x y (suc i) e = elim (pushed_at xs x y i e) [ inl h ↦ inl h | inr h ↦ inr (ap suc h.0, h.1) ]

-- ---- a list of names, each once

pub any_has : (name : List ℕ) (ws : List (List ℕ)) → list_any (bytes_eq name) ws ≡ true → Contains ws name
any_has name ws h = Contains-from_any (λ x y. (bytes_eq-Decides x y).0) name ws h

word_in : (ws : List (List ℕ)) (x name : List ℕ) → Contains (used bytes_eq ws x) name → Contains ws name ⊎ (x ≡ name)
word_in ws x name h = elim (cases_Bool (list_any (bytes_eq x) ws)) [ inl there ↦ inl (rw there at h) | inr new ↦ Contains-push_cases ws x name (rw new at h) ]

word_has : (ws : List (List ℕ)) (x name : List ℕ) → Contains ws name ⊎ (x ≡ name) → Contains (used bytes_eq ws x) name
word_has ws x name (inl h) = elim (cases_Bool (list_any (bytes_eq x) ws)) [ inl there ↦ rw there h | inr new ↦ rw new (Contains-append_left ws (x ∷ []) name h) ]
word_has ws x name (inr e) =
    elim (cases_Bool (list_any (bytes_eq x) ws)) [
      | inl there ↦ rw there (subst (λ (z : List ℕ). Contains ws z) e (any_has x ws there))
      | inr new ↦ rw new (Contains-append_right ws (x ∷ []) name (one_in_has x name e))
    ]

pub words_in : (ws xs : List (List ℕ)) (name : List ℕ) → Contains (fold (used bytes_eq) ws xs) name → Contains ws name ⊎ Contains xs name
words_in ws [] name h = inl h
words_in ws (x ∷ xs) name h =
    elim (words_in (used bytes_eq ws x) xs name h) [
      | inl old ↦ elim (word_in ws x name old) [ inl k ↦ inl k | inr e ↦ inr (Contains-append_left (x ∷ []) xs name (one_in_has x name e)) ]
      | inr more ↦ inr (Contains-append_right (x ∷ []) xs name more)
    ]

pub words_have : (ws xs : List (List ℕ)) (name : List ℕ) → Contains ws name ⊎ Contains xs name → Contains (fold (used bytes_eq) ws xs) name
words_have ws [] name (inl h) = h
words_have ws [] name (inr h) = absurd (none_in name h)
words_have ws (x ∷ xs) name (inl h) = words_have (used bytes_eq ws x) xs name (inl (word_has ws x name (inl h)))
words_have ws (x ∷ xs) name (inr h) =
    elim (Contains-append_cases (x ∷ []) xs name h) [
      | inl one ↦ words_have (used bytes_eq ws x) xs name (inl (word_has ws x name (inr (one_in_is x name one))))
      | inr more ↦ words_have (used bytes_eq ws x) xs name (inr more)
    ]

-- the list only grows
pub words_grow : (ws xs : List (List ℕ)) → (more : List (List ℕ)) × (fold (used bytes_eq) ws xs ≡ ws ++ more)
words_grow ws [] = ([], sym (append-nil ws))
words_grow ws (x ∷ xs) = by (words_grow (used bytes_eq ws x) xs)
  where
    by : (more : List (List ℕ)) × (fold (used bytes_eq) (used bytes_eq ws x) xs ≡ used bytes_eq ws x ++ more) → (more : List (List ℕ)) × (fold (used bytes_eq) (used bytes_eq ws x) xs ≡ ws ++ more)
    by rest =
        elim (cases_Bool (list_any (bytes_eq x) ws)) [
          | inl there ↦ (rest.0, rest.1 ∙ (rw there refl))
          | inr new ↦ (x ∷ rest.0, rest.1 ∙ (rw new (append_assoc ws (x ∷ []) rest.0)))
        ]

-- each name stands at one place
unfoldable pub IsOnce : List (List ℕ) → Type 0
IsOnce ws = (i j : ℕ) (name : List ℕ) → slice_get ws i ≡ Some name → slice_get ws j ≡ Some name → i ≡ j

pushed_once : (ws : List (List ℕ)) (x : List ℕ) → list_any (bytes_eq x) ws ≡ false → IsOnce ws → IsOnce (ws ++ x ∷ [])
unfolding IsOnce
pushed_once ws x new once i j name a b = by (pushed_at ws x name i a) (pushed_at ws x name j b)
  where
    not : (k : ℕ) → slice_get ws k ≡ Some name → x ≡ name → ⊥
    not k at is = true≢false (sym (any_passes_from_place (bytes_eq x) ws k name at ((bytes_eq-Decides x name).1 is)) ∙ new)

    by : (slice_get ws i ≡ Some name) ⊎ ((i ≡ length ws) × (x ≡ name)) → (slice_get ws j ≡ Some name) ⊎ ((j ≡ length ws) × (x ≡ name)) → i ≡ j
    by (inl p) (inl q) = once i j name p q
    by (inl p) (inr q) = absurd (not i p q.1)
    by (inr p) (inl q) = absurd (not j q p.1)
    by (inr p) (inr q) = p.0 ∙ sym q.0

pub words_once : (ws xs : List (List ℕ)) → IsOnce ws → IsOnce (fold (used bytes_eq) ws xs)
words_once ws [] once = once
words_once ws (x ∷ xs) once =
    words_once (used bytes_eq ws x) xs (elim (cases_Bool (list_any (bytes_eq x) ws)) [ inl there ↦ rw there once | inr new ↦ rw new (pushed_once ws x new once) ])
