-- Items that are visited in order: those of two lists, one list after the other.
use Rattle.std.proofs.Common.{◌≡◌, ℕ, ◌+◌, ◌<◌, ◌≤◌, List, [], ◌∷◌, ◌++◌, length, drop, get_or, map, refl, sym, ap, subst, ◌∙◌, inl, inr, ⊎_elim, append_assoc, append-nil}
use Rattle.std.specs.Prelude.{Result, Ok, Err, flat_map}
use Rattle.std.proofs.lemmas.List.{drop_more, drop_all}
use Rattle.stab_symbols.specs.TypeWalks.{Visited}

module _ {V T E : Type 0} (visits : V → T → V → Result (Unit {0}) E → Type 0) where
  -- where all of the first were visited, the second follow
  pub visited_both : (old mid new : V) (xs ys : List T) (result : Result (Unit {0}) E) → Visited visits old xs mid (Ok tt) → Visited visits mid ys new result
      → Visited visits old (xs ++ ys) new result
  visited_both old mid new [] ys result first second = subst (λ (v : V). Visited visits v ys new result) first.0 second
  visited_both old mid new (x ∷ xs) ys result first second = ⊎_elim
      (λ on. inl (on.0, on.1, visited_both on.0 mid new xs ys result on.2 second))
      (λ stop. let e : Ok tt ≡ Err stop.0 = stop.1 in absurd (cc))
      first

  -- where it stopped at one of the first, it stopped at one of all
  pub visited_stopped : (old new : V) (xs ys : List T) (e : E) → Visited visits old xs new (Err e) → Visited visits old (xs ++ ys) new (Err e)
  visited_stopped old new [] ys e first = let f : Err e ≡ Ok tt = first.1 in absurd (cc)
  visited_stopped old new (x ∷ xs) ys e first = ⊎_elim
      (λ on. inl (on.0, on.1, visited_stopped on.0 new xs ys e on.2))
      (λ stop. inr stop)
      first

-- ---- the items of things that stand in a list, from a place on

module _ {V T E A B : Type 0} (visits : V → T → V → Result (Unit {0}) E → Type 0) (items : B → List T) (make : A → B) (xs : List A) (at : ℕ) where
  -- of none that are left
  pub visited_end : (now : V) → length xs ≤ at → Visited visits now (flat_map items (map make (drop at xs))) now (Ok tt)
  visited_end now past = subst (λ (left : List A). Visited visits now (flat_map items (map make left)) now (Ok tt)) (sym (drop_all at xs past)) (refl, refl)

  module _ (x : A) (within : at < length xs) (is : x ≡ get_or xs at x) where
    -- one more stands before those after it
    in_front : flat_map items (map make (drop at xs)) ≡ items (make x) ++ flat_map items (map make (drop (at + 1) xs))
    in_front = ap (λ (left : List A). flat_map items (map make left)) (drop_more xs at x within) ∙ ap (λ (z : A). items (make z) ++ flat_map items (map make (drop (at + 1) xs))) (sym is)

    -- those of one, and then those after it
    pub visited_next : (old mid new : V) (result : Result (Unit {0}) E) → Visited visits old (items (make x)) mid (Ok tt) → Visited visits mid (flat_map items (map make (drop (at + 1) xs))) new result
        → Visited visits old (flat_map items (map make (drop at xs))) new result
    visited_next old mid new result first second = subst (λ (all : List T). Visited visits old all new result) (sym in_front) (visited_both visits old mid new (items (make x)) _ result first second)

    -- where it stopped at one of these, those after it were not visited
    pub visited_last : (old new : V) (e : E) → Visited visits old (items (make x)) new (Err e) → Visited visits old (flat_map items (map make (drop at xs))) new (Err e)
    visited_last old new e first = subst (λ (all : List T). Visited visits old all new (Err e)) (sym in_front) (visited_stopped visits old new (items (make x)) _ e first)

-- ---- a visitor that keeps a list

-- where each visit puts its items at the end of a list, a walk puts the items of all there
pub visited_puts : {V T E A : Type 0} (visits : V → T → V → Result (Unit {0}) E → Type 0) (kept : V → List A) (put : T → List A)
    → ((old : V) (x : T) (new : V) → visits old x new (Ok tt) → kept new ≡ kept old ++ put x)
    → (xs : List T) (old new : V) → Visited visits old xs new (Ok tt) → kept new ≡ kept old ++ flat_map put xs
visited_puts visits kept put each [] old new v = ap kept v.0 ∙ sym (append-nil (kept old))
visited_puts {V} {T} {E} {A} visits kept put each (x ∷ xs) old new v = ⊎_elim
    (λ on. visited_puts visits kept put each xs on.0 new on.2 ∙ ap (λ (z : List A). z ++ flat_map put xs) (each old x on.0 on.1) ∙ append_assoc (kept old) (put x) (flat_map put xs))
    (λ stop. let e : Ok tt ≡ Err stop.0 = stop.1 in absurd (cc))
    v
