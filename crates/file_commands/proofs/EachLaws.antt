-- What a list comes to is one thing: something for each, or the first fault; and so what is said on it is one outcome, and there is one.
use Rattle.std.proofs.Common.{◌≡◌, ◌⊎◌, inl, inr, ℕ, ◌+◌, List, [], ◌∷◌, refl, sym, ap, subst, ◌∙◌}
use Rattle.std.specs.List.{AllByRecursion}
use Rattle.st_base.specs.declared.fault.Fault.{Fault}
use Rattle.file_commands.specs.declared.outcome.Outcome.{Outcome}
use Rattle.file_commands.specs.Inputs.{name_at}
use Rattle.file_commands.specs.Outcomes.{refused}
use Rattle.file_commands.specs.InputObjects.{Each, FirstFault, OnEach}

-- ---- one at most

module _ {A B : Type 0} (Holds : A → B → Type 0) (Fails : A → Fault → Type 0)
    (one : (x : A) (y z : B) → Holds x y → Holds x z → y ≡ z) (one_fault : (x : A) (f g : Fault) → Fails x f → Fails x g → f ≡ g)
    (not_both : (x : A) (y : B) (f : Fault) → Holds x y → Fails x f → ⊥) where
  each_once : (xs : List A) (ys zs : List B) → Each Holds xs ys → Each Holds xs zs → ys ≡ zs
  each_once [] [] [] p q = refl
  each_once [] [] (z ∷ zs) p q = absurd q
  each_once [] (y ∷ ys) zs p q = absurd p
  each_once (x ∷ xs) [] zs p q = absurd p
  each_once (x ∷ xs) (y ∷ ys) [] p q = absurd q
  each_once (x ∷ xs) (y ∷ ys) (z ∷ zs) p q = ap (λ (w : B). w ∷ ys) (one x y z p.0 q.0) ∙ ap (λ (ws : List B). z ∷ ws) (each_once xs ys zs p.1 q.1)

  place_once : (at : ℕ) (xs : List A) (place other : ℕ) (f g : Fault) → FirstFault Holds Fails at xs place f → FirstFault Holds Fails at xs other g → place ≡ other
  place_once at [] place other f g p q = absurd p
  place_once at (x ∷ xs) place other f g (inl p) (inl q) = p.0 ∙ sym q.0
  place_once at (x ∷ xs) place other f g (inl p) (inr q) = absurd (not_both x q.0.0 f q.0.1 p.1)
  place_once at (x ∷ xs) place other f g (inr p) (inl q) = absurd (not_both x p.0.0 g p.0.1 q.1)
  place_once at (x ∷ xs) place other f g (inr p) (inr q) = place_once (at + 1) xs place other f g p.1 q.1

  fault_once : (at : ℕ) (xs : List A) (place other : ℕ) (f g : Fault) → FirstFault Holds Fails at xs place f → FirstFault Holds Fails at xs other g → f ≡ g
  fault_once at [] place other f g p q = absurd p
  fault_once at (x ∷ xs) place other f g (inl p) (inl q) = one_fault x f g p.1 q.1
  fault_once at (x ∷ xs) place other f g (inl p) (inr q) = absurd (not_both x q.0.0 f q.0.1 p.1)
  fault_once at (x ∷ xs) place other f g (inr p) (inl q) = absurd (not_both x p.0.0 g p.0.1 q.1)
  fault_once at (x ∷ xs) place other f g (inr p) (inr q) = fault_once (at + 1) xs place other f g p.1 q.1

  -- where all of them come to something, there is no first fault
  no_fault : (at : ℕ) (xs : List A) (ys : List B) (place : ℕ) (f : Fault) → Each Holds xs ys → FirstFault Holds Fails at xs place f → ⊥
  no_fault at [] ys place f p q = q
  no_fault at (x ∷ xs) [] place f p q = p
  no_fault at (x ∷ xs) (y ∷ ys) place f p (inl q) = not_both x y f p.0 q.1
  no_fault at (x ∷ xs) (y ∷ ys) place f p (inr q) = no_fault (at + 1) xs ys place f p.1 q.1

  refused_once : (names : List (List ℕ)) (place other : ℕ) (f g : Fault) → place ≡ other → f ≡ g → refused (name_at names place) f ≡ refused (name_at names other) g
  refused_once names place other f g e h = ap (λ (n : ℕ). refused (name_at names n) f) e ∙ ap (refused (name_at names other)) h

  pub on_each_once : (names : List (List ℕ)) (xs : List A) (Says : List B → Outcome → Type 0) → ((ys : List B) (o other : Outcome) → Says ys o → Says ys other → o ≡ other)
      → (o other : Outcome) → OnEach Holds Fails names xs Says o → OnEach Holds Fails names xs Says other → o ≡ other
  on_each_once names xs Says once o other (inl p) (inl q) =
      let same : q.0 ≡ p.0 = each_once xs q.0 p.0 q.1 p.1 in
      once p.0 o other p.2 (subst (λ (z : List B). Says z other) same q.2)
  on_each_once names xs Says once o other (inl p) (inr q) = absurd (no_fault 0 xs p.0 q.0 q.1 p.1 q.2)
  on_each_once names xs Says once o other (inr p) (inl q) = absurd (no_fault 0 xs q.0 p.0 p.1 q.1 p.2)
  on_each_once names xs Says once o other (inr p) (inr q) =
      p.3 ∙ refused_once names p.0 q.0 p.1 q.1 (place_once 0 xs p.0 q.0 p.1 q.1 p.2 q.2) (fault_once 0 xs p.0 q.0 p.1 q.1 p.2 q.2) ∙ sym q.3

-- ---- one at least

module _ {A B : Type 0} (Holds : A → B → Type 0) (Fails : A → Fault → Type 0) (Good : A → Type 0)
    (some : (x : A) → Good x → ((y : B) × Holds x y) ⊎ ((f : Fault) × Fails x f)) where
  abbrev Comes : ℕ → List A → Type 0
  Comes at xs = ((ys : List B) × Each Holds xs ys) ⊎ ((place : ℕ) × (f : Fault) × FirstFault Holds Fails at xs place f)

  -- what comes of one and of those behind it
  comes_both : (at : ℕ) (x : A) (xs : List A) → (y : B) × Holds x y → Comes (at + 1) xs → Comes at (x ∷ xs)
  comes_both at x xs one (inl all) = inl ((one.0 ∷ all.0, (one.1, all.1)))
  comes_both at x xs one (inr fault) = inr ((fault.0, fault.1, inr ((one, fault.2))))

  comes_on : (at : ℕ) (x : A) (xs : List A) → ((y : B) × Holds x y) ⊎ ((f : Fault) × Fails x f) → Comes (at + 1) xs → Comes at (x ∷ xs)
  comes_on at x xs (inl one) rest = comes_both at x xs one rest
  comes_on at x xs (inr fault) rest = inr ((at, fault.0, inl ((refl, fault.1))))

  comes : (at : ℕ) (xs : List A) → AllByRecursion Good xs → Comes at xs
  comes at [] good = inl (([], tt))
  comes at (x ∷ xs) good = comes_on at x xs (some x good.0) (comes (at + 1) xs good.1)

  pub on_each : (names : List (List ℕ)) (xs : List A) (Says : List B → Outcome → Type 0) → AllByRecursion Good xs
      → ((ys : List B) → Each Holds xs ys → (o : Outcome) × Says ys o) → (o : Outcome) × OnEach Holds Fails names xs Says o
  on_each names xs Says good says = by_comes (comes 0 xs good) where
    by_comes : Comes 0 xs → (o : Outcome) × OnEach Holds Fails names xs Says o
    by_comes (inl all) = let r = says all.0 all.1 in (r.0, inl ((all.0, all.1, r.1)))
    by_comes (inr fault) = (refused (name_at names fault.0) fault.1, inr ((fault.0, fault.1, fault.2, refl)))
