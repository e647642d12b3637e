-- What is in the list that items give: some item gives it, by what stands before it and after it.
use Rattle.std.proofs.Common.{◌≡◌, ℕ, zero, suc, ⊎_elim, List, [], ◌∷◌, ◌++◌, take, drop, Bool, true, false, cond, Some, refl, sym, arith, subst, append_assoc, append-nil}
use Rattle.std.specs.Prelude.{slice_get, Contains}
use Rattle.std.proofs.lemmas.Option.{same_Some, none-some}
use Rattle.std.proofs.lemmas.List.Elements.{Contains-append_left, Contains-append_right, Contains-append_cases}
use Rattle.scope_lines.specs.ListPlaces.{each}

-- ---- the places whose items give something

abbrev pub Given : {X Y : Type 0} → (List X → X → List X → List Y) → List X → List X → Y → Type 0
Given {X} gives before xs y = (k : ℕ) × (x : X) × (slice_get xs k ≡ Some x) × Contains (gives (before ++ take k xs) x (drop (suc k) xs)) y

pub each_gives : {X Y : Type 0} (gives : List X → X → List X → List Y) (before xs : List X) (y : Y) → Contains (each gives before xs) y → Given gives before xs y
each_gives gives before [] y c = absurd (let h = c.1 in omega arith)
each_gives {X} {Y} gives before (x ∷ xs) y c = ⊎_elim
    (λ h. (0, x, refl, subst (λ (z : List X). Contains (gives z x xs) y) (sym (append-nil before)) h))
    (λ h. let g = each_gives gives (before ++ x ∷ []) xs y h in
    (suc g.0, g.1, g.2, subst (λ (z : List X). Contains (gives z g.1 (drop (suc g.0) xs)) y) (append_assoc before (x ∷ []) (take g.0 xs)) g.3))
    (Contains-append_cases (gives before x xs) (each gives (before ++ x ∷ []) xs) y c)

pub each_takes : {X Y : Type 0} (gives : List X → X → List X → List Y) (before xs : List X) (y : Y) (k : ℕ) (x : X) → slice_get xs k ≡ Some x
    → Contains (gives (before ++ take k xs) x (drop (suc k) xs)) y → Contains (each gives before xs) y
each_takes gives before [] y k x e c = absurd (none-some x e)
each_takes {X} {Y} gives before (z ∷ xs) y zero x e c =
    Contains-append_left (gives before z xs) (each gives (before ++ z ∷ []) xs) y
    (subst (λ (w : X). Contains (gives before w xs) y) (sym (same_Some z x e)) (subst (λ (w : List X). Contains (gives w x xs) y) (append-nil before) c))
each_takes {X} {Y} gives before (z ∷ xs) y (suc k) x e c =
    Contains-append_right (gives before z xs) (each gives (before ++ z ∷ []) xs) y
    (each_takes gives (before ++ z ∷ []) xs y k x e (subst (λ (w : List X). Contains (gives w x (drop (suc k) xs)) y) (sym (append_assoc before (z ∷ []) (take k xs))) c))

-- what a test lets through
pub in_cond : {Y : Type 0} (b : Bool) (z y : Y) → Contains (cond b (z ∷ []) []) y → (b ≡ true) × (z ≡ y)
in_cond true z y (zero, h, e) = (refl, e)
in_cond true z y (suc k, h, e) = absurd (omega arith)
in_cond false z y c = absurd (let h = c.1 in omega arith)

pub out_cond : {Y : Type 0} (b : Bool) (z : Y) → b ≡ true → Contains (cond b (z ∷ []) []) z
out_cond b z e = subst (λ (t : Bool). Contains (cond t (z ∷ []) []) z) (sym e) (0, omega arith, refl)

pub in_if : {Y : Type 0} (b : Bool) (ys : List Y) (y : Y) → Contains (cond b ys []) y → (b ≡ true) × Contains ys y
in_if true ys y c = (refl, c)
in_if false ys y c = absurd (let h = c.1 in omega arith)
