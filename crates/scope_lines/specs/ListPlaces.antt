-- Places in a list, counted from 0.
use Rattle.std.specs.Prelude.{◌≡◌, ℕ, suc, ◌<◌, ◌≤◌, List, [], ◌∷◌, ◌++◌, Bool, true, false, if◌then◌else◌, Option, Some, None, slice_get}

-- what each item gives by what stands before it and what stands after it; its place is the number of those before
abbrev pub each : {X Y : Type 0} → (List X → X → List X → List Y) → List X → List X → List Y
each gives before [] = []
each gives before (x ∷ xs) = gives before x xs ++ each gives (before ++ x ∷ []) xs

-- a place of the rest, counted from the item before it; else that item's own where it passes
abbrev pub place_or : Option ℕ → Bool → Option ℕ
place_or (Some place) passes = Some (suc place)
place_or None passes = if passes then Some 0 else None

-- the place of the last item that passes the test
abbrev pub last_place : {X : Type 0} → (X → Bool) → List X → Option ℕ
last_place test [] = None
last_place test (x ∷ xs) = place_or (last_place test xs) (test x)

-- ---- in words of places

-- the item at a place passes the test, and none after it does
pub record IsLast {X : Type 0} (test : X → Bool) (xs : List X) (place : ℕ) : Type 0 where
  pub item : X
  pub there : slice_get xs place ≡ Some item
  pub passes : test item ≡ true
  pub last : (other : ℕ) (x : X) → place < other → slice_get xs other ≡ Some x → test x ≡ false

-- no item passes the test
abbrev pub NonePass : {X : Type 0} → (X → Bool) → List X → Type 0
NonePass {X} test xs = (other : ℕ) (x : X) → slice_get xs other ≡ Some x → test x ≡ false

-- these are the things at the places from `least` on, in order: each thing at its place, and none between two of them or after the last
abbrev pub AreInOrder : {A : Type 0} → (ℕ → A → Type 0) → ℕ → List A → Type 0
AreInOrder {A} IsAt least [] = (place : ℕ) (thing : A) → least ≤ place → IsAt place thing → ⊥
AreInOrder {A} IsAt least (x ∷ things) = (place : ℕ) × (least ≤ place) × IsAt place x
    × ((between : ℕ) (thing : A) → least ≤ between → between < place → IsAt between thing → ⊥) × AreInOrder IsAt (suc place) things

-- each of the places is at least `least` and after the one before it
abbrev pub Ascends : ℕ → List ℕ → Type 0
Ascends least [] = Unit {0}
Ascends least (place ∷ places) = (least ≤ place) × Ascends (suc place) places
