-- What the passes over ranges keep: a number for each text, a group for each name and shape, and which groups some unit has twice.
-- Contracts of private functions alone use these words.
use Rattle.std.specs.Prelude.{◌≡◌, ◌≢◌, ℕ, ◌+◌, ◌%◌, ◌^◌, ◌<◌, ◌≤◌, ◌&&◌, Bool, true, false, List, [], ◌∷◌, ⊤, Option, Some, None, nat_eq, slice_get, length}
use Rattle.std.specs.List.{slice_index_or}
use Rattle.std.specs.HashMap.{HashMap, get_by}
use Rattle.std.specs.HashSet.{HashSet, contains_by}
use Rattle.std.specs.Cmp.Lexicographic.{pointwise}
use denote.Ref.{Bor}
use Rattle.bincl_match.specs.declared.range.RangeOf.{RangeOf}
use Rattle.bincl_match.specs.Ranges.{is_repeated}

-- ---- instances

-- a set of names with instances has this one
abbrev pub has_instance : {S : Type 0} → HashSet (Bor (List ℕ) × ℕ) S → List ℕ → ℕ → Bool
has_instance taken name v = contains_by (λ k. pointwise nat_eq name k.0.now && nat_eq v k.1) taken

-- a map from names with sums as a function
abbrev pub look_sum : {S : Type 0} → HashMap (Bor (List ℕ) × ℕ) ℕ S → List ℕ → ℕ → Option ℕ
look_sum m name sum = get_by (λ k. pointwise nat_eq name k.0.now && nat_eq sum k.1) m

-- the first n numbers from the sum on, modulo 2 ^ 32, are taken
abbrev pub AreTried : (ℕ → Bool) → ℕ → ℕ → Type 0
AreTried taken sum n = (e : ℕ) → e < n → taken ((sum + e) % 2 ^ 32) ≡ true

-- ---- a number for each text

-- a map from texts as a function
abbrev pub look : {S : Type 0} → HashMap (Bor (List ℕ)) ℕ S → List ℕ → Option ℕ
look m text = get_by (λ k. pointwise nat_eq text k.now) m

-- what a look-up gives after a key was noted where it was not: what was found, or the new value where the key is the new one
abbrev pub or_new : Option ℕ → Bool → ℕ → Option ℕ
or_new (Some k) same value = Some k
or_new None true value = Some value
or_new None false value = None

-- each number is below n, and no two texts have one
pub record Numbering (find : List ℕ → Option ℕ) (n : ℕ) : Type 0 where
  pub below : (t : List ℕ) (k : ℕ) → find t ≡ Some k → k < n
  pub one : (t u : List ℕ) (k : ℕ) → find t ≡ Some k → find u ≡ Some k → t ≡ u

-- what was found is found still
abbrev pub Grows : (List ℕ → Option ℕ) → (List ℕ → Option ℕ) → Type 0
Grows find new = (t : List ℕ) (k : ℕ) → find t ≡ Some k → new t ≡ Some k

-- the texts have these numbers
abbrev pub Numbered : (List ℕ → Option ℕ) → List (List ℕ) → List ℕ → Type 0
Numbered find [] [] = ⊤
Numbered find [] (k ∷ ks) = ⊥
Numbered find (t ∷ ts) [] = ⊥
Numbered find (t ∷ ts) (k ∷ ks) = (find t ≡ Some k) × Numbered find ts ks

-- ---- a key for each name and shape

abbrev pub key_at : List (List ℕ) → ℕ → List ℕ
key_at keys i = slice_index_or keys i []

-- equal names and shapes have one key, and only they
pub record AreKeys (ranges : List RangeOf) (keys : List (List ℕ)) : Type 0 where
  pub count : length keys ≡ length ranges
  pub alike : (i j : ℕ) (x y : RangeOf) → slice_get ranges i ≡ Some x → slice_get ranges j ≡ Some y → key_at keys i ≡ key_at keys j → (x.name ≡ y.name) × (x.shape ≡ y.shape)
  pub keyed : (i j : ℕ) (x y : RangeOf) → slice_get ranges i ≡ Some x → slice_get ranges j ≡ Some y → x.name ≡ y.name → x.shape ≡ y.shape → key_at keys i ≡ key_at keys j

-- k is the first place whose key is that of i
abbrev pub IsFirst : List (List ℕ) → ℕ → ℕ → Type 0
IsFirst keys i k = (k ≤ i) × (key_at keys k ≡ key_at keys i) × ((j : ℕ) → j < k → key_at keys j ≢ key_at keys i)

-- for each key the first place that has it
pub record AreFirsts (keys : List (List ℕ)) (out : List ℕ) : Type 0 where
  pub count : length out ≡ length keys
  pub each : (i : ℕ) → i < length keys → IsFirst keys i (slice_index_or out i 0)

-- the first of the first i keys that is q
abbrev pub Placed : List (List ℕ) → ℕ → List ℕ → Option ℕ → Type 0
Placed keys i q (Some k) = (k < i) × (key_at keys k ≡ q) × ((j : ℕ) → j < k → key_at keys j ≢ q)
Placed keys i q None = (j : ℕ) → j < i → key_at keys j ≢ q

-- equal names and shapes have one group, and only they
pub record AreGroups (ranges : List RangeOf) (groups : List ℕ) : Type 0 where
  pub count : length groups ≡ length ranges
  pub low : (i : ℕ) → i < length ranges → slice_index_or groups i 0 < length ranges
  pub to : (i j : ℕ) (x y : RangeOf) → slice_get ranges i ≡ Some x → slice_get ranges j ≡ Some y → x.name ≡ y.name → x.shape ≡ y.shape → slice_index_or groups i 0 ≡ slice_index_or groups j 0
  pub from : (i j : ℕ) (x y : RangeOf) → slice_get ranges i ≡ Some x → slice_get ranges j ≡ Some y → slice_index_or groups i 0 ≡ slice_index_or groups j 0 → (x.name ≡ y.name) × (x.shape ≡ y.shape)

-- ---- groups that some unit has twice

-- what a test tells
abbrev pub Tells : Bool → Type 0 → Type 0
Tells true P = P
Tells false P = P → ⊥

-- one of the first n ranges is of this unit and group
abbrev pub Met : List RangeOf → List ℕ → ℕ → ℕ → ℕ → Type 0
Met ranges groups n unit group = (j : ℕ) × (x : RangeOf) × (j < n) × (slice_get ranges j ≡ Some x) × (x.unit ≡ unit) × (slice_index_or groups j 0 ≡ group)

-- two of the first n ranges are of one unit and of this group
abbrev pub Twice : List RangeOf → List ℕ → ℕ → ℕ → Type 0
Twice ranges groups n group = (j : ℕ) × (l : ℕ) × (x : RangeOf) × (y : RangeOf) × (j < l) × (l < n) × (slice_get ranges j ≡ Some x) × (slice_get ranges l ≡ Some y) × (x.unit ≡ y.unit)
    × (slice_index_or groups j 0 ≡ group) × (slice_index_or groups l 0 ≡ group)

-- a set of units with groups has this pair
abbrev pub has_pair : {S : Type 0} → HashSet (ℕ × ℕ) S → ℕ → ℕ → Bool
has_pair s unit group = contains_by (λ p. nat_eq unit p.0 && nat_eq group p.1) s

-- what the first n ranges tell: which pairs were met, and which groups some unit has twice
pub record CrowdedSoFar (ranges : List RangeOf) (groups : List ℕ) (n : ℕ) (met : ℕ → ℕ → Bool) (bad : List Bool) : Type 0 where
  pub count : length bad ≡ length ranges
  pub met_is : (unit group : ℕ) → Tells (met unit group) (Met ranges groups n unit group)
  pub bad_is : (group : ℕ) (b : Bool) → slice_get bad group ≡ Some b → Tells b (Twice ranges groups n group)

-- for each range whether some unit has its name and shape twice
pub record AreCrowded (ranges : List RangeOf) (flags : List Bool) : Type 0 where
  pub count : length flags ≡ length ranges
  pub each : (i : ℕ) (x : RangeOf) → slice_get ranges i ≡ Some x → slice_get flags i ≡ Some (is_repeated x ranges)
