-- Which ranges are one: the classes that merging makes of candidates. Two headers may refer to each other, so whether two ranges may be
-- merged depends on others; a matching says it for all of its pairs at once. This project's own: "The stabs debug format" merges ranges
-- of one name and sum.
use Rattle.std.specs.Prelude.{◌≡◌, ◌≢◌, ℕ, ◌<◌, ◌≤◌, ◌⊎◌, ⊤, true, List, [], ◌∷◌, Some, slice_get, slice_index, length}
use Rattle.std.specs.List.{Contains, slice_index_or}
use Rattle.bincl_match.specs.declared.range.Grouping.{Grouping}
use Rattle.bincl_match.specs.declared.range.RangeOf.{RangeOf}
use Rattle.bincl_match.specs.Instances.{IsInstance}
use Rattle.bincl_match.specs.Lawful.{IsHeader}

-- ---- pairs

-- a file number in a range of one unit agrees with one in a range of another: both are 0, the main source, or they are the numbers of
-- headers whose ranges are one range or a pair of P
abbrev pub NumbersAgree : List RangeOf → (ℕ → ℕ → Type 0) → ℕ → ℕ → ℕ → ℕ → Type 0
NumbersAgree ranges P unit other m n = ((m ≡ 0) × (n ≡ 0)) ⊎ ((k : ℕ) × (l : ℕ) × IsHeader ranges unit m k × IsHeader ranges other n l × ((k ≡ l) ⊎ P k l))

-- the one range has as many file numbers as the other, and they agree place by place
abbrev pub AllAgree : List RangeOf → (ℕ → ℕ → Type 0) → ℕ → ℕ → List ℕ → List ℕ → Type 0
AllAgree ranges P unit other [] [] = ⊤
AllAgree ranges P unit other [] (n ∷ ns) = ⊥
AllAgree ranges P unit other (m ∷ ms) [] = ⊥
AllAgree ranges P unit other (m ∷ ms) (n ∷ ns) = NumbersAgree ranges P unit other m n × AllAgree ranges P unit other ms ns

-- ranges i and j may be merged, provided that all pairs of P are: they are candidates of two units, with one name and one shape, and
-- their file numbers agree
pub record MayPair (ranges : List RangeOf) (P : ℕ → ℕ → Type 0) (i j : ℕ) : Type 0 where
  pub first : RangeOf
  pub second : RangeOf
  pub first_is : slice_get ranges i ≡ Some first
  pub second_is : slice_get ranges j ≡ Some second
  pub candidates : (first.candidate ≡ true) × (second.candidate ≡ true)
  pub units : first.unit ≢ second.unit
  pub names : first.name ≡ second.name
  pub shapes : first.shape ≡ second.shape
  pub agree : AllAgree ranges P first.unit second.unit first.numbers second.numbers

-- the pairs of P are a matching: each of them may be merged, provided that all of them are
abbrev pub IsMatching : List RangeOf → (ℕ → ℕ → Type 0) → Type 0
IsMatching ranges P = (i j : ℕ) → P i j → MayPair ranges P i j

-- ---- classes

-- the pairs of a list, in either order
abbrev pub Among : List (ℕ × ℕ) → ℕ → ℕ → Type 0
Among pairs i j = Contains pairs (i, j) ⊎ Contains pairs (j, i)

-- two ranges are of one class: one range, or a pair of some matching
abbrev pub InOneClass : List RangeOf → ℕ → ℕ → Type 0
InOneClass ranges i j = (i ≡ j) ⊎ ((pairs : List (ℕ × ℕ)) × IsMatching ranges (Among pairs) × Among pairs i j)

-- range k is kept for range i: it is the first of its class in the order of the list, which is that of the entries
abbrev pub IsKept : List RangeOf → ℕ → ℕ → Type 0
IsKept ranges i k = InOneClass ranges i k × ((j : ℕ) → InOneClass ranges i j → k ≤ j)

-- two different ones of the first n ranges for which the same range is kept
abbrev pub Shares : ℕ → List ℕ → ℕ → ℕ → Type 0
Shares n kept i j = (i < n) × (j < n) × (i ≢ j) × (slice_index_or kept i 0 ≡ slice_index_or kept j 0)

-- the classes of ranges: the ranges that share a kept one are a matching, and no matching has another pair; the first range of each
-- class is kept, with an instance of its own, so that two kept ranges of one name have different ones
pub record AreClasses (ranges : List RangeOf) (g : Grouping) : Type 0 where
  pub count : (length g.kept ≡ length ranges) × (length g.instance ≡ length ranges)
  pub sound : IsMatching ranges (Shares (length ranges) g.kept)
  pub greatest : (pairs : List (ℕ × ℕ)) → IsMatching ranges (Among pairs) → (i j : ℕ) → Among pairs i j → slice_index g.kept i ≡ slice_index g.kept j
  pub first : (i : ℕ) → i < length ranges → IsKept ranges i (slice_index g.kept i)
  pub own : (i : ℕ) → i < length ranges → slice_index g.kept i ≡ i → IsInstance ranges g.kept g.instance i
  pub shared : (i : ℕ) → i < length ranges → slice_index g.instance i ≡ slice_index g.instance (slice_index g.kept i)
  pub apart : (i j : ℕ) (x y : RangeOf) → slice_get ranges i ≡ Some x → slice_get ranges j ≡ Some y → x.name ≡ y.name → slice_index g.kept i ≡ i → slice_index g.kept j ≡ j → i ≢ j
      → slice_index g.instance i ≢ slice_index g.instance j
