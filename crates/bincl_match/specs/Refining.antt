-- What refinement reads of ranges and keeps of them: marks for their numbers, and groups, each named by the place of its first range.
-- Contracts of private functions alone use these words.
use Rattle.std.specs.Prelude.{◌≡◌, ◌≢◌, ℕ, zero, suc, ◌+◌, ◌-◌, ◌*◌, ◌<◌, ◌&&◌, ◌⊎◌, ⊤, Bool, true, false, List, [], ◌∷◌, Option, Some, None, nat_eq, slice_get, length, map, sum}
use Rattle.std.specs.List.{slice_index_or}
use Rattle.std.specs.HashMap.{HashMap, get_by}
use Rattle.bincl_match.specs.declared.prepared.Prepared.{Prepared}
use Rattle.bincl_match.specs.declared.range.RangeOf.{RangeOf}
use Rattle.bincl_match.specs.Instances.{AreLow}
use Rattle.bincl_match.specs.Lawful.{IsHeader}
use Rattle.bincl_match.specs.Matching.{Among, IsMatching, Shares}
use Rattle.bincl_match.specs.Crowding.{key_at}

-- ---- marks

-- the mark of a number: 0 for 0, and k + 1 for the file of the header at place k
abbrev pub IsMark : List RangeOf → ℕ → ℕ → ℕ → Type 0
IsMark ranges unit number zero = number ≡ 0
IsMark ranges unit number (suc k) = IsHeader ranges unit number k

-- those of numbers
abbrev pub AreMarks : List RangeOf → ℕ → List ℕ → List ℕ → Type 0
AreMarks ranges unit [] [] = ⊤
AreMarks ranges unit [] (m ∷ marks) = ⊥
AreMarks ranges unit (n ∷ numbers) [] = ⊥
AreMarks ranges unit (n ∷ numbers) (m ∷ marks) = IsMark ranges unit n m × AreMarks ranges unit numbers marks

-- a number that is not 0 and is the file of no header
abbrev pub IsLost : List RangeOf → ℕ → ℕ → Type 0
IsLost ranges unit number = (number ≢ 0) × ((k : ℕ) → IsHeader ranges unit number k → ⊥)

-- one of the numbers is lost
abbrev pub HasLost : List RangeOf → ℕ → List ℕ → Type 0
HasLost ranges unit [] = ⊥
HasLost ranges unit (n ∷ numbers) = IsLost ranges unit n ⊎ HasLost ranges unit numbers

-- a number's mark, or that it is lost
abbrev pub IsMarkFor : List RangeOf → ℕ → ℕ → Option ℕ → Type 0
IsMarkFor ranges unit number None = IsLost ranges unit number
IsMarkFor ranges unit number (Some mark) = IsMark ranges unit number mark

-- a map from units with files as a function
abbrev pub look_header : {S : Type 0} → HashMap (ℕ × ℕ) ℕ S → ℕ → ℕ → Option ℕ
look_header m unit file = get_by (λ k. nat_eq unit k.0 && nat_eq file k.1) m

-- the mark of a file among the first n ranges, which is never 0, or that none of them is its header's
abbrev pub Found : List RangeOf → ℕ → ℕ → ℕ → Option ℕ → Type 0
Found ranges n unit file None = (k : ℕ) → k < n → IsHeader ranges unit file k → ⊥
Found ranges n unit file (Some zero) = ⊥
Found ranges n unit file (Some (suc k)) = (k < n) × IsHeader ranges unit file k

-- a map gives the mark of each file that a header opens
abbrev pub AreHeaders : {S : Type 0} → List RangeOf → HashMap (ℕ × ℕ) ℕ S → Type 0
AreHeaders ranges m = (unit file : ℕ) → Found ranges (length ranges) unit file (look_header m unit file)

-- ---- ranges

-- a range stands alone where it is no candidate or has a lost number; any other has the marks of its numbers
abbrev pub IsPrepared : List RangeOf → RangeOf → Bool → List ℕ → Type 0
IsPrepared ranges x true marks = (x.candidate ≡ false) ⊎ HasLost ranges x.unit x.numbers
IsPrepared ranges x false marks = (x.candidate ≡ true) × AreMarks ranges x.unit x.numbers marks

-- all of them
pub record ArePrepared (ranges : List RangeOf) (prepared : List Prepared) : Type 0 where
  pub count : length prepared ≡ length ranges
  pub each : (i : ℕ) (x : RangeOf) (p : Prepared) → slice_get ranges i ≡ Some x → slice_get prepared i ≡ Some p → IsPrepared ranges x p.lone p.marks

-- ---- keys

-- the first key: a range that stands alone has one of its own, any other that of its group
abbrev pub start_key : List ℕ → ℕ → Bool → List ℕ
start_key groups i true = 0 ∷ i ∷ []
start_key groups i false = 1 ∷ slice_index_or groups i 0 ∷ []

-- what a mark is with these groups
abbrev pub group_of : List ℕ → ℕ → ℕ
group_of groups zero = 0
group_of groups (suc k) = slice_index_or groups k 0 + 1

-- the key that splits groups: the group, and what the marks are with all groups
abbrev pub signature : List ℕ → ℕ → List ℕ → List ℕ
signature groups i marks = slice_index_or groups i 0 ∷ map (group_of groups) marks

-- a key for each range, made of its place and of what is read of it
pub record AreKeysBy (key : ℕ → Prepared → List ℕ) (prepared : List Prepared) (keys : List (List ℕ)) : Type 0 where
  pub count : length keys ≡ length prepared
  pub each : (i : ℕ) (p : Prepared) → slice_get prepared i ≡ Some p → key_at keys i ≡ key i p

-- ---- rounds

-- two ranges that may be of one group: one range where both stand alone, and of one name and shape where neither does
abbrev pub Alike : ℕ → ℕ → RangeOf → RangeOf → Bool → Bool → Type 0
Alike i j x y true true = i ≡ j
Alike i j x y true false = ⊥
Alike i j x y false true = ⊥
Alike i j x y false false = (x.name ≡ y.name) × (x.shape ≡ y.shape)

-- what each round keeps: groups are named by places that are not after their own, the pairs of each matching are of one group, and
-- the ranges of a group are alike
pub record AreRefined (ranges : List RangeOf) (prepared : List Prepared) (groups : List ℕ) : Type 0 where
  pub count : length groups ≡ length ranges
  pub low : AreLow groups
  pub keeps : (pairs : List (ℕ × ℕ)) → IsMatching ranges (Among pairs) → (i j : ℕ) → Among pairs i j → slice_index_or groups i 0 ≡ slice_index_or groups j 0
  pub finer : (i j : ℕ) (x y : RangeOf) (p q : Prepared) → slice_get ranges i ≡ Some x → slice_get ranges j ≡ Some y → slice_get prepared i ≡ Some p → slice_get prepared j ≡ Some q
      → slice_index_or groups i 0 ≡ slice_index_or groups j 0 → Alike i j x y p.lone q.lone

-- what groups are that a round leaves as they are
pub record AreSettled (ranges : List RangeOf) (groups : List ℕ) : Type 0 where
  pub matching : IsMatching ranges (Shares (length ranges) groups)
  pub first : (i : ℕ) → i < length ranges → slice_index_or groups (slice_index_or groups i 0) 0 ≡ slice_index_or groups i 0

-- how much the numbers of groups can still rise, which they do in each round that splits a group
abbrev pub room : List ℕ → ℕ
room groups = length groups * length groups - sum groups
