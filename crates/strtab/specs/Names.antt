-- The string table of a list of distinct names: what its bytes are, where each name stands, and how a name is added.
-- After a.out(5). That each distinct name stands once, in order of first use, is this project's own.
use Rattle.std.specs.Prelude.{◌≡◌, ◌≢◌, ℕ, ◌+◌, ◌<◌, Bool, List, [], ◌∷◌, ◌++◌, length, fold, All, AllPairs, bytes_eq}
use Rattle.std.specs.List.{before_first}
use Rattle.st_base.specs.Faults.{fault_at}
use Rattle.st_base.specs.FirstUses.{used}
use Rattle.st_base.specs.Number.{bytes_of}
use Rattle.st_base.specs.declared.fault.Refused.{Refused}
use Rattle.st_base.specs.declared.fault.Refused.TheVariants as refused
use Rattle.st_base.specs.declared.fault.TheConstants.{TOO_LARGE}
use Rattle.st_base.specs.declared.sizes.TheConstants.{FILE_LIMIT}
use Rattle.strtab.specs.StringTable.{HasNoZero}

-- the names, each with the zero byte that ends it
abbrev pub spelled : List (List ℕ) → List ℕ
spelled [] = []
spelled (name ∷ names) = name ++ (0 ∷ spelled names)

-- the size of the table of these names, its length word included
abbrev pub size_of : List (List ℕ) → ℕ
size_of names = 4 + length (spelled names)

-- the table of these names: its length word, then the names in order
abbrev pub table_of : Bool → List (List ℕ) → List ℕ
table_of big names = bytes_of big 4 (size_of names) ++ spelled names

-- the names before the first that equals this one: all of them where none does
abbrev pub names_before : List (List ℕ) → List ℕ → List (List ℕ)
names_before names name = before_first (bytes_eq name) names

-- the offset of a name in the table: after the word and the names before it; 0 for the empty name
abbrev pub offset_of : List (List ℕ) → List ℕ → ℕ
offset_of names [] = 0
offset_of names (b ∷ bytes) = size_of (names_before names (b ∷ bytes))

-- the names after one is used: a name that is there and the empty name change nothing, and a new name goes last
abbrev pub added : List (List ℕ) → List ℕ → List (List ℕ)
added names [] = names
added names (b ∷ bytes) = used bytes_eq names (b ∷ bytes)

-- the distinct names of a list of uses, in order of first use
abbrev pub first_uses : List (List ℕ) → List (List ℕ)
first_uses uses = fold added [] uses

-- a name that a table can hold: it is not empty, and no zero byte ends it early
pub record IsName (name : List ℕ) : Type 0 where
  pub filled : name ≢ []
  pub whole : HasNoZero name

-- names that a table can hold, no two of them equal
pub record AreNames (names : List (List ℕ)) : Type 0 where
  pub each : All IsName names
  pub distinct : AllPairs (λ first later. first ≢ later) names

-- what a call answers whose table would have this size: out of memory, or too large, which comes only past the limit
abbrev pub RefusesSize : ℕ → Refused → Type 0
RefusesSize size refused.Memory = Unit {0}
RefusesSize size (refused.At why) = (FILE_LIMIT < size) × (why ≡ fault_at TOO_LARGE FILE_LIMIT)
