-- Which end closes a mark, in words of places and counts: the first place up to which ends have caught up with begins.
use Rattle.std.specs.Prelude.{◌≡◌, ◌≢◌, ℕ, ◌+◌, ◌<◌, ◌≤◌, List, [], ◌∷◌, take, length}
use Rattle.unit_outlines.specs.declared.kinds.Nesting.{Nesting}
use Rattle.unit_outlines.specs.declared.kinds.Nesting.TheVariants.{Opens, Closes, Parts, Other}

abbrev pub opens_of : Nesting → ℕ
opens_of Opens = 1
opens_of Closes = 0
opens_of Parts = 0
opens_of Other = 0

abbrev pub closes_of : Nesting → ℕ
closes_of Opens = 0
closes_of Closes = 1
closes_of Parts = 0
closes_of Other = 0

abbrev pub parts_of : Nesting → ℕ
parts_of Opens = 0
parts_of Closes = 0
parts_of Parts = 1
parts_of Other = 0

module _ {E : Type 0} (role : E → Nesting) where
  -- how many of the entries open a mark
  abbrev pub begins : List E → ℕ
  begins [] = 0
  begins (e ∷ es) = opens_of (role e) + begins es

  -- how many close one
  abbrev pub ends : List E → ℕ
  ends [] = 0
  ends (e ∷ es) = closes_of (role e) + ends es

  -- how many part units
  abbrev pub partings : List E → ℕ
  partings [] = 0
  partings (e ∷ es) = parts_of (role e) + partings es

  -- count is the least number of entries behind a mark up to which as many marks are closed as opened, the mark and `more` inside
  -- it included, and none of the entries parts units
  pub record ClosesAt (es : List E) (more count : ℕ) : Type 0 where
    pub within : count ≤ length es
    pub even : ends (take count es) ≡ begins (take count es) + more + 1
    pub whole : partings (take count es) ≡ 0
    pub first : (n : ℕ) → n < count → ends (take n es) ≢ begins (take n es) + more + 1

  -- no number of entries that part no unit closes it
  abbrev pub NeverCloses : List E → ℕ → Type 0
  NeverCloses es more = (n : ℕ) → partings (take n es) ≡ 0 → ends (take n es) ≢ begins (take n es) + more + 1
