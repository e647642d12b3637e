-- The first fault of a list of entries. Each kind of fault *tells* a number at an entry, by the entry, those before it, nearest
-- first, and those behind it. The first is the one at the smallest place, and there the one with the smallest number.
use Rattle.std.specs.Prelude.{◌≡◌, ℕ, suc, ◌+◌, ◌<◌, ◌≤◌, ◌⊎◌, ◌&&◌, ◌||◌, ◌==◌, Bool, cond, ltb, Option, Some, None, List, [], ◌∷◌, take, drop, slice_get}
use Rattle.st_base.specs.declared.fault.Fault.{Fault}
use Rattle.st_base.specs.Faults.{fault_at}
use Rattle.unit_outlines.specs.EntryWords.{onto}

-- ---- of two

-- g comes before f: at a smaller place, or at the same place with a smaller number
abbrev pub comes_before : Fault → Fault → Bool
comes_before g f = ltb g.place f.place || ((g.place == f.place) && ltb g.number f.number)

-- the one of two faults that comes before the other
abbrev pub sooner : Option Fault → Option Fault → Option Fault
sooner None g = g
sooner (Some f) None = Some f
sooner (Some f) (Some g) = cond (comes_before g f) (Some g) (Some f)

-- the smaller of two numbers that are told at one entry
abbrev pub smaller : Option ℕ → Option ℕ → Option ℕ
smaller None b = b
smaller (Some a) None = Some a
smaller (Some a) (Some b) = cond (ltb b a) (Some b) (Some a)

-- ---- of a list

-- what is told at an entry, by the entries before it, nearest first, the entry, and those behind it
abbrev pub Telling : Type 0 → Type 0
Telling E = List E → E → List E → Option ℕ

-- number n is told at the entry at this place
pub record IsTold {E : Type 0} (tell : Telling E) (es : List E) (n place : ℕ) : Type 0 where
  pub entry : E
  pub is : slice_get es place ≡ Some entry
  pub told : tell (onto (take place es) []) entry (drop (suc place) es) ≡ Some n

-- f is the fault at the smallest place, and there of the smallest number; `At n place` says that fault n comes at the place
abbrev pub FirstOf : (ℕ → ℕ → Type 0) → Option Fault → Type 0
FirstOf At None = (n place : ℕ) → At n place → ⊥
FirstOf At (Some f) = At f.number f.place × (f.within ≡ 0) × ((n place : ℕ) → At n place → (f.place < place) ⊎ ((f.place ≡ place) × (f.number ≤ n)))

-- a number that is told at place p, or what comes after it
abbrev pub told_at : Option ℕ → ℕ → Option Fault → Option Fault
told_at None p more = more
told_at (Some n) p more = Some (fault_at n p)

-- the first fault of a list whose first entry is at place p, behind the entries of `back`, nearest first
abbrev pub first_told : {E : Type 0} → Telling E → List E → ℕ → List E → Option Fault
first_told tell back p [] = None
first_told tell back p (e ∷ es) = told_at (tell back e es) p (first_told tell (e ∷ back) (p + 1) es)
