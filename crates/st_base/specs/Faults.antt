-- Checks of an input that are made in order, and the fault of the first that the input does not pass.
use Rattle.std.specs.Prelude.{ℕ, Bool, if◌then◌else◌, List, [], ◌∷◌, Option, Some, None, Result, Ok, Err}
use Rattle.st_base.specs.declared.fault.Fault.{Fault}

-- the fault with this number and place whose within is 0
abbrev pub fault_at : ℕ → ℕ → Fault
fault_at number place = record { number = number; place = place; within = 0 }

-- what an input must hold, and its fault where it does not
pub record Check : Type 0 where
  pub holds : Bool
  pub fault : Fault

-- the check that an input holds something, with the number and place of its fault
abbrev pub check : Bool → ℕ → ℕ → Check
check holds number place = record { holds = holds; fault = fault_at number place }

-- the fault of the first check that does not hold; none where all hold
abbrev pub first_fault : List Check → Option Fault
first_fault [] = None
first_fault (c ∷ checks) = if c.holds then first_fault checks else Some c.fault

-- the fault, or the value where there is none
abbrev pub unless : {A : Type 0} → Option Fault → A → Result A Fault
unless None value = Ok value
unless (Some fault) value = Err fault

-- what a call answers that makes the checks in order: the fault of the first that does not hold, else the value
abbrev pub checked : {A : Type 0} → List Check → A → Result A Fault
checked checks value = unless (first_fault checks) value
