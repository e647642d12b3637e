-- A call that makes several checks in order answers its value exactly where all of them hold.
use Rattle.std.proofs.Common.{◌≡◌, Bool, true, false, List, [], ◌∷◌, refl, ap}
use Rattle.std.specs.Prelude.{Option, Some, None, Ok, if◌then◌else◌}
use Rattle.st_base.specs.declared.fault.Fault.{Fault}
use Rattle.st_base.specs.Faults.{Check, first_fault, unless, checked}

-- each check holds
abbrev pub AllHold : List Check → Type 0
AllHold [] = Unit {0}
AllHold (c ∷ checks) = (c.holds ≡ true) × AllHold checks

-- where all hold there is no fault
pub first_fault-AllHold : (checks : List Check) → AllHold checks → first_fault checks ≡ None
first_fault-AllHold [] all = refl
first_fault-AllHold (c ∷ checks) all = rw all.0 (first_fault-AllHold checks all.1)

-- where there is no fault, the first check holds and there is none among the others
first_holds : (test : Bool) (fault : Fault) (rest : Option Fault) → (if test then rest else Some fault) ≡ None → (test ≡ true) × (rest ≡ None)
first_holds true fault rest none = (refl, none)
first_holds false fault rest none = absurd cc

-- where there is no fault all hold
pub AllHold-first_fault : (checks : List Check) → first_fault checks ≡ None → AllHold checks
AllHold-first_fault [] none = tt
AllHold-first_fault (c ∷ checks) none =
    let first = first_holds c.holds c.fault (first_fault checks) none in
    (first.0, AllHold-first_fault checks first.1)

-- where a value is answered, all hold, and it is that value
pub checked-ok : {A : Type 0} (checks : List Check) (value found : A) → checked checks value ≡ Ok found → AllHold checks × (value ≡ found)
checked-ok {A = A} checks value found answer = by_fault (first_fault checks) refl answer where
  by_fault : (fault : Option Fault) → first_fault checks ≡ fault → unless fault value ≡ Ok found → AllHold checks × (value ≡ found)
  by_fault None is rest = (AllHold-first_fault checks is, cc)
  by_fault (Some f) is rest = absurd cc

-- where all hold, the value is answered
pub checked-AllHold : {A : Type 0} (checks : List Check) (value : A) → AllHold checks → checked checks value ≡ Ok value
checked-AllHold checks value all = ap (λ (fault : Option Fault). unless fault value) (first_fault-AllHold checks all)
