-- What a call answers that changes a value as a definition says, or has the definition's fault.
use Rattle.std.specs.Prelude.{◌≡◌, Result, Ok, Err}
use Rattle.st_base.specs.declared.fault.Fault.{Fault}
use Rattle.st_base.specs.declared.fault.Refused.{Refused}
use Rattle.st_base.specs.declared.fault.Refused.TheVariants.{At, Memory}

-- go on with the value, or the first fault
abbrev pub on_ok : {A B : Type 0} → Result A Fault → (A → Result B Fault) → Result B Fault
on_ok (Ok x) on = on x
on_ok (Err fault) on = Err fault

-- the value is now what the definition gives; a fault is the definition's, and leaves the value as it was. Where memory runs out nothing is
-- said of the value.
abbrev pub Acts : {S X : Type 0} → Result S Fault → S → S → Result X Refused → Type 0
Acts wanted old new (Ok x) = wanted ≡ Ok new
Acts wanted old new (Err (At fault)) = (wanted ≡ Err fault) × (new ≡ old)
Acts wanted old new (Err Memory) = Unit {0}

-- the same where the call answers something beside
abbrev pub Gives : {S X : Type 0} → Result (X × S) Fault → S → S → Result X Refused → Type 0
Gives wanted old new (Ok x) = wanted ≡ Ok (x, new)
Gives wanted old new (Err (At fault)) = (wanted ≡ Err fault) × (new ≡ old)
Gives wanted old new (Err Memory) = Unit {0}

-- the same of a call that answers something and changes nothing
abbrev pub Answers : {X : Type 0} → Result X Fault → Result X Refused → Type 0
Answers wanted (Ok x) = wanted ≡ Ok x
Answers wanted (Err (At fault)) = wanted ≡ Err fault
Answers wanted (Err Memory) = Unit {0}

-- an answer beside a value that stays as it was
abbrev pub with_same : {S X : Type 0} → S → Result X Fault → Result (X × S) Fault
with_same same (Ok x) = Ok (x, same)
with_same same (Err fault) = Err fault
