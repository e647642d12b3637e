use Rattle.std.proofs.Common.{◌≡◌, drop}
use Rattle.st_base.specs.Faults.{first_fault}
use Rattle.aout_object.specs.Making.{kinds_checks}
use Rattle.aout_object.proofs.make.check_kinds.Given as goal

-- what is left has the fault of the whole
abbrev pub invariant-loop-place : goal.invariant-loop-place
invariant-loop-place l = first_fault (kinds_checks l.place (drop l.place l.named)) ≡ first_fault (kinds_checks 0 l.named)
