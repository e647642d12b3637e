use Rattle.std.proofs.Common.{◌≡◌, drop}
use Rattle.st_base.specs.declared.fault.TheConstants.{MACHINE_MIX}
use Rattle.aout_link.specs.Refusals.{first_that, has_other_machine}
use Rattle.aout_link.proofs.refusals.check_machines.Given as goal

abbrev pub invariant-loop-at : goal.invariant-loop-at
invariant-loop-at l = first_that (has_other_machine l.first) MACHINE_MIX l.at (drop l.at l.objects) ≡ first_that (has_other_machine l.first) MACHINE_MIX 0 l.objects
