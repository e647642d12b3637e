use Rattle.std.proofs.Common.{◌≡◌, drop}
use Rattle.st_base.specs.declared.fault.TheConstants.{ORDER_MIX}
use Rattle.aout_link.specs.Refusals.{first_that, has_other_order}
use Rattle.aout_link.proofs.refusals.check_orders.Given as goal

abbrev pub invariant-loop-at : goal.invariant-loop-at
invariant-loop-at l = first_that (has_other_order l.first) ORDER_MIX l.at (drop l.at l.objects) ≡ first_that (has_other_order l.first) ORDER_MIX 0 l.objects
