use Rattle.stab_units.proofs.ForgetLemmas.{same_units, same_faults}
use Rattle.stab_units.proofs.laws.header_values_law.Goals as goal

pub returns-clause-units : goal.returns-clause-units
returns-clause-units c = same_units

pub returns-clause-faults : goal.returns-clause-faults
returns-clause-faults c = same_faults
