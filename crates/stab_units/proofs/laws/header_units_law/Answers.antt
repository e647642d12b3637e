use Rattle.stab_units.proofs.HeaderUnitLemmas.{header_units-append, header_units-alike}
use Rattle.stab_units.proofs.laws.header_units_law.Goals as goal

pub returns-clause-joined : goal.returns-clause-joined
returns-clause-joined c = header_units-append

pub returns-clause-alike : goal.returns-clause-alike
returns-clause-alike c = header_units-alike
