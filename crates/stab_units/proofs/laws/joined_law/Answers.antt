use Rattle.unit_outlines.proofs.UntoldLemmas.{outline-append}
use Rattle.stab_units.proofs.ReadableLemmas.{units-append, no-units}
use Rattle.stab_units.proofs.AlikeLemmas.{alike_units}
use Rattle.stab_units.proofs.laws.joined_law.Goals as goal

pub returns-clause-outline : goal.returns-clause-outline
returns-clause-outline c = outline-append

pub returns-clause-joined : goal.returns-clause-joined
returns-clause-joined c = units-append

pub returns-clause-none : goal.returns-clause-none
returns-clause-none c = no-units

pub returns-clause-alike : goal.returns-clause-alike
returns-clause-alike c = alike_units
