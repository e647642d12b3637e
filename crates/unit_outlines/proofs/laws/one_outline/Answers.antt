use Rattle.unit_outlines.proofs.Together.{one_fault, some_outline}
use Rattle.unit_outlines.proofs.laws.one_outline.Goals as goal

pub returns-clause-some : goal.returns-clause-some
returns-clause-some c = some_outline

pub returns-clause-one : goal.returns-clause-one
returns-clause-one c = one_fault
