use Rattle.unit_index.proofs.OneLaws.{some_index, one_index}
use Rattle.unit_index.proofs.laws.one_index.Goals as goal

pub returns-clause-some : goal.returns-clause-some
returns-clause-some c = some_index c.one_outline.ensures.some c.one_outline.ensures.one

pub returns-clause-one : goal.returns-clause-one
returns-clause-one c = one_index c.one_outline.ensures.some c.one_outline.ensures.one
