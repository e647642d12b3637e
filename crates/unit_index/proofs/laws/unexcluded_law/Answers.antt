use Rattle.unit_index.proofs.UnexcludedLaws.{same_world, same_fault}
use Rattle.unit_index.proofs.laws.unexcluded_law.Goals as goal

pub returns-clause-world : goal.returns-clause-world
returns-clause-world c = same_world c.one_outline.ensures.one

pub returns-clause-fault : goal.returns-clause-fault
returns-clause-fault c = same_fault c.one_outline.ensures.one
