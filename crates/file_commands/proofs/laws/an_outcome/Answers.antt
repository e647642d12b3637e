use Rattle.file_commands.proofs.ExistsLaws.{outcome_exists}
use Rattle.file_commands.proofs.laws.an_outcome.Goals as goal

pub returns : goal.returns
returns c = outcome_exists c.one_units.ensures.some c.one_expansion.ensures.some c.object_laws.ensures.object_or_fault c.a_reply.ensures c.one_link.ensures.some
