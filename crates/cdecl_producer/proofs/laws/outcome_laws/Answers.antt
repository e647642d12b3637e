use Rattle.cdecl_producer.proofs.ProducesLemmas.{produces_once, produces_some}
use Rattle.cdecl_producer.proofs.laws.outcome_laws.Goals as goal

pub returns-clause-one : goal.returns-clause-one
returns-clause-one c = produces_once

pub returns-clause-some : goal.returns-clause-some
returns-clause-some c = produces_some
