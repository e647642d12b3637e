use Rattle.aout_link.proofs.AcceptedLemmas.{accepted_exactly}
use Rattle.aout_link.proofs.ExactLemmas.{exact_commons_accepted}
use Rattle.aout_link.proofs.laws.accepted_laws.Goals as goal

pub returns-clause-accepted_exactly : goal.returns-clause-accepted_exactly
returns-clause-accepted_exactly c = accepted_exactly

pub returns-clause-exact_commons : goal.returns-clause-exact_commons
returns-clause-exact_commons c = exact_commons_accepted
