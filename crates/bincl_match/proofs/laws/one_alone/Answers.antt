use Rattle.bincl_match.proofs.AloneLemmas.{alone_one, alone_some}
use Rattle.bincl_match.proofs.laws.one_alone.Goals as goal

-- each range gets the first number that is free
pub returns-clause-some : goal.returns-clause-some
returns-clause-some c = alone_some

-- earlier ranges determine the instance of the next
pub returns-clause-one : goal.returns-clause-one
returns-clause-one c = alone_one
