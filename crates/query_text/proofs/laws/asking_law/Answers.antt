use Rattle.query_text.proofs.ReadLemmas.{asked_is_spelled, one_spelled, says_what}
use Rattle.query_text.proofs.WrongLemmas.{is_wrong}
use Rattle.query_text.proofs.laws.asking_law.Goals as goal

pub returns-clause-spelled : goal.returns-clause-spelled
returns-clause-spelled c = asked_is_spelled

pub returns-clause-one : goal.returns-clause-one
returns-clause-one c = one_spelled

pub returns-clause-wrong : goal.returns-clause-wrong
returns-clause-wrong c = says_what

pub returns-clause-place : goal.returns-clause-place
returns-clause-place c = is_wrong
