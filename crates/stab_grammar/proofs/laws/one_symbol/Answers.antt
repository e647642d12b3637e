use Rattle.stab_grammar.proofs.Whole.{some, one, one_fault, not_both}
use Rattle.stab_grammar.proofs.laws.one_symbol.Goals as goal

-- reading the whole string decides

pub returns-clause-some : goal.returns-clause-some
returns-clause-some c = some

pub returns-clause-one : goal.returns-clause-one
returns-clause-one c = one

pub returns-clause-one_fault : goal.returns-clause-one_fault
returns-clause-one_fault c = one_fault

pub returns-clause-not_both : goal.returns-clause-not_both
returns-clause-not_both c = not_both
