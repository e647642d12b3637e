use Rattle.stab_units.proofs.OneLaws.{some_units, one_units, one_units_fault, units_not_both, units_count_one}
use Rattle.stab_units.proofs.StopLemmas.{units_count}
use Rattle.stab_units.proofs.laws.one_units.Goals as goal

pub returns-clause-some : goal.returns-clause-some
returns-clause-some c = some_units c.one_symbol.ensures.some c.one_symbol.ensures.one c.one_symbol.ensures.one_fault c.one_symbol.ensures.not_both

pub returns-clause-one : goal.returns-clause-one
returns-clause-one c = one_units c.one_symbol.ensures.some c.one_symbol.ensures.one c.one_symbol.ensures.one_fault c.one_symbol.ensures.not_both

pub returns-clause-one_fault : goal.returns-clause-one_fault
returns-clause-one_fault c = one_units_fault c.one_symbol.ensures.some c.one_symbol.ensures.one c.one_symbol.ensures.one_fault c.one_symbol.ensures.not_both

pub returns-clause-not_both : goal.returns-clause-not_both
returns-clause-not_both c = units_not_both c.one_symbol.ensures.some c.one_symbol.ensures.one c.one_symbol.ensures.one_fault c.one_symbol.ensures.not_both

pub returns-clause-counted : goal.returns-clause-counted
returns-clause-counted c = units_count

pub returns-clause-one_count : goal.returns-clause-one_count
returns-clause-one_count c = units_count_one c.one_symbol.ensures.some c.one_symbol.ensures.one c.one_symbol.ensures.one_fault c.one_symbol.ensures.not_both
