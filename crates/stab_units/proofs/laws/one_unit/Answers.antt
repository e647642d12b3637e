use Rattle.stab_units.proofs.OneLaws.{some_unit, one_unit, one_unit_fault, unit_not_both, one_unit_count}
use Rattle.stab_units.proofs.StopLemmas.{unit_count}
use Rattle.stab_units.proofs.laws.one_unit.Goals as goal

pub returns-clause-some : goal.returns-clause-some
returns-clause-some c = some_unit c.one_symbol.ensures.some c.one_symbol.ensures.one c.one_symbol.ensures.one_fault c.one_symbol.ensures.not_both

pub returns-clause-one : goal.returns-clause-one
returns-clause-one c = one_unit c.one_symbol.ensures.some c.one_symbol.ensures.one c.one_symbol.ensures.one_fault c.one_symbol.ensures.not_both

pub returns-clause-one_fault : goal.returns-clause-one_fault
returns-clause-one_fault c = one_unit_fault c.one_symbol.ensures.some c.one_symbol.ensures.one c.one_symbol.ensures.one_fault c.one_symbol.ensures.not_both

pub returns-clause-not_both : goal.returns-clause-not_both
returns-clause-not_both c = unit_not_both c.one_symbol.ensures.some c.one_symbol.ensures.one c.one_symbol.ensures.one_fault c.one_symbol.ensures.not_both

pub returns-clause-counted : goal.returns-clause-counted
returns-clause-counted c = unit_count

pub returns-clause-one_count : goal.returns-clause-one_count
returns-clause-one_count c = one_unit_count c.one_symbol.ensures.some c.one_symbol.ensures.one c.one_symbol.ensures.one_fault c.one_symbol.ensures.not_both
