use Rattle.stab_units.proofs.OneLaws.{spans_some, spans_one, spans_fault_one, spans_not_both, spans_count_one}
use Rattle.stab_units.proofs.StopLemmas.{spans_count}
use Rattle.stab_units.proofs.laws.one_spans.Goals as goal

pub returns-clause-some : goal.returns-clause-some
returns-clause-some c = spans_some c.one_symbol.ensures.some c.one_symbol.ensures.one c.one_symbol.ensures.one_fault c.one_symbol.ensures.not_both

pub returns-clause-one : goal.returns-clause-one
returns-clause-one c = spans_one c.one_symbol.ensures.some c.one_symbol.ensures.one c.one_symbol.ensures.one_fault c.one_symbol.ensures.not_both

pub returns-clause-one_fault : goal.returns-clause-one_fault
returns-clause-one_fault c = spans_fault_one c.one_symbol.ensures.some c.one_symbol.ensures.one c.one_symbol.ensures.one_fault c.one_symbol.ensures.not_both

pub returns-clause-not_both : goal.returns-clause-not_both
returns-clause-not_both c = spans_not_both c.one_symbol.ensures.some c.one_symbol.ensures.one c.one_symbol.ensures.one_fault c.one_symbol.ensures.not_both

pub returns-clause-counted : goal.returns-clause-counted
returns-clause-counted c = spans_count

pub returns-clause-one_count : goal.returns-clause-one_count
returns-clause-one_count c = spans_count_one c.one_symbol.ensures.some c.one_symbol.ensures.one c.one_symbol.ensures.one_fault c.one_symbol.ensures.not_both
