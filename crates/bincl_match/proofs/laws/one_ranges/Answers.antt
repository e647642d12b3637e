use Rattle.bincl_match.proofs.LawLemmas.{lawful, ranges_one, ranges_some}
use Rattle.bincl_match.proofs.laws.one_ranges.Goals as goal

-- ranges come from units
pub returns-clause-some : goal.returns-clause-some
returns-clause-some c = ranges_some c.one_units.ensures.some

-- units and what their strings are read as determine them
pub returns-clause-one : goal.returns-clause-one
returns-clause-one c = ranges_one c.one_symbol.ensures.one c.one_units.ensures.one

pub returns-clause-lawful : goal.returns-clause-lawful
returns-clause-lawful c = lawful

-- units have no fault
pub returns-clause-not_both : goal.returns-clause-not_both
returns-clause-not_both c = λ text_end entries ranges f are fault. c.one_units.ensures.not_both text_end entries are.units f are.are_units fault
