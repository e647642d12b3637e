use Rattle.bincl_match.proofs.HeaderLemmas.{found_like, found_more, found_none}
use Rattle.bincl_match.proofs.LawLemmas.{found_one}
use Rattle.bincl_match.proofs.laws.found_laws.Goals as goal

-- units and what their strings are read as determine them
pub returns-clause-one : goal.returns-clause-one
returns-clause-one c = found_one c.one_symbol.ensures.one c.one_units.ensures.one

-- the units with headers are those of the two lists
pub returns-clause-more : goal.returns-clause-more
returns-clause-more c = found_more c.one_symbol.ensures.one c.one_units.ensures.one c.joined_law.ensures.joined c.header_units_law.ensures.joined

-- the units with headers are the same
pub returns-clause-like : goal.returns-clause-like
returns-clause-like c = found_like c.one_symbol.ensures.one c.one_units.ensures.one c.joined_law.ensures.alike c.header_units_law.ensures.alike

-- no entries have no units
pub returns-clause-none : goal.returns-clause-none
returns-clause-none c = found_none c.joined_law.ensures.none
