use Rattle.strtab.proofs.UsesLemmas.{AreNames-first_uses, name_in-first_uses, offset_of-later}
use Rattle.strtab.proofs.laws.uses_are_found.Goals as goal

pub returns-clause-lawful : goal.returns-clause-lawful
returns-clause-lawful c = AreNames-first_uses

pub returns-clause-found : goal.returns-clause-found
returns-clause-found c = name_in-first_uses

pub returns-clause-stays : goal.returns-clause-stays
returns-clause-stays c = offset_of-later
