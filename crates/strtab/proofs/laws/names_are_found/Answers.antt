use Rattle.strtab.proofs.UsesLemmas.{name_in-names, offset_of-apart}
use Rattle.strtab.proofs.WordLemmas.{HasOwnLength-table_of}
use Rattle.strtab.proofs.laws.names_are_found.Goals as goal

pub returns-clause-found : goal.returns-clause-found
returns-clause-found c = name_in-names

pub returns-clause-apart : goal.returns-clause-apart
returns-clause-apart c = offset_of-apart

pub returns-clause-counted : goal.returns-clause-counted
returns-clause-counted c = HasOwnLength-table_of
