use Rattle.aout_link.proofs.FirstLemmas.{stages_first, alike_first, twice_first, undefined_first, relocs_first, entry_twice_first, entry_undefined_first, reloc_first}
use Rattle.aout_link.proofs.laws.first_laws.Goals as goal

pub returns-clause-stages : goal.returns-clause-stages
returns-clause-stages c = stages_first

pub returns-clause-alike : goal.returns-clause-alike
returns-clause-alike c = alike_first

pub returns-clause-twice : goal.returns-clause-twice
returns-clause-twice c = twice_first

pub returns-clause-undefined : goal.returns-clause-undefined
returns-clause-undefined c = undefined_first

pub returns-clause-relocs : goal.returns-clause-relocs
returns-clause-relocs c = relocs_first

pub returns-clause-entry_twice : goal.returns-clause-entry_twice
returns-clause-entry_twice c = entry_twice_first

pub returns-clause-entry_undefined : goal.returns-clause-entry_undefined
returns-clause-entry_undefined c = entry_undefined_first

pub returns-clause-reloc : goal.returns-clause-reloc
returns-clause-reloc c = λ big k i f segment rs fault. reloc_first big k f segment i rs fault
