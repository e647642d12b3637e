use Rattle.asm_objects.proofs.FaultLemmas.{first_is, none_has}
use Rattle.asm_objects.proofs.laws.first_fault_laws.Goals as goal

pub returns-clause-first : goal.returns-clause-first
returns-clause-first c = first_is

pub returns-clause-none : goal.returns-clause-none
returns-clause-none c = none_has
