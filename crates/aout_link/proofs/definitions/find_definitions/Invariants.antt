use Rattle.aout_link.specs.Answering.{listed}
use Rattle.aout_link.proofs.DefinitionLemmas.{FoundSoFar}
use Rattle.aout_link.proofs.definitions.find_definitions.Given as goal

abbrev pub invariant-loop-at : goal.invariant-loop-at
invariant-loop-at l = FoundSoFar l.moves l.objects l.at (listed l.table.entries)
