use Rattle.std.proofs.Common.{List}
use Rattle.nlist_codec.specs.declared.named.Named.{Named}
use Rattle.aout_link.specs.Answering.{listed, Tells}
use Rattle.aout_link.proofs.DefinitionLemmas.{DefinedSoFar}
use Rattle.aout_link.proofs.definitions.define_all.Given as goal

abbrev pub invariant-loop-at : goal.invariant-loop-at
invariant-loop-at l = (before : List Named) → Tells before (listed l.initial.table.entries)
    → DefinedSoFar before l.object l.moves l.named l.at (listed l.initial.table.entries) (listed l.table.entries)
