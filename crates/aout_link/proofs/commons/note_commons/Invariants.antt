use Rattle.std.proofs.Common.{◌≡◌, ◌++◌, List, take}
use Rattle.nlist_codec.specs.declared.named.Named.{Named}
use Rattle.aout_link.specs.Answering.{listed, Tells}
use Rattle.aout_link.specs.NameTables.{sizes_of, commons_among}
use Rattle.aout_link.proofs.commons.note_commons.Given as goal

abbrev pub invariant-loop-entry : goal.invariant-loop-entry
invariant-loop-entry l = (all before : List Named) → Tells all (listed l.definitions.entries) → listed l.initial.sizes.entries ≡ sizes_of before
    → listed l.sizes.entries ≡ sizes_of (before ++ commons_among all (take l.entry-index l.named))
