use Rattle.std.proofs.Common.{◌≡◌, take}
use Rattle.aout_link.specs.Answering.{listed, Tells}
use Rattle.aout_link.specs.NameTables.{entries_of, sizes_of, commons_among}
use Rattle.aout_link.proofs.commons.find_commons.Given as goal

abbrev pub invariant-loop-object : goal.invariant-loop-object
invariant-loop-object l = Tells (entries_of l.objects) (listed l.definitions.entries)
    → listed l.sizes.entries ≡ sizes_of (commons_among (entries_of l.objects) (entries_of (take l.object-index l.objects)))
