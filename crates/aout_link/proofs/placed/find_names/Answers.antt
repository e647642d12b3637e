use Rattle.aout_link.specs.Answering.{listed}
use Rattle.aout_link.proofs.PlacedLemmas.{as_many, sizes_new}
use Rattle.aout_link.proofs.placed.find_names.Goals as goal

pub find_definitions-requires : goal.find_definitions-requires
find_definitions-requires c = as_many c.args.moves.now c.args.base c.args.objects.now c.requires.moves

pub place_commons-requires-clause-new : goal.place_commons-requires-clause-new
place_commons-requires-clause-new c =
    sizes_new c.args.objects.now (listed c.in-Ok.table.entries) (listed c.in_ok-sizes.sizes.entries) c.in-Ok.ensures.2 (c.in_ok-sizes.ensures c.in-Ok.ensures.2)
