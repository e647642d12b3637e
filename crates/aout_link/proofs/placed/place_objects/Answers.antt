use Rattle.std.specs.Prelude.{Ok}
use Rattle.aout_link.proofs.MakingLemmas.{makeable}
use Rattle.aout_link.proofs.placed.place_objects.Goals as goal

pub returns-in-Ok-clause-lawful : goal.returns-in-Ok-clause-lawful
returns-in-Ok-clause-lawful c = makeable c.args.base c.args.sources.now (Ok c.in-Ok.placed) c.are_lawful.ensures c.in-Ok.ensures
