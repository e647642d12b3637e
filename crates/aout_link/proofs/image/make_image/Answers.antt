use Rattle.std.specs.Prelude.{Ok, Err}
use Rattle.aout_link.proofs.MakingLemmas.{image_answered}
use Rattle.aout_link.proofs.image.make_image.Goals as goal

pub returns-in-Ok-clause-made : goal.returns-in-Ok-clause-made
returns-in-Ok-clause-made c =
    image_answered c.args.merged.image c.new.result c.new-2.result (Ok c.in-Ok.object) c.requires c.new.ensures c.new-2.ensures c.in-Ok.ensures.made

pub returns-clause-made : goal.returns-clause-made
returns-clause-made c =
    image_answered c.args.merged.image c.new.result c.new-2.result (Err c.in-Err.why) c.requires c.new.ensures c.new-2.ensures c.in-Err.ensures.made
