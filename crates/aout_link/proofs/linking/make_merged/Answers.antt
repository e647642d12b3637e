use Rattle.aout_link.proofs.MergedLemmas.{can_be_merged, refused_merged}
use Rattle.aout_link.proofs.linking.make_merged.Goals as goal

pub make_image-requires : goal.make_image-requires
make_image-requires c = can_be_merged c.args.grouping.now c.args.placed c.in-Ok.merged.image c.in-Ok.ensures c.requires.can

pub returns-in-Err : goal.returns-in-Err
returns-in-Err c = refused_merged c.args.grouping.now c.args.placed c.in-Ok.merged.image _ c.in-Err.why c.in-Ok.ensures c.in-Err.ensures.made
