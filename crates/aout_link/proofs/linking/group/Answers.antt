use Rattle.aout_link.proofs.WorldLemmas.{world_kept}
use Rattle.aout_link.proofs.linking.group.Goals as goal

-- the grouping of the mode is a merging
pub returns-in-Ok-clause-world : goal.returns-in-Ok-clause-world
returns-in-Ok-clause-world c =
    world_kept c.one_ranges.ensures.lawful c.merging_laws.ensures.alone c.merging_laws.ensures.classes c.merged_world.ensures.world c.args.mode c.args.end c.args.entries.now c.in_ok-ranges.ranges
    c.in-Ok.grouping c.in_ok-ranges.ensures.ranges c.in-Ok.ensures.grouped
