use Rattle.aout_link.proofs.OneLinkLemmas.{count_one, fault_one, image_one, image_or_fault, image_some}
use Rattle.aout_link.proofs.WorldLemmas.{world_kept}
use Rattle.aout_link.proofs.laws.one_link.Goals as goal

-- ranges come from units, and a grouping from ranges
pub returns-clause-some : goal.returns-clause-some
returns-clause-some c =
    image_some c.one_ranges.ensures.some c.one_units.ensures.not_both c.one_ranges.ensures.lawful c.one_alone.ensures.some c.one_classes.ensures.some
    c.joined_law.ensures.joined c.joined_law.ensures.none c.joined_law.ensures.alike
    (world_kept c.one_ranges.ensures.lawful c.merging_laws.ensures.alone c.merging_laws.ensures.classes c.merged_world.ensures.world)

-- ranges determine the image, and entries the ranges
pub returns-clause-one_image : goal.returns-clause-one_image
returns-clause-one_image c = image_one c.one_ranges.ensures.one c.one_alone.ensures.one c.one_classes.ensures.one

pub returns-clause-one_count : goal.returns-clause-one_count
returns-clause-one_count c = count_one

pub returns-clause-one_fault : goal.returns-clause-one_fault
returns-clause-one_fault c = fault_one c.one_ranges.ensures.one c.one_alone.ensures.one c.one_classes.ensures.one

pub returns-clause-not_both : goal.returns-clause-not_both
returns-clause-not_both c = image_or_fault c.one_ranges.ensures.one c.one_alone.ensures.one c.one_classes.ensures.one
