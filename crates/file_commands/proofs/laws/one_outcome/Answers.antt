use Rattle.file_commands.proofs.OneLaws.{outcome_once}
use Rattle.file_commands.proofs.laws.one_outcome.Goals as goal

pub returns : goal.returns
returns c = outcome_once c.one_units.ensures.one_fault c.one_units.ensures.not_both c.one_expansion.ensures.one c.one_expansion.ensures.one_fault c.one_expansion.ensures.not_both
    c.object_laws.ensures.one_object c.object_laws.ensures.one_fault c.object_laws.ensures.not_both c.one_reply.ensures
    c.one_link.ensures.one_image c.one_link.ensures.one_fault c.one_link.ensures.not_both
