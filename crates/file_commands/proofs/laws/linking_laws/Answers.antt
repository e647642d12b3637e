use Rattle.file_commands.proofs.ImageQueries.{linked_list, asked_list, stored_image, told_image}
use Rattle.file_commands.proofs.laws.linking_laws.Goals as goal

pub returns-clause-accepted : goal.returns-clause-accepted
returns-clause-accepted c = linked_list c.accepted_laws.ensures.accepted_exactly c.one_link.ensures.some

pub returns-clause-stored : goal.returns-clause-stored
returns-clause-stored c =
    stored_image c.one_expansion.ensures.one c.one_expansion.ensures.not_both c.object_laws.ensures.one_object c.object_laws.ensures.not_both

pub returns-clause-answered : goal.returns-clause-answered
returns-clause-answered c = asked_list c.accepted_laws.ensures.accepted_exactly c.one_link.ensures.some c.a_reply.ensures

pub returns-clause-told : goal.returns-clause-told
returns-clause-told c = told_image c.one_expansion.ensures.one
