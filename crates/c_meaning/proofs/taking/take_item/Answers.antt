use Rattle.c_meaning.proofs.TakeLemmas.{taken_by, refused_by}
use Rattle.c_meaning.proofs.taking.take_item.Goals as goal

-- the walk begins in front of the item, and its acts give what the item means
pub returns-in-Ok : goal.returns-in-Ok
returns-in-Ok c it rest is = taken_by it c.args.draft c.new-carrier.result c.walk-walked.new.actor c.into_draft-draft.result c.new-carrier.ensures (c.in-Ok.ensures.of_item it rest is) c.into_draft-draft.ensures

pub returns-in-Err : goal.returns-in-Err
returns-in-Err c it rest is = refused_by (Unit {0}) it c.args.draft c.new-carrier.result c.walk-walked.new.actor c.in-Err.refused c.new-carrier.ensures (c.in-Err.ensures.of_item it rest is)
