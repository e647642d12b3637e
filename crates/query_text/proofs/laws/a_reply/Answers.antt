use Rattle.query_text.proofs.ReplyLaws.{reply_some}
use Rattle.query_text.proofs.laws.a_reply.Goals as goal

pub returns : goal.returns
returns c = reply_some c.a_listing.ensures
