use Rattle.query_text.proofs.ReplyLaws.{reply_one}
use Rattle.query_text.proofs.laws.one_reply.Goals as goal

pub returns : goal.returns
returns c = reply_one c.one_listing.ensures
