use Rattle.c_tokens.proofs.FrontLemmas.{name_in_front}
use Rattle.c_tokens.proofs.front.name.Goals as goal

pub returns-clause-front : goal.returns-clause-front
returns-clause-front c = name_in_front c.args.bytes.now c.named.result c.name_len-size.result c.requires c.named.ensures c.name_len-size.ensures.value
