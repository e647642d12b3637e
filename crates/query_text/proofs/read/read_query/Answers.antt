use Rattle.std.proofs.Common.{drop}
use Rattle.query_text.proofs.SpellLemmas.{read-spell}
use Rattle.query_text.proofs.ReadLemmas.{spelled-read}
use Rattle.query_text.proofs.read.read_query.Goals as goal

-- what is read is what the words ask, and so they spell it
pub returns-clause-spelled : goal.returns-clause-spelled
returns-clause-spelled c = read-spell c.args.from (drop c.args.from c.args.words.now) c.read_from.result c.read_from.ensures

-- what they spell they ask, and so it is read
pub returns-clause-read : goal.returns-clause-read
returns-clause-read c = spelled-read c.args.from (drop c.args.from c.args.words.now) c.read_from.result c.read_from.ensures
