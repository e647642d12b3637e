use Rattle.bincl_match.proofs.OwnLemmas.{walk_start}
use Rattle.bincl_match.proofs.owning.Owners.new.Goals as goal

-- no entry was walked over yet
pub returns-clause-start : goal.returns-clause-start
returns-clause-start c = λ p left. walk_start c.args.files c.new.result c.in_ok-all_true.field-0 p left c.new.ensures.start c.in_ok-all_true.ensures
