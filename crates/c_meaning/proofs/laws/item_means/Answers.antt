use Rattle.c_meaning.proofs.WalkLemmas.{item_acted, one_meaning}
use Rattle.c_meaning.proofs.laws.item_means.Goals as goal

pub returns-clause-one_meaning : goal.returns-clause-one_meaning
returns-clause-one_meaning c = one_meaning

pub returns-clause-walked : goal.returns-clause-walked
returns-clause-walked c = item_acted
