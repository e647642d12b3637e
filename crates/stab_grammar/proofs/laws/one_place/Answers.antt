use Rattle.stab_grammar.proofs.Whole.{one_place}
use Rattle.stab_grammar.proofs.laws.one_place.Goals as goal

pub returns : goal.returns
returns c = one_place
