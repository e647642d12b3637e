use Rattle.stab_units.proofs.FewLemmas.{few}
use Rattle.stab_units.proofs.laws.few_units.Goals as goal

pub returns : goal.returns
returns c = few
