use Rattle.st_base.proofs.NumberLemmas.{one}
use Rattle.st_base.proofs.layout.one_spelling.Goals as goal

pub returns : goal.returns
returns g c = one _
