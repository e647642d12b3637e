use Rattle.bincl_match.proofs.ClassLemmas.{classes_one, classes_some}
use Rattle.bincl_match.proofs.laws.one_classes.Goals as goal

-- the groups that no round of refinement splits
pub returns-clause-some : goal.returns-clause-some
returns-clause-some c = classes_some

-- a class has one first range, and kept ranges determine the instances
pub returns-clause-one : goal.returns-clause-one
returns-clause-one c = classes_one
