use Rattle.bincl_match.proofs.ClassLemmas.{class_refl, class_sym, class_trans, matching_union, one_of_a_unit}
use Rattle.bincl_match.proofs.laws.matching_laws.Goals as goal

pub returns-clause-union : goal.returns-clause-union
returns-clause-union c = matching_union

pub returns-clause-reflexive : goal.returns-clause-reflexive
returns-clause-reflexive c = class_refl

pub returns-clause-symmetric : goal.returns-clause-symmetric
returns-clause-symmetric c = class_sym

-- ranges of one class are those that no round of refinement splits
pub returns-clause-transitive : goal.returns-clause-transitive
returns-clause-transitive c = class_trans

pub returns-clause-one_of_a_unit : goal.returns-clause-one_of_a_unit
returns-clause-one_of_a_unit c = one_of_a_unit
