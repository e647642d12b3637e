use Rattle.bincl_match.proofs.MergingLemmas.{alone_merging, classes_merging}
use Rattle.bincl_match.proofs.laws.merging_laws.Goals as goal

-- no law of ranges is needed
pub returns-clause-classes : goal.returns-clause-classes
returns-clause-classes c = λ ranges grouping law are. classes_merging ranges grouping are

pub returns-clause-alone : goal.returns-clause-alone
returns-clause-alone c = λ ranges grouping law are. alone_merging ranges grouping are
