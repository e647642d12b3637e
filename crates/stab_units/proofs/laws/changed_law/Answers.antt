use Rattle.stab_units.proofs.ChangeSpans.{changed_no_fault, changed_spans, no_more}
use Rattle.stab_units.proofs.laws.changed_law.Goals as goal

pub returns-clause-outline : goal.returns-clause-outline
returns-clause-outline c = changed_no_fault

pub returns-clause-spans : goal.returns-clause-spans
returns-clause-spans c = changed_spans

pub returns-clause-no_more : goal.returns-clause-no_more
returns-clause-no_more c = no_more
