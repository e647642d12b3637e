use Rattle.c_items.proofs.TakenLemmas.{item_taken}
use Rattle.c_items.proofs.OnceLemmas.{found_acts, item_shorter, none_stands, one_acts, one_end}
use Rattle.c_items.proofs.ActLemmas.{item_acts_from}
use Rattle.c_items.proofs.laws.item_laws.Goals as goal

pub returns-clause-item_taken : goal.returns-clause-item_taken
returns-clause-item_taken c = item_taken

pub returns-clause-item_found : goal.returns-clause-item_found
returns-clause-item_found c = found_acts

pub returns-clause-none_stands : goal.returns-clause-none_stands
returns-clause-none_stands c = none_stands

pub returns-clause-one_end : goal.returns-clause-one_end
returns-clause-one_end c = one_end

pub returns-clause-one_acts : goal.returns-clause-one_acts
returns-clause-one_acts c = one_acts

pub returns-clause-walked : goal.returns-clause-walked
returns-clause-walked c = item_acts_from

pub returns-clause-shorter : goal.returns-clause-shorter
returns-clause-shorter c = item_shorter
