use Rattle.std.proofs.Common.{◌∙◌}
use Rattle.type_graph.proofs.OrderLemmas.{own_and_all, first-in_order}
use Rattle.type_graph.proofs.SearchLemmas.{noted-first}
use Rattle.type_graph.proofs.definitions.definition.Goals as goal

-- what is known of the own definitions and of all is the first in the order of the search
pub returns : goal.returns
returns c = c.search_unit.ensures.known ∙ noted-first c.args.key (own_and_all c.args.unit.now c.args.key) ∙ first-in_order c.args.unit.now c.args.key
