use Rattle.type_graph.proofs.WorkListLemmas.{some_listing}
use Rattle.type_graph.proofs.listings.a_listing.Goals as goal

pub returns : goal.returns
returns c = some_listing
