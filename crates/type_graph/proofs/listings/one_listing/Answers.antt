use Rattle.type_graph.proofs.ListingLemmas.{one}
use Rattle.type_graph.proofs.listings.one_listing.Goals as goal

pub returns : goal.returns
returns c = one
