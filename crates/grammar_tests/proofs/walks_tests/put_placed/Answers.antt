-- The three keys are distinct.
use Rattle.grammar_tests.proofs.ListingLemmas.{distinct_keys}
use Rattle.grammar_tests.proofs.walks_tests.put_placed.Goals as goal

pub print_placed-requires-clause-distinct : goal.print_placed-requires-clause-distinct
print_placed-requires-clause-distinct c = distinct_keys _ c.in_ok-keys.ensures
