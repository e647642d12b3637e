-- The visitor that stops at a number which is not listed came to the end.
use Rattle.grammar_tests.proofs.ListingLemmas.{all_listed}
use Rattle.grammar_tests.proofs.walks_tests.are_listed.Goals as goal

pub returns-in-Ok : goal.returns-in-Ok
returns-in-Ok c = all_listed (λ listed. listed.keys.now) _ _ _ _ c.in-Ok.ensures
