use Rattle.std.proofs.Common.{◌^◌}
use Rattle.bincl_match.proofs.FoundLemmas.{found_few, found_known}
use Rattle.bincl_match.proofs.LawLemmas.{lawful, ranges_are, told_few}
use Rattle.bincl_match.proofs.reading.ranges.Goals as goal

-- no more ranges than entries
pub told-requires : goal.told-requires
told-requires g c =
    found_few c.args.text_end (2 ^ 32) c.args.entries.now c.in-Ok.found (found_known c.args.text_end c.args.entries.now c.in-Ok.found c.in-Ok.ensures.found) c.requires

-- what was found, and told
pub returns-in-Ok-told-clause-found : goal.returns-in-Ok-told-clause-found
returns-in-Ok-told-clause-found g c = ranges_are c.args.text_end c.args.entries.now c.in-Ok.found c.in-Ok-told.ranges c.in-Ok.ensures.found c.in-Ok-told.ensures

-- the ranges of entries are lawful
pub returns-in-Ok-told-clause-lawful : goal.returns-in-Ok-told-clause-lawful
returns-in-Ok-told-clause-lawful g c = lawful c.args.text_end c.args.entries.now c.in-Ok-told.ranges (returns-in-Ok-told-clause-found g c)

-- and no more than entries
pub returns-in-Ok-told-clause-few : goal.returns-in-Ok-told-clause-few
returns-in-Ok-told-clause-few g c =
    told_few (2 ^ 32) c.in-Ok.found c.in-Ok-told.ranges
    (found_few c.args.text_end (2 ^ 32) c.args.entries.now c.in-Ok.found (found_known c.args.text_end c.args.entries.now c.in-Ok.found c.in-Ok.ensures.found) c.requires)
    c.in-Ok-told.ensures
