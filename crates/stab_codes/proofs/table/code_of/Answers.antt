-- No row has this name: each of the tests failed.
use Rattle.std.proofs.Common.{rules, tests}
use Rattle.stab_codes.specs.Table.{code_of}
use Rattle.stab_codes.proofs.table.code_of.Goals as goal

pub returns-else-eq-18 : goal.returns-else-eq-18
unfolding code_of
returns-else-eq-18 c = search (tests, rules)
