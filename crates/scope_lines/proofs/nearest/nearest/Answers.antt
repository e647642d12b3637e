use Rattle.std.proofs.Common.{◌≡◌, sym}
use Rattle.scope_lines.specs.Nearest.{value_of}
use Rattle.scope_lines.specs.Walks.{better}
use Rattle.scope_lines.proofs.NearestLemmas.{Best_more, best_within}
use Rattle.scope_lines.proofs.nearest.nearest.Goals as goal

pub loop-at-preserved : goal.loop-at-preserved
loop-at-preserved c =
    let now : c.better-found.result ≡ better c.args.address c.loop-at.found c.loop-at.at (value_of c.args.sought c.index-body-at.result) = rw (sym c.value_of.ensures) c.better-found.ensures in
    rw now (Best_more c.args.address c.args.sought c.args.body.now c.loop-at.at c.index-body-at.result c.loop-at.found c.loop-at-test.true c.index-body-at.is c.loop-at.invariant)

pub returns-in-Some-clause-within : goal.returns-in-Some-clause-within
returns-in-Some-clause-within c = best_within c.args.address (value_of c.args.sought) c.args.body.now c.loop-at.at c.loop-at.found c.in-Some.place c.in-Some.field-0-1 c.in-Some.is c.loop-at.invariant
