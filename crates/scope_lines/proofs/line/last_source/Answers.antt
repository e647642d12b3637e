use Rattle.scope_lines.specs.Lines.{is_source}
use Rattle.scope_lines.proofs.PlaceLemmas.{last_place_more}
use Rattle.scope_lines.proofs.line.last_source.Goals as goal

pub loop-at-preserved : goal.loop-at-preserved
loop-at-preserved c = last_place_more is_source c.args.body.now c.loop-at.at c.index-body-at.result c.loop-at.found c.next_source-found.result
    c.loop-at-test.true c.index-body-at.is c.next_source-found.ensures c.loop-at.invariant
