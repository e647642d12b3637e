use Rattle.std.proofs.Common.{◌+◌, drop}
use Rattle.bincl_match.proofs.ListLemmas.{drop_item, drop_past}
use Rattle.bincl_match.proofs.ReadLemmas.{ranges_all, ranges_more}
use Rattle.bincl_match.proofs.reading.read_spans.Goals as goal

-- one unit more is read
pub loop-number-preserved : goal.loop-number-preserved
loop-number-preserved g c =
    ranges_more c.args.entries.now c.args.spans.now (drop c.loop-number.number c.args.spans.now) (drop (c.loop-number.number + 1) c.args.spans.now) c.loop-number.number c.args.steps.now
    c.loop-number.ranges c.put_span.new.out c.loop-number.steps c.put_span.new.steps c.index-spans-number.result
    (drop_item c.args.spans.now c.loop-number.number c.index-spans-number.result c.loop-number-test.true c.index-spans-number.is) c.in-Ok.ensures.found c.in-Ok.ensures.ticks c.loop-number.invariant

-- all are
pub returns-clause-found : goal.returns-clause-found
returns-clause-found g c =
    (ranges_all c.args.entries.now c.args.spans.now (drop c.loop-number.number c.args.spans.now) c.loop-number.number c.args.steps.now c.loop-number.ranges c.loop-number.steps
    (drop_past c.args.spans.now c.loop-number.number c.loop-number-test.false) c.loop-number.invariant).0
