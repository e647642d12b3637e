use Rattle.std.proofs.Common.{◌≡◌, ◌+◌, Err, ap, drop}
use Rattle.st_base.specs.declared.fault.Refused.{Refused}
use Rattle.stab_units.proofs.ListLemmas.{drop_item}
use Rattle.stab_units.proofs.StopLemmas.{spans_fault}
use Rattle.stab_units.proofs.UnitLemmas.{units_fault, units_more}
use Rattle.stab_units.proofs.reading.read_spans.Goals as goal

-- the next unit has the fault
pub returns-in-Err-clause-stopped : goal.returns-in-Err-clause-stopped
returns-in-Err-clause-stopped g c = λ f is.
    let same : c.in-Err.refusal ≡ Refused.At f = cc in
    units_fault c.args.entries.now c.args.spans.now _ _ c.args.steps.now c.loop-span.units c.loop-span.steps c.push_unit.new.steps c.span-item.result f
    (drop_item c.args.spans.now c.loop-span.span-index c.span-item.result c.loop-span-test.true c.span-item.is) (c.in-Err.ensures.stopped f (ap Err same)) c.loop-span.invariant

-- and it is the first
pub returns-in-Err-clause-refused : goal.returns-in-Err-clause-refused
returns-in-Err-clause-refused g c = λ f is. spans_fault c.args.entries.now c.args.spans.now f c.args.steps.now c.push_unit.new.steps (returns-in-Err-clause-stopped g c f is)

-- one unit more is read
pub loop-span-preserved : goal.loop-span-preserved
loop-span-preserved g c =
    let read = c.in-Ok.ensures.found in
    units_more c.args.entries.now c.args.spans.now _ (drop (c.loop-span.span-index + 1) c.args.spans.now) c.args.steps.now c.loop-span.units c.push_unit.new.units c.loop-span.steps c.push_unit.new.steps
    c.span-item.result read.0 (drop_item c.args.spans.now c.loop-span.span-index c.span-item.result c.loop-span-test.true c.span-item.is) read.1 read.2 c.in-Ok.ensures.ticks c.loop-span.invariant
