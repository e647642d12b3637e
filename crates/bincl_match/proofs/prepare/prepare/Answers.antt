use Rattle.std.proofs.Common.{◌+◌, arith, false, inr, subst, sym, take, true}
use Rattle.bincl_match.specs.Refining.{AreMarks}
use Rattle.bincl_match.proofs.PrepareLemmas.{lost_in, marks_all, marks_in, read_as}
use Rattle.bincl_match.proofs.prepare.prepare.Goals as goal

-- a number that is lost
pub returns-in-None : goal.returns-in-None
returns-in-None c =
    let rs = c.args.ranges.now in
    let r = c.index-ranges-place.result in
    read_as rs c.args.place r true c.loop-number.marks c.requires.within c.index-ranges-place.is
    (inr (lost_in rs r.unit r.numbers c.items-number-items.result.now c.loop-number.number-index c.items-number-items.ensures c.loop-number-test.true (c.in-None.ensures rs c.requires.headers)))

-- one mark more
pub loop-number-preserved : goal.loop-number-preserved
loop-number-preserved c =
    let rs = c.args.ranges.now in
    let r = c.index-ranges-place.result in
    subst (AreMarks rs r.unit (take (c.loop-number.number-index + 1) r.numbers)) (sym c.in_ok-push-in-Some.ensures.ok)
    (marks_in rs r.unit r.numbers c.items-number-items.result.now c.loop-number.marks c.loop-number.number-index c.in-Some.mark c.items-number-items.ensures c.loop-number-test.true c.loop-number.invariant
    (c.in-Some.ensures rs c.requires.headers))

-- all marks
pub returns : goal.returns
returns c =
    let rs = c.args.ranges.now in
    let r = c.index-ranges-place.result in
    read_as rs c.args.place r false c.loop-number.marks c.requires.within c.index-ranges-place.is
    (c.if-not-range.false, marks_all rs r.unit r.numbers c.items-number-items.result.now c.loop-number.marks c.loop-number.number-index c.items-number-items.ensures (omega arith) c.loop-number.invariant)
