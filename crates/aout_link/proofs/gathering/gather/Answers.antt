use Rattle.std.proofs.Common.{◌≤◌, length, ◌∙◌, ap, List, ◌++◌, arith}
use Rattle.bincl_match.specs.declared.range.RangeOf.{RangeOf}
use Rattle.aout_link.proofs.GatheringLemmas.{none_left, one_more}
use Rattle.aout_link.proofs.gathering.gather.Goals as goal

pub loop-object-preserved : goal.loop-object-preserved
loop-object-preserved c =
    one_more c.args.objects.now c.loop-object.object-index c.object-item.result c.loop-object.out c.ranges-ranges.result.now c.put_copies.new.out c.loop-object-test.true c.object-item.is
    (c.in_ok-put_copies.ensures ∙ ap (λ (xs : List RangeOf). c.loop-object.out ++ xs) c.items.ensures) c.ranges-ranges.ensures c.loop-object.invariant

pub returns : goal.returns
returns c =
    let past = c.loop-object-test.false in
    let all : length c.args.objects.now ≤ c.loop-object.object-index = omega (arith, past) in
    none_left c.args.objects.now c.loop-object.object-index c.loop-object.out all c.loop-object.invariant
