use Rattle.file_commands.specs.InputObjects.{IsSource, HasNoUnits}
use Rattle.file_commands.proofs.EachLemmas.{each_done, each_more, first_more, taken, none_taken, counted_on}
use Rattle.file_commands.proofs.objects.check_counted.Goals as goal

pub loop-object-preserved : goal.loop-object-preserved
loop-object-preserved g c =
    let left = taken c.loop-object.object-iterator c.next.new.self c.in-Some.object c.in-Some.ensures.steps in
    let is : IsSource c.in-Some.object c.in-Ok.source = record { given = c.in-Ok.ensures.object; parts = c.in-Ok.ensures.parts; named = c.in-Ok.ensures.named; units = c.in-Ok.ensures.units } in
    record {
      counted = counted_on c.loop-object.object-iterator c.next.new.self c.in-Some.object c.loop-object.invariant.counted c.in-Some.ensures.steps;
      all = each_more IsSource c.args.objects _ _ c.loop-object.sources c.push.new.self c.in-Some.object c.in-Ok.source left c.in_ok-push-in-Ok.ensures.ok is c.loop-object.invariant.all;
      first = first_more IsSource HasNoUnits c.args.objects _ _ c.loop-object.sources c.push.new.self c.in-Some.object c.in-Ok.source left c.in_ok-push-in-Ok.ensures.ok is c.loop-object.invariant.first;
    }

pub returns : goal.returns
returns g c =
    each_done IsSource c.args.objects _ c.loop-object.sources (none_taken c.loop-object.object-iterator c.next.new.self c.loop-object.invariant.counted c.in-None.ensures.steps) c.loop-object.invariant.all
