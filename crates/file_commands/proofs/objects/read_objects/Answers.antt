use Rattle.std.proofs.Common.{ℕ, List, subst}
use Rattle.file_commands.specs.InputObjects.{Spells, SpellsNone}
use Rattle.file_commands.proofs.EachLemmas.{each_done, each_more, first_more, taken, none_taken, counted_on}
use Rattle.file_commands.proofs.objects.read_objects.Goals as goal

pub loop-text-preserved : goal.loop-text-preserved
loop-text-preserved c =
    let left = taken c.loop-text.text-iterator c.next.new.self c.in-Some.text c.in-Some.ensures.steps in
    let spells : Spells c.in-Some.text c.in-Ok.object = subst (λ (z : List ℕ). Spells z c.in-Ok.object) c.bytes.ensures c.in-Ok.ensures.found in
    record {
      counted = counted_on c.loop-text.text-iterator c.next.new.self c.in-Some.text c.loop-text.invariant.counted c.in-Some.ensures.steps;
      all = each_more Spells c.args.texts _ _ c.loop-text.objects c.push.new.self c.in-Some.text c.in-Ok.object left c.in_ok-push-in-Ok.ensures.ok spells c.loop-text.invariant.all;
      first = first_more Spells SpellsNone c.args.texts _ _ c.loop-text.objects c.push.new.self c.in-Some.text c.in-Ok.object left c.in_ok-push-in-Ok.ensures.ok spells c.loop-text.invariant.first;
    }

pub returns : goal.returns
returns c =
    each_done Spells c.args.texts _ c.loop-text.objects (none_taken c.loop-text.text-iterator c.next.new.self c.loop-text.invariant.counted c.in-None.ensures.steps) c.loop-text.invariant.all
