use Rattle.asm_objects.proofs.LeftLemmas.{left_stands, left_step}
use Rattle.asm_objects.proofs.PlaceLemmas.{each_step, room_step, taken}
use Rattle.asm_objects.proofs.making.emit.Goals as goal

pub loop-statement-preserved : goal.loop-statement-preserved
loop-statement-preserved c =
    let items = taken c.loop-statement.statement-iterator c.next.new.self c.in-Some.statement c.in-Some.ensures.steps in
    let p = c.loop-statement.places in
    let q = c.after-next.result in
    let s = c.in-Some.statement in
    let was = c.loop-statement.invariant in
    let moves = c.after-next.ensures.value in
    record {
      text = each_step _ p q _ _ s c.loop-statement.text c.put_in_part.new.text _ items was.text c.in_ok-put_in_part.ensures.text moves;
      datum = each_step _ p q _ _ s c.loop-statement.datum c.put_in_part.new.datum _ items was.datum c.in_ok-put_in_part.ensures.datum moves;
      text_relocs = each_step _ p q _ _ s c.loop-statement.text_relocs c.put_relocs_in_part.new.text _ items was.text_relocs c.in_ok-put_relocs_in_part.ensures.text moves;
      data_relocs = each_step _ p q _ _ s c.loop-statement.data_relocs c.put_relocs_in_part.new.datum _ items was.data_relocs c.in_ok-put_relocs_in_part.ensures.datum moves;
      named = each_step _ p q _ _ s c.loop-statement.named c.put_entries.new.out _ items was.named c.in_ok-put_entries.ensures moves;
      room = room_step p q _ _ s items was.room c.after-next.ensures.room;
      left = left_step c.args.table.now p q _ _ s items was.left moves;
    }

pub put_relocs_in_part-requires-clause-stands : goal.put_relocs_in_part-requires-clause-stands
put_relocs_in_part-requires-clause-stands c =
    left_stands c.args.table.now c.loop-statement.places _ _ c.in-Some.statement
    (taken c.loop-statement.statement-iterator c.next.new.self c.in-Some.statement c.in-Some.ensures.steps) c.loop-statement.invariant.left

pub put_entries-requires-clause-stands : goal.put_entries-requires-clause-stands
put_entries-requires-clause-stands c =
    left_stands c.args.table.now c.loop-statement.places _ _ c.in-Some.statement
    (taken c.loop-statement.statement-iterator c.next.new.self c.in-Some.statement c.in-Some.ensures.steps) c.loop-statement.invariant.left
