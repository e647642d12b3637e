use Rattle.asm_objects.specs.Layout as spec
use Rattle.std.specs.Str.{bytes_eq}
use Rattle.st_base.specs.FirstUses.{used}
use Rattle.asm_objects.specs.DefinedNames.{same_name}
use Rattle.asm_objects.proofs.PlaceLemmas.{drop_item, fold_step, room_step}
use Rattle.asm_objects.proofs.table.lay_out.Goals as goal

pub loop-statement-preserved : goal.loop-statement-preserved
loop-statement-preserved c =
    let items = drop_item c.args.statements.now c.loop-statement.statement-index c.statement-item.result c.loop-statement-test.true c.statement-item.is in
    let p = c.loop-statement.places in
    let q = c.after-places.result in
    let s = c.statement-item.result in
    let was = c.loop-statement.invariant in
    let moves = c.after-places.ensures.value in
    record {
      names = fold_step (used same_name) spec.defined p q _ _ s c.loop-statement.names c.define.new.names _ items was.names c.in_ok-define.ensures.value moves;
      globals = fold_step (used bytes_eq) (λ p. spec.global) p q _ _ s c.loop-statement.globals c.note_global.new.globals _ items was.globals c.in_ok-note_global.ensures moves;
      end = rw moves (rw items at was.end);
      entry = fold_step spec.last (λ p. spec.entry_word) p q _ _ s c.loop-statement.entry c.entry_after-entry.result _ items was.entry c.entry_after-entry.ensures moves;
      machine = fold_step spec.last (λ p. spec.machine_word) p q _ _ s c.loop-statement.machine c.machine_after-machine.result _ items was.machine c.machine_after-machine.ensures moves;
      bsize = fold_step spec.last (λ p. spec.bss_size) p q _ _ s c.loop-statement.bsize c.bsize_after-bsize.result _ items was.bsize c.bsize_after-bsize.ensures moves;
      room = room_step p q _ _ s items was.room c.after-places.ensures.room;
      fits = c.in_ok-define.ensures.fits was.fits;
    }
