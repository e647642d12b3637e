use Rattle.std.proofs.Common.{ap, ◌∙◌}
use Rattle.asm_objects.specs.Meaning as spec
use Rattle.asm_objects.proofs.CheckLemmas.{faults_step, fits_step}
use Rattle.asm_objects.proofs.PlaceLemmas.{drop_item, room_step}
use Rattle.asm_objects.proofs.check.first_fault.Goals as goal

pub loop-statement-preserved : goal.loop-statement-preserved
loop-statement-preserved c =
    let items = drop_item c.args.statements.now c.loop-statement.statement-index c.statement-item.result c.loop-statement-test.true c.statement-item.is in
    record {
      first = faults_step c.args.table.now c.loop-statement.places c.after-places.result _ _ c.statement-item.result c.loop-statement.first c.earlier-first.result _ items c.loop-statement.invariant.first
          (c.earlier-first.ensures ∙ ap (spec.earlier c.loop-statement.first) (c.at_line.ensures ∙ ap (spec.at_line c.statement-item.result.line) c.fault_of-number.ensures)) c.after-places.ensures.value;
      room = room_step c.loop-statement.places c.after-places.result _ _ c.statement-item.result items c.loop-statement.invariant.room c.after-places.ensures.room;
      fits = (fits_step _ _ c.statement-item.result items c.loop-statement.invariant.fits).1;
    }
