use Rattle.std.proofs.Common.{take, sym, subst}
use Rattle.std.proofs.lemmas.List.{take_more}
use Rattle.unit_index.specs.Filling.{Finds}
use Rattle.unit_index.proofs.tables.files_of.Goals as goal

pub loop-owner-preserved : goal.loop-owner-preserved
loop-owner-preserved c =
    subst (λ z. Finds c.note_file.new.files z) (sym (take_more c.args.owners.now c.loop-owner.owner-index _ c.loop-owner-test.true))
    (c.in_ok-note_file.ensures (take c.loop-owner.owner-index c.args.owners.now) c.loop-owner.invariant)
