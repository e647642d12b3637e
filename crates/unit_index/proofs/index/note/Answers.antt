use Rattle.std.proofs.Common.{refl, ap, ◌∙◌}
use Rattle.unit_index.specs.Owners.{row_at}
use Rattle.unit_index.specs.LookingUp.{look, more_of}
use Rattle.unit_index.proofs.SeenLemmas.{seen_more}
use Rattle.unit_index.proofs.index.note.Goals as goal

pub returns : goal.returns
returns c = λ rows sees q v.
    seen_more rows (row_at c.args.unit c.args.file c.args.header.now) c.bytes-name.result.now q c.args.header.now.value v
    (look c.args.seen.now q v) (look c.args.seen.now c.bytes-name.result.now c.args.header.now.value) (look c.insert.new.self q v) c.noted-next.result
    c.if-header.false c.bytes-name.ensures refl (c.noted-next.ensures ∙ ap (λ z. more_of z c.args.unit c.args.file) c.get.ensures.value)
    (c.in_ok-insert.ensures.updates.0 (record { ref_ptr = (0, 0); now = q }, v)) (sees q v) (sees c.bytes-name.result.now c.args.header.now.value)
