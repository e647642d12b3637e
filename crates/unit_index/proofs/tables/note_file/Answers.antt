use Rattle.std.proofs.Common.{ap, ◌∙◌}
use Rattle.unit_index.specs.Filling.{look_file, more_files}
use Rattle.unit_index.proofs.FileLemmas.{file_more}
use Rattle.unit_index.proofs.tables.note_file.Goals as goal

pub returns : goal.returns
returns c = λ owners finds unit file.
    file_more owners c.args.owner.now unit file (look_file c.args.files.now unit file) (look_file c.args.files.now c.args.owner.now.owner_unit c.args.owner.now.owner_file)
    (look_file c.insert.new.self unit file) c.next_file-next.result (c.next_file-next.ensures ∙ ap (λ z. more_files z c.args.owner.now.file) c.get.ensures.value)
    (c.in_ok-insert.ensures.updates.0 (unit, file)) (finds unit file) (finds c.args.owner.now.owner_unit c.args.owner.now.owner_file)
