use Rattle.std.proofs.Common.{◌+◌, sym, ap, ◌∙◌, length}
use Rattle.unit_outlines.specs.declared.outline_types.HeaderMark.{HeaderMark}
use Rattle.unit_index.specs.Filling.{file_with, files_with}
use Rattle.unit_index.proofs.FillLemmas.{back_length, set_length, fill_step}
use Rattle.unit_index.proofs.filling.filled_files.Goals as goal

-- one header more
pub loop-at-preserved : goal.loop-at-preserved
loop-at-preserved c =
    let i = c.loop-at.invariant in (
      back_length c.loop-at.files c.replace-file.new.self c.replace-blank.new.self (c.loop-at.at + 1) c.blank_file.result c.filled_file.result c.replace-file.ensures.new c.replace-blank.ensures.new
          (length c.args.headers.now + 1) i.0,
      set_length c.loop-at.lists c.replace-taken.new.self c.loop-at.at (length c.args.headers.now) c.new.result c.replace-taken.ensures.new i.1,
      fill_step (files_with c.args.headers.now c.args.files c.args.lists) c.loop-at.files c.replace-file.new.self c.replace-blank.new.self c.args.headers.now c.loop-at.lists c.replace-taken.new.self c.loop-at.at
          c.replace-file.result c.filled_file.result c.blank_file.result c.replace-taken.result c.new.result c.index-headers-at.result
          c.loop-at-test.true c.replace-file.ensures.old c.replace-taken.ensures.old c.index-headers-at.is c.replace-file.ensures.new c.replace-blank.ensures.new c.replace-taken.ensures.new
          (c.filled_file.ensures ∙ ap (λ (z : HeaderMark). file_with z.excluded c.replace-taken.result c.replace-file.result) (sym c.index-headers-at.is)) i.2,
    )
