use Rattle.std.proofs.Common.{◌∙◌, ap, max, ℕ}
use Rattle.std.specs.Prelude.{bytes_eq}
use Rattle.indexmap.specs.IndexMap.{insert_entry}
use Rattle.aout_link.specs.Answering.{listed}
use Rattle.aout_link.proofs.NameLemmas.{insert-listed}
use Rattle.aout_link.proofs.commons.note_common.Goals as goal

pub returns : goal.returns
returns c =
    ap listed c.in_ok-insert.ensures.entries ∙ insert-listed c.args.sizes.now.entries c.args.name c.max.result
    ∙ ap (λ (v : ℕ). insert_entry bytes_eq (listed c.args.sizes.now.entries) c.args.name.now v) (c.max.ensures ∙ ap (λ (v : ℕ). max v c.args.size) c.find_size-old.ensures)
