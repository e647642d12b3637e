use Rattle.std.proofs.Common.{◌∙◌, ap, sym}
use Rattle.std.specs.Prelude.{bytes_eq}
use Rattle.indexmap.proofs.CallerLemmas.{insert_entry-new}
use Rattle.aout_link.specs.Answering.{listed}
use Rattle.aout_link.proofs.NameLemmas.{new_name, listed_push}
use Rattle.aout_link.proofs.definitions.define.Goals as goal

pub returns-in-Ok-None-clause-fresh : goal.returns-in-Ok-None-clause-fresh
returns-in-Ok-None-clause-fresh c =
    let old = rw c.in-Ok-None.field-0-is at c.in-Ok-None.ensures.old in
    new_name c.args.name.now c.args.table.now.entries _ old

pub returns-in-Ok-None-clause-noted : goal.returns-in-Ok-None-clause-noted
returns-in-Ok-None-clause-noted c = λ fresh.
    let old = rw c.in-Ok-None.field-0-is at c.in-Ok-None.ensures.old in
    ap listed (c.in-Ok-None.ensures.entries ∙ insert_entry-new (λ x y. bytes_eq x.now y.now) c.args.table.now c.args.name c.args.known (sym old))
    ∙ listed_push c.args.table.now.entries c.args.name c.args.known

pub returns-in-Ok-Some-clause-fresh : goal.returns-in-Ok-Some-clause-fresh
returns-in-Ok-Some-clause-fresh c =
    let old = rw c.in-Ok-Some.field-0-is at c.in-Ok-Some.ensures.old in
    new_name c.args.name.now c.args.table.now.entries _ old
