use Rattle.std.proofs.Common.{◌≡◌, ◌∙◌, sym, ap, List, ℕ, false, is_some, Option}
use Rattle.std.specs.List.{list_any}
use Rattle.aout_link.specs.declared.definitions.Known.{Known}
use Rattle.aout_link.specs.Answering.{listed}
use Rattle.aout_link.specs.NameTables.{defines, known_by}
use Rattle.aout_link.proofs.CommonLemmas.{common_note}
use Rattle.aout_link.proofs.commons.note_commons.Goals as goal

pub loop-entry-preserved : goal.loop-entry-preserved
loop-entry-preserved c = λ all before tells start.
    let table = listed c.args.definitions.now.entries in
    let free : list_any (defines c.entry-item.result.name) all ≡ false =
    sym (tells c.entry-item.result.name) ∙ ap (λ (q : List ℕ). is_some (known_by q table)) (sym c.bytes.ensures)
    ∙ ap (λ (o : Option Known). is_some o) (sym c.find.ensures) ∙ (sym c.is_some.ensures ∙ c.if-is_some.false) in
    common_note all before c.args.named.now c.loop-entry.entry-index c.entry-item.result (listed c.loop-entry.sizes.entries) (listed c.note_common.new.sizes.entries) c.bytes-in-loop-entry.result.now
    c.loop-entry-test.true c.entry-item.is c.bytes-in-loop-entry.ensures (sym c.is_common.ensures ∙ c.if-not-is_common.false) free
    (c.loop-entry.invariant all before tells start) c.in_ok-note_common.ensures
