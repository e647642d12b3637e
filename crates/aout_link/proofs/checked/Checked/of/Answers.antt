use Rattle.std.proofs.Common.{◌≡◌, ap}
use Rattle.std.specs.Prelude.{Err}
use Rattle.st_base.specs.declared.fault.Refused.TheVariants as refused
use Rattle.stab_units.specs.ObjectUnits.{UnitsFault, UnitsFaultAfter}
use Rattle.aout_link.proofs.SourceLemmas.{told_of}
use Rattle.aout_link.proofs.checked.Checked.of.Goals as goal

-- the fault of the entries
pub returns-in-Err-clause-refused : goal.returns-in-Err-clause-refused
returns-in-Err-clause-refused g c = λ f is.
    let same : c.in-Err.why ≡ refused.At f = cc in
    told_of (λ n ns. UnitsFault n ns f) c.args.object c.in-Ok.named c.text_end.result c.in-Ok.ensures.value c.text_end.ensures (c.in-Err.ensures.refused f (ap Err same))

-- and the steps up to it
pub returns-in-Err-clause-stopped : goal.returns-in-Err-clause-stopped
returns-in-Err-clause-stopped g c = λ f is.
    let same : c.in-Err.why ≡ refused.At f = cc in
    told_of (λ n ns. UnitsFaultAfter n ns f c.args.steps.now c.find_ranges.new.steps) c.args.object c.in-Ok.named c.text_end.result
    c.in-Ok.ensures.value c.text_end.ensures (c.in-Err.ensures.stopped f (ap Err same))
