use Rattle.std.proofs.Common.{◌≡◌, ◌∙◌, ap, Some, None}
use Rattle.unit_outlines.specs.Outlines.{units_of}
use Rattle.unit_outlines.proofs.Together.{same_fault}
use Rattle.unit_outlines.proofs.outlines.outline.Goals as goal

-- the fault that was found
pub returns-in-Some-clause-refused : goal.returns-in-Some-clause-refused
returns-in-Some-clause-refused c = λ f is.
    let told : c.outline_fault.result ≡ Some c.in-Some.fault = cc in
    let same : c.in-Some.fault ≡ f = cc in
    same_fault c.args.marks c.args.entries.now c.items.result.now c.outline_fault.result (Some f) c.items.ensures (told ∙ ap Some same) c.outline_fault.ensures

-- no fault was found
pub returns-in-Ok-clause-found : goal.returns-in-Ok-clause-found
returns-in-Ok-clause-found c =
    let told : c.outline_fault.result ≡ None = cc in (
      same_fault c.args.marks c.args.entries.now c.items.result.now c.outline_fault.result None c.items.ensures told c.outline_fault.ensures,
      c.in-Ok.ensures ∙ ap (units_of c.args.text_end) c.items-in-None.ensures,
    )
