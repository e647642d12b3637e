use Rattle.std.proofs.Common.{List, subst}
use Rattle.nlist_codec.specs.declared.named.Named.{Named}
use Rattle.unit_outlines.proofs.SpanLemmas.{outlined_within}
use Rattle.stab_units.specs.Units.{UnitFault}
use Rattle.stab_units.proofs.StopLemmas.{unit_fault}
use Rattle.stab_units.proofs.reading.read_unit.Goals as goal

-- the span begins at an entry
pub unit_at-requires-clause-within : goal.unit_at-requires-clause-within
unit_at-requires-clause-within g c = rw c.items.ensures (outlined_within c.args.entries.now c.args.outline.now c.requires.outlined)

-- the fault of the string that is told with its steps
pub returns-clause-refused : goal.returns-clause-refused
returns-clause-refused g c = λ f is. subst (λ (z : List Named). UnitFault z c.args.outline.now f) c.items.ensures
    (unit_fault c.items.result.now c.args.outline.now f c.args.steps.now c.unit_at.new.steps (c.unit_at.ensures.stopped f is))
