use Rattle.std.proofs.Common.{◌≡◌, ◌+◌, [], Err, ap}
use Rattle.st_base.specs.declared.fault.Refused.{Refused}
use Rattle.stab_units.specs.Units.{names_of, stabs_from}
use Rattle.stab_units.proofs.ReadingLemmas.{read_all, counted_all}
use Rattle.stab_units.proofs.reading.unit_behind.Goals as goal

-- what was read makes the unit
pub returns-in-Ok-made_unit-clause-found : goal.returns-in-Ok-made_unit-clause-found
returns-in-Ok-made_unit-clause-found g c =
    let all = stabs_from [] (c.args.span.now.first + 1) c.args.rest.now in
    let start = c.new-reader.ensures.start (names_of c.args.span.now) c.args.steps.now (c.args.span.now.first + 1) c.args.rest.now c.in-Ok.ensures in
    read_all all c.args.span.now c.args.steps.now _ _ (c.in-Ok-read_inside.ensures.found all (names_of c.args.span.now) c.args.steps.now start) c.in-Ok-made_unit.unit c.in-Ok-made_unit.ensures

-- each string took one step
pub returns-in-Ok-made_unit-clause-ticks : goal.returns-in-Ok-made_unit-clause-ticks
returns-in-Ok-made_unit-clause-ticks g c =
    let all = stabs_from [] (c.args.span.now.first + 1) c.args.rest.now in
    let start = c.new-reader.ensures.start (names_of c.args.span.now) c.args.steps.now (c.args.span.now.first + 1) c.args.rest.now c.in-Ok.ensures in
    counted_all all c.args.span.now c.args.steps.now _ _ (c.in-Ok-read_inside.ensures.found all (names_of c.args.span.now) c.args.steps.now start)

-- one of the strings has the fault
pub returns-in-Err-clause-stopped : goal.returns-in-Err-clause-stopped
returns-in-Err-clause-stopped g c = λ f is.
    let same : c.in-Err.refusal ≡ Refused.At f = cc in
    c.in-Err.ensures.stopped f (ap Err same) (stabs_from [] (c.args.span.now.first + 1) c.args.rest.now) (names_of c.args.span.now) c.args.steps.now
    (c.new-reader.ensures.start (names_of c.args.span.now) c.args.steps.now (c.args.span.now.first + 1) c.args.rest.now c.in-Ok.ensures)
