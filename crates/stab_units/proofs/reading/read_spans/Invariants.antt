use Rattle.std.proofs.Common.{drop}
use Rattle.stab_units.specs.ReadingWalk.{HaveUnits}
use Rattle.stab_units.proofs.reading.read_spans.Given as goal

-- the spans so far are read
abbrev pub invariant-loop-span : goal.invariant-loop-span
invariant-loop-span g l = HaveUnits l.entries l.spans (drop l.span-index l.spans) l.fn.steps l.units l.steps
