use Rattle.std.proofs.Common.{◌≡◌, ◌++◌, drop}
use Rattle.aout_link.specs.Answering.{listed}
use Rattle.aout_link.specs.Placing.{placed_all}
use Rattle.aout_link.specs.Refusals.{undefined_in}
use Rattle.aout_link.proofs.placing.place_all.Given as goal

abbrev pub invariant-loop-at : goal.invariant-loop-at
invariant-loop-at l = record {
  fault : undefined_in (listed l.table.entries) l.at (drop l.at l.objects) ≡ undefined_in (listed l.table.entries) 0 l.objects;
  out : l.out ++ placed_all (listed l.table.entries) (drop l.at l.moves) (drop l.at l.objects) ≡ placed_all (listed l.table.entries) l.moves l.objects;
}
