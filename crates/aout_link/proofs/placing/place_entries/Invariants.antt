use Rattle.std.proofs.Common.{◌≡◌, ◌++◌, drop, map}
use Rattle.aout_link.specs.Answering.{listed}
use Rattle.aout_link.specs.Placing.{placed_entry}
use Rattle.aout_link.specs.Refusals.{undefined_fault}
use Rattle.aout_link.proofs.placing.place_entries.Given as goal

abbrev pub invariant-loop-at : goal.invariant-loop-at
invariant-loop-at l = record {
  fault : undefined_fault (listed l.table.entries) l.object l.at (drop l.at l.named) ≡ undefined_fault (listed l.table.entries) l.object 0 l.named;
  out : l.out ++ map (placed_entry (listed l.table.entries) l.moves) (drop l.at l.named) ≡ l.initial.out ++ map (placed_entry (listed l.table.entries) l.moves) l.named;
}
