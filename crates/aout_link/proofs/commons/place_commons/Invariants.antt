use Rattle.std.proofs.Common.{◌≡◌, ◌≤◌, ◌*◌, ◌++◌, take}
use Rattle.aout_link.specs.Answering.{listed}
use Rattle.aout_link.specs.NameTables.{placed_commons, commons_total}
use Rattle.aout_link.proofs.commons.place_commons.Given as goal

abbrev pub invariant-loop-at : goal.invariant-loop-at
invariant-loop-at l = record {
  table : listed l.table.entries ≡ listed l.initial.table.entries ++ placed_commons l.start (take l.at (listed l.sizes.entries));
  total : l.total ≡ commons_total (take l.at (listed l.sizes.entries));
  low : l.total ≤ 4294967296 * l.at;
}
