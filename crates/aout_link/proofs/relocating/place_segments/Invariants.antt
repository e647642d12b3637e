use Rattle.std.proofs.Common.{◌≡◌, ◌≤◌, ◌++◌, drop, length}
use Rattle.aout_link.specs.Answering.{texts_from, datas_from, relocs_from}
use Rattle.aout_link.specs.NameTables.{entries_of}
use Rattle.aout_link.proofs.relocating.place_segments.Given as goal

abbrev pub invariant-loop-at : goal.invariant-loop-at
invariant-loop-at l = record {
  fault : relocs_from l.rest l.at (drop l.at l.moves) (drop l.at l.objects) ≡ relocs_from l.placed 0 l.moves l.objects;
  text : l.text ++ texts_from l.rest (drop l.at l.moves) (drop l.at l.objects) ≡ texts_from l.placed l.moves l.objects;
  datum : l.datum ++ datas_from l.rest (drop l.at l.moves) (drop l.at l.objects) ≡ datas_from l.placed l.moves l.objects;
  room : length (entries_of (drop l.at l.objects)) ≤ length l.rest;
}
