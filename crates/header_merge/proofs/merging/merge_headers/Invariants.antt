use Rattle.std.proofs.Common.{◌≡◌, ◌≤◌, drop, length}
use Rattle.header_merge.specs.Merged.{change_of}
use Rattle.header_merge.specs.Walking.{HasChanged}
use Rattle.header_merge.proofs.merging.merge_headers.Given as goal

-- the entries before the place are walked over
abbrev pub invariant-loop-at : goal.invariant-loop-at
invariant-loop-at l = record {
  count : length l.entries ≡ l.at-end;
  headers : l.walk.nest.headers ≤ l.at;
  changed : HasChanged (change_of l.grouping) l.initial.entries (drop l.at l.entries) l.walk;
}
