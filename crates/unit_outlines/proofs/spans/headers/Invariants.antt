use Rattle.std.proofs.Common.{◌≡◌, ◌+◌, ◌++◌, drop}
use Rattle.unit_outlines.specs.Outlines.{headers_from}
use Rattle.unit_outlines.specs.Sweeps.{ends_from}
use Rattle.unit_outlines.proofs.spans.headers.Given as goal

-- the headers so far, and those of the entries left, are all
abbrev pub invariant-loop-entry : goal.invariant-loop-entry
invariant-loop-entry l = record {
  counted : l.place ≡ l.first + l.entry-index;
  ends : l.ends ≡ ends_from l.place (drop l.entry-index l.entries);
  whole : l.found ++ headers_from l.place (drop l.entry-index l.entries) ≡ headers_from l.first l.entries;
}
