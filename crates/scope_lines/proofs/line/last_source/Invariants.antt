use Rattle.std.proofs.Common.{◌≡◌, take}
use Rattle.scope_lines.specs.Lines.{is_source}
use Rattle.scope_lines.specs.ListPlaces.{last_place}
use Rattle.scope_lines.proofs.line.last_source.Given as goal

-- the last of those that were read
abbrev pub invariant-loop-at : goal.invariant-loop-at
invariant-loop-at l = l.found ≡ last_place is_source (take l.at l.body)
