use Rattle.std.proofs.Common.{◌≡◌, drop}
use Rattle.std.specs.List.{find, enumerate_from}
use Rattle.scope_lines.specs.Scopes.{holds}
use Rattle.scope_lines.proofs.unit_of.unit_at.Given as goal

-- the first from here on is the first of all
abbrev pub invariant-loop-at : goal.invariant-loop-at
invariant-loop-at l = find (holds l.address) (enumerate_from l.at (drop l.at l.units)) ≡ find (holds l.address) (enumerate_from 0 l.units)
