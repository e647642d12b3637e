use Rattle.std.proofs.Common.{◌≡◌, ◌≤◌, ◌+◌, ℕ, List, drop}
use Rattle.stab_units.specs.Units.{Stab}
use Rattle.stab_units.specs.ReadingWalk.{HasRead}
use Rattle.stab_units.proofs.reading.read_inside.Given as goal

-- the stabs before the place are read
abbrev pub invariant-loop-at : goal.invariant-loop-at
invariant-loop-at g l = record {
  counted : l.place ≡ l.first + l.at;
  headers : l.reader.nest.headers ≤ l.at;
  read : (all : List Stab) (names : List (List ℕ)) (start : ℕ) → HasRead all names start l.first l.rest l.fn.reader l.fn.steps
      → HasRead all names start l.place (drop l.at l.rest) l.reader l.steps;
}
