use Rattle.std.proofs.Common.{◌≡◌, ◌≤◌, drop, false}
use Rattle.unit_outlines.specs.Sweeps.{sweep_places}
use Rattle.unit_outlines.proofs.faults.places_sweep.Given as goal

-- the entries left tell what all entries tell
abbrev pub invariant-loop-at : goal.invariant-loop-at
invariant-loop-at l = (l.headers ≤ l.at)
    × (sweep_places l.fn.marks l.within l.headers l.at (drop l.at l.entries) ≡ sweep_places l.fn.marks false 0 0 l.entries)
