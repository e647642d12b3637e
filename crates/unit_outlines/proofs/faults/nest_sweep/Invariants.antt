use Rattle.std.proofs.Common.{◌≡◌, ◌≤◌, drop}
use Rattle.unit_outlines.specs.Sweeps.{of_kinds, sweep}
use Rattle.unit_outlines.proofs.faults.nest_sweep.Given as goal

-- the entries left tell what all entries tell
abbrev pub invariant-loop-at : goal.invariant-loop-at
invariant-loop-at l = (l.depth ≤ l.at)
    × (sweep (of_kinds l.fn.begin l.fn.end) l.fn.unclosed l.fn.unopened l.depth l.outermost l.at (drop l.at l.entries) ≡ sweep (of_kinds l.fn.begin l.fn.end) l.fn.unclosed l.fn.unopened 0 0 0 l.entries)
