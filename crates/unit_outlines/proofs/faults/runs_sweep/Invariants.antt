use Rattle.std.proofs.Common.{◌≡◌, ◌≤◌, drop, false}
use Rattle.unit_outlines.specs.declared.limits.TheConstants.{STRING_LIMIT}
use Rattle.unit_outlines.specs.Runs.{link_at, piece_of}
use Rattle.unit_outlines.specs.Sweeps.{sweep_runs}
use Rattle.unit_outlines.proofs.faults.runs_sweep.Given as goal

-- the entries left tell what all entries tell
abbrev pub invariant-loop-at : goal.invariant-loop-at
invariant-loop-at l = (l.so_far ≤ STRING_LIMIT)
    × (sweep_runs link_at piece_of l.going l.place l.so_far l.at (drop l.at l.entries) ≡ sweep_runs link_at piece_of false 0 0 0 l.entries)
