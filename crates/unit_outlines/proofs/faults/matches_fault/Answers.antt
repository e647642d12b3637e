use Rattle.unit_outlines.specs.Outlines.{nests_tell}
use Rattle.unit_outlines.specs.Runs.{run_tell}
use Rattle.unit_outlines.proofs.Together.{joined_scans}
use Rattle.unit_outlines.proofs.faults.matches_fault.Goals as goal

pub returns : goal.returns
returns c = joined_scans nests_tell run_tell c.args.entries.now _ _ _ c.nests_fault-nests.ensures c.runs_fault-runs.ensures c.earlier.ensures
