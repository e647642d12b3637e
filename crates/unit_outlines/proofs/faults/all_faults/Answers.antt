use Rattle.unit_outlines.specs.Outlines.{unit_tell, matches_tell}
use Rattle.unit_outlines.proofs.Together.{joined_scans}
use Rattle.unit_outlines.proofs.faults.all_faults.Goals as goal

pub returns : goal.returns
returns c = joined_scans (unit_tell c.args.marks) matches_tell c.args.entries.now _ _ _ c.unit_fault-places.ensures c.matches_fault-matches.ensures c.earlier.ensures
