use Rattle.st_base.specs.declared.fault.TheConstants.{OPEN_HEADER, CLOSED_HEADER, BRACKETS}
use Rattle.unit_outlines.specs.Nests.{nest_tell, in_headers, in_blocks}
use Rattle.unit_outlines.proofs.Together.{joined_scans}
use Rattle.unit_outlines.proofs.faults.nests_fault.Goals as goal

pub returns : goal.returns
returns c = joined_scans (nest_tell in_headers OPEN_HEADER CLOSED_HEADER) (nest_tell in_blocks BRACKETS BRACKETS) c.args.entries.now _ _ _
    c.nest_fault-headers.ensures c.nest_fault-blocks.ensures c.earlier.ensures
