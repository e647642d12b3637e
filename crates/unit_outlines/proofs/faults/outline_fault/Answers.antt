use Rattle.unit_outlines.proofs.Together.{outline_first}
use Rattle.unit_outlines.proofs.faults.outline_fault.Goals as goal

pub returns : goal.returns
returns c = outline_first c.args.marks c.args.entries.now _ c.all_faults.ensures
