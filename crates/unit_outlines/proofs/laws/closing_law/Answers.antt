use Rattle.unit_outlines.specs.Nests.{in_blocks, in_headers}
use Rattle.unit_outlines.proofs.CountsLaw.{closing_is}
use Rattle.unit_outlines.proofs.laws.closing_law.Goals as goal

pub returns-clause-headers : goal.returns-clause-headers
returns-clause-headers c = closing_is in_headers

pub returns-clause-blocks : goal.returns-clause-blocks
returns-clause-blocks c = closing_is in_blocks
