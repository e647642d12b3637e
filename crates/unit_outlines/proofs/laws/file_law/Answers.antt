use Rattle.unit_outlines.proofs.FileLaw.{file_header, file_unit}
use Rattle.unit_outlines.proofs.laws.file_law.Goals as goal

pub returns-clause-header : goal.returns-clause-header
returns-clause-header c = file_header

pub returns-clause-unit : goal.returns-clause-unit
returns-clause-unit c = file_unit
