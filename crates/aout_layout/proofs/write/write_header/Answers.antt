use Rattle.std.proofs.Common.{ap}
use Rattle.st_base.specs.ByteOrder.{is_big}
use Rattle.aout_layout.proofs.HeaderLemmas.{written_in}
use Rattle.aout_layout.proofs.write.write_header.Goals as goal

-- what is written in the order of the header spells it
pub returns-in-Little-clause-read_again : goal.returns-in-Little-clause-read_again
returns-in-Little-clause-read_again c = written_in _ _ _ (ap is_big c.in-Little.is) c.write_fields.ensures.bytes c.write_fields.ensures.numbers c.requires

pub returns-in-Big-clause-read_again : goal.returns-in-Big-clause-read_again
returns-in-Big-clause-read_again c = written_in _ _ _ (ap is_big c.in-Big.is) c.write_fields-in-Big.ensures.bytes c.write_fields-in-Big.ensures.numbers c.requires
