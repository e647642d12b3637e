use Rattle.aout_layout.proofs.HeaderLemmas.{read_exactly}
use Rattle.aout_layout.proofs.read.read_header.Goals as goal

pub returns-clause-spelled : goal.returns-clause-spelled
returns-clause-spelled c = read_exactly c.args.bytes.now _ c.fits-bytes c.told-bytes c.read_checked.ensures
