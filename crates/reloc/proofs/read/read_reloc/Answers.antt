use Rattle.reloc.proofs.RelocLemmas.{read_exactly}
use Rattle.reloc.proofs.read.read_reloc.Goals as goal

pub returns-clause-spelled : goal.returns-clause-spelled
returns-clause-spelled g c = read_exactly _ c.args.bytes.now _ c.fits-bytes c.told-bytes c.read_checked.ensures
