use Rattle.reloc.proofs.RelocLemmas.{written}
use Rattle.reloc.proofs.write.write_reloc.Goals as goal

pub returns-clause-read_again : goal.returns-clause-read_again
returns-clause-read_again g c = written _ _ _ c.write_fields.ensures.bytes c.write_fields.ensures.address c.requires
