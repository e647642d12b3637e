use Rattle.reloc.proofs.RelocLemmas.{write-spelled, spelled-write}
use Rattle.reloc.proofs.write.reloc_laws.Goals as goal

pub returns : goal.returns
returns g c = record {
  write_then_read = λ reloc address fits. write-spelled _ reloc address fits;
  read_then_write = λ reloc bytes are_bytes whole spells. spelled-write _ reloc bytes are_bytes whole spells;
}
