use Rattle.aout_layout.proofs.HeaderLemmas.{write-spelled, spelled-write}
use Rattle.aout_layout.proofs.write.header_laws.Goals as goal

pub returns : goal.returns
returns c = record {
  write_then_read = λ header numbers fits. write-spelled header numbers fits;
  read_then_write = λ header bytes are_bytes whole spells. spelled-write header bytes are_bytes whole spells;
}
