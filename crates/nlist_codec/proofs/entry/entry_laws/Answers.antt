use Rattle.nlist_codec.proofs.EntryLemmas.{read-write}
use Rattle.nlist_codec.proofs.entry.entry_laws.Goals as goal

pub returns-clause-read_then_write : goal.returns-clause-read_then_write
returns-clause-read_then_write g c = λ bytes are_bytes whole. read-write _ bytes are_bytes whole
