use Rattle.std.proofs.Common.{refl}
use Rattle.stab_units.proofs.ReadingLemmas.{read_start}
use Rattle.stab_units.proofs.reader.Reader.new.Goals as goal

-- no entry was read yet
pub returns-clause-start : goal.returns-clause-start
returns-clause-start c = λ names start p left files. read_start names start p left _ files c.new-2.ensures refl c.new.ensures.start
