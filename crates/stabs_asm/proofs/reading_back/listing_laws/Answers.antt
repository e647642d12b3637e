use Rattle.stabs_asm.proofs.AgainLemmas.{assembled_again}
use Rattle.stabs_asm.proofs.ReadBackLemmas.{is_listed}
use Rattle.stabs_asm.proofs.reading_back.listing_laws.Goals as goal

pub returns-clause-read : goal.returns-clause-read
returns-clause-read c = is_listed

pub returns-clause-again : goal.returns-clause-again
returns-clause-again c = assembled_again
