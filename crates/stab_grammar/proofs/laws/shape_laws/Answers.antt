use Rattle.stab_grammar.proofs.ShapeLaws.{exactly, known, determined, again, shape_kept, files_new}
use Rattle.stab_grammar.proofs.laws.shape_laws.Goals as goal

pub returns-clause-only_files : goal.returns-clause-only_files
returns-clause-only_files c = exactly

pub returns-clause-known : goal.returns-clause-known
returns-clause-known c = known

pub returns-clause-determined : goal.returns-clause-determined
returns-clause-determined c = determined

pub returns-clause-again : goal.returns-clause-again
returns-clause-again c = again

pub returns-clause-shape_kept : goal.returns-clause-shape_kept
returns-clause-shape_kept c = shape_kept

pub returns-clause-files_new : goal.returns-clause-files_new
returns-clause-files_new c = files_new
