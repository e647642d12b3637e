use Rattle.std.proofs.Common.{ℕ, ◌++◌, List, ap, ◌∙◌}
use Rattle.stab_symbols.specs.declared.files.PairFiles.{PairFiles}
use Rattle.stab_symbols.specs.Files.{file_in, files_of, PutsFile}
use Rattle.stab_symbols.proofs.WalkLemmas.{visited_puts}
use Rattle.stab_symbols.proofs.files.numbers.Goals as goal

-- each visit puts the file of its number at the end, and at first there are none
pub returns : goal.returns
returns c =
    visited_puts PutsFile (λ (kept : PairFiles). kept.files) file_in (λ old num new put. put) _ _ _ c.in_ok-visit_numbers.ensures
    ∙ ap (λ (files : List ℕ). files ++ files_of c.args.symbol.now) c.new.ensures
