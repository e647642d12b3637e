use Rattle.std.proofs.Common.{◌≡◌, ◌+◌, length}
use Rattle.unit_index.specs.Filling.{files_with}
use Rattle.unit_index.proofs.FillLemmas.{FilledUpTo}
use Rattle.unit_index.proofs.filling.filled_files.Given as goal

-- the headers so far are filled
abbrev pub invariant-loop-at : goal.invariant-loop-at
invariant-loop-at l = (length l.files ≡ length l.headers + 1) × (length l.lists ≡ length l.headers)
    × FilledUpTo l.files l.headers l.lists l.at (files_with l.headers l.fn.files l.fn.lists)
