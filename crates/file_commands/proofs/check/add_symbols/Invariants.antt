use Rattle.std.proofs.Common.{◌≡◌, ◌+◌, length, take}
use Rattle.std.specs.List.{sum_by}
use Rattle.file_commands.proofs.check.add_symbols.Given as goal

-- the symbols of the files so far are summed
abbrev pub invariant-loop-file : goal.invariant-loop-file
invariant-loop-file l = l.total ≡ l.before + sum_by (λ file. length file.symbols) (take l.file-index l.files)
