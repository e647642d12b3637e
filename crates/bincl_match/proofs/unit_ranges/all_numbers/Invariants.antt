use Rattle.std.proofs.Common.{◌≡◌, ◌++◌, drop}
use Rattle.std.specs.Prelude.{flat_map}
use Rattle.stab_symbols.specs.Files.{files_of}
use Rattle.bincl_match.proofs.unit_ranges.all_numbers.Given as goal

-- the numbers so far, and those of the symbols left, are all
abbrev pub invariant-loop-symbol : goal.invariant-loop-symbol
invariant-loop-symbol l = l.out ++ flat_map files_of (drop l.symbol-index l.symbols) ≡ flat_map files_of l.symbols
