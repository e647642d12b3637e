use Rattle.std.proofs.Common.{◌≡◌, ◌++◌, drop, map}
use Rattle.stab_symbols.specs.Files.{shape_of}
use Rattle.bincl_match.proofs.unit_ranges.shapes.Given as goal

-- the shapes so far, and those of the symbols left, are all
abbrev pub invariant-loop-symbol : goal.invariant-loop-symbol
invariant-loop-symbol l = l.out ++ map shape_of (drop l.symbol-index l.symbols) ≡ map shape_of l.symbols
