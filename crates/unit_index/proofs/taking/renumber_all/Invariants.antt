use Rattle.std.proofs.Common.{◌≡◌, ◌++◌, drop, map}
use Rattle.stab_symbols.specs.Files.{renumbered}
use Rattle.unit_index.proofs.taking.renumber_all.Given as goal

-- the symbols so far, and those that are left
abbrev pub invariant-loop-symbol : goal.invariant-loop-symbol
invariant-loop-symbol l = l.made ++ map (renumbered l.table) (drop l.symbol-index l.symbols) ≡ map (renumbered l.table) l.symbols
