use Rattle.std.proofs.Common.{◌≡◌, drop}
use Rattle.std.specs.List.{find}
use Rattle.type_graph.specs.Sorts.{is_of}
use Rattle.type_graph.specs.Types.{is_named}
use Rattle.type_graph.proofs.names.first_named.Given as goal

-- the first symbol of the sort and name is among those that are left
abbrev pub invariant-loop-symbol : goal.invariant-loop-symbol
invariant-loop-symbol l = find (is_named (is_of l.sort) l.name) (drop l.symbol-index l.symbols) ≡ find (is_named (is_of l.sort) l.name) l.symbols
