use Rattle.std.proofs.Common.{◌≡◌, drop}
use Rattle.std.specs.List.{find}
use Rattle.type_graph.specs.Types.{is_name, name_of}
use Rattle.type_graph.proofs.names.type_name.Given as goal

-- the first symbol that names the key is among those that are left
abbrev pub invariant-loop-symbol : goal.invariant-loop-symbol
invariant-loop-symbol l = find (is_name l.key) (drop l.symbol-index l.symbols) ≡ name_of l.unit l.key
