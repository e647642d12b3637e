use Rattle.std.proofs.Common.{◌≡◌}
use Rattle.std.specs.List.{find}
use Rattle.stab_symbols.specs.declared.tree.Key.{Key}
use Rattle.type_graph.specs.Types.{is_name}
use Rattle.type_graph.specs.TypeMaps.{symbol_in}
use Rattle.type_graph.proofs.FrontLemmas.{front_symbols}
use Rattle.type_graph.proofs.indexing.names.Given as goal

-- the names of the files so far
abbrev pub invariant-loop-number : goal.invariant-loop-number
invariant-loop-number l = (key : Key) → symbol_in l.names key ≡ find (is_name key) (front_symbols l.files l.number key.file)
