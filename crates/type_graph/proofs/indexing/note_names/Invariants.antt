use Rattle.std.proofs.Common.{◌≡◌, drop}
use Rattle.stab_symbols.specs.declared.tree.Key.{Key}
use Rattle.type_graph.specs.TypeMaps.{named_in, symbol_in}
use Rattle.type_graph.proofs.indexing.note_names.Given as goal

-- with the symbols that are left, it is what is known with all
abbrev pub invariant-loop-symbol : goal.invariant-loop-symbol
invariant-loop-symbol l = (key : Key) → named_in l.file key (symbol_in l.names key) (drop l.symbol-index l.symbols) ≡ named_in l.file key (symbol_in l.initial.names key) l.symbols
