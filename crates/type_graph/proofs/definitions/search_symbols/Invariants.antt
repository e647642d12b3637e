use Rattle.std.proofs.Common.{take}
use Rattle.std.specs.Prelude.{Ok}
use Rattle.type_graph.specs.Types.{definitions_of}
use Rattle.type_graph.specs.Searches.{HasMet}
use Rattle.type_graph.proofs.definitions.search_symbols.Given as goal

-- the definitions so far are met
abbrev pub invariant-loop-symbol : goal.invariant-loop-symbol
invariant-loop-symbol l = HasMet l.initial.search (definitions_of (take l.symbol-index l.symbols)) l.search (Ok tt)
