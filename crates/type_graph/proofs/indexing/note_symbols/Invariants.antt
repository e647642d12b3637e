use Rattle.std.proofs.Common.{take}
use Rattle.type_graph.specs.Types.{definitions_of}
use Rattle.type_graph.specs.TypeMaps.{HasNoted}
use Rattle.type_graph.proofs.indexing.note_symbols.Given as goal

-- the definitions so far are noted
abbrev pub invariant-loop-symbol : goal.invariant-loop-symbol
invariant-loop-symbol l = HasNoted l.initial.noting (definitions_of (take l.symbol-index l.symbols)) l.noting
