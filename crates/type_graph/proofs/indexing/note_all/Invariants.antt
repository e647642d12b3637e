use Rattle.std.proofs.Common.{take}
use Rattle.type_graph.specs.Searches.{file_definitions}
use Rattle.type_graph.specs.TypeMaps.{HasNoted}
use Rattle.type_graph.proofs.indexing.note_all.Given as goal

-- the definitions so far are noted
abbrev pub invariant-loop-file : goal.invariant-loop-file
invariant-loop-file l = HasNoted l.initial.noting (file_definitions (take l.file-index l.files)) l.noting
