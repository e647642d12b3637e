use Rattle.std.proofs.Common.{take}
use Rattle.std.specs.Prelude.{Ok}
use Rattle.type_graph.specs.Searches.{file_definitions}
use Rattle.type_graph.specs.Searches.{HasMet}
use Rattle.type_graph.proofs.definitions.search_files.Given as goal

-- the definitions so far are met
abbrev pub invariant-loop-file : goal.invariant-loop-file
invariant-loop-file l = HasMet l.initial.search (file_definitions (take l.file-index l.files)) l.search (Ok tt)
