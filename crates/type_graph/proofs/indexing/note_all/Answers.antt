use Rattle.std.proofs.Common.{List, subst}
use Rattle.stab_symbols.specs.declared.tree.Symbol.{Symbol}
use Rattle.type_graph.specs.Types.{definitions_of}
use Rattle.type_graph.specs.Searches.{definitions_in_file}
use Rattle.type_graph.specs.TypeMaps.{HasNoted}
use Rattle.type_graph.proofs.IndexLemmas.{noted-more}
use Rattle.type_graph.proofs.indexing.note_all.Goals as goal

-- one file more
pub loop-file-preserved : goal.loop-file-preserved
loop-file-preserved c =
    noted-more definitions_in_file c.args.noting.now c.loop-file.noting c.note_symbols.new.noting c.args.files.now c.loop-file.file-index c.file-item.result
    c.loop-file-test.true c.file-item.is c.loop-file.invariant
    (subst (λ (symbols : List Symbol). HasNoted c.loop-file.noting (definitions_of symbols) c.note_symbols.new.noting) c.items.ensures c.in_ok-note_symbols.ensures)
