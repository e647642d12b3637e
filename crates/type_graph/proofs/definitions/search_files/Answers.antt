use Rattle.std.proofs.Common.{List, subst}
use Rattle.std.specs.Prelude.{Ok}
use Rattle.stab_symbols.specs.declared.tree.Symbol.{Symbol}
use Rattle.type_graph.specs.Types.{definitions_of}
use Rattle.type_graph.specs.Searches.{HasMet, definitions_in_file}
use Rattle.type_graph.proofs.SearchLemmas.{met-more, met-stop}
use Rattle.type_graph.proofs.definitions.search_files.Goals as goal

-- the search stops in this file
pub returns-in_err-search_symbols : goal.returns-in_err-search_symbols
returns-in_err-search_symbols c =
    met-stop definitions_in_file c.args.search.now c.loop-file.search c.search_symbols.new.search c.args.files.now c.loop-file.file-index c.file-item.result
    (Ok tt) c.search_symbols.result c.from_residual.result _ c.loop-file-test.true c.file-item.is c.loop-file.invariant
    (subst (λ (symbols : List Symbol). HasMet c.loop-file.search (definitions_of symbols) c.search_symbols.new.search c.search_symbols.result) c.items.ensures c.search_symbols.ensures) c.in_err-search_symbols.was

-- one file more
pub loop-file-preserved : goal.loop-file-preserved
loop-file-preserved c =
    met-more definitions_in_file c.args.search.now c.loop-file.search c.search_symbols.new.search c.args.files.now c.loop-file.file-index c.file-item.result
    (Ok tt) c.search_symbols.result c.loop-file-test.true c.file-item.is c.loop-file.invariant
    (subst (λ (symbols : List Symbol). HasMet c.loop-file.search (definitions_of symbols) c.search_symbols.new.search c.search_symbols.result) c.items.ensures c.search_symbols.ensures)
