use Rattle.std.proofs.Common.{List, subst}
use Rattle.stab_symbols.specs.declared.tree.Symbol.{Symbol}
use Rattle.stab_units.specs.declared.unit.HeaderFile.{HeaderFile}
use Rattle.type_graph.specs.Types.{definitions_of}
use Rattle.type_graph.specs.Searches.{HasMet, file_definitions}
use Rattle.type_graph.proofs.SearchLemmas.{met-then, met-over, settled-at_stop}
use Rattle.type_graph.proofs.definitions.search_unit.Goals as goal

-- the search stops in the key's own file
pub returns-in_err-search_symbols : goal.returns-in_err-search_symbols
returns-in_err-search_symbols c =
    met-over c.args.search.now c.search_symbols.new.search _ _ c.search_symbols.result c.from_residual.result
    (subst (λ (symbols : List Symbol). HasMet c.args.search.now (definitions_of symbols) c.search_symbols.new.search c.search_symbols.result) c.file_symbols.ensures c.search_symbols.ensures)
    (settled-at_stop c.args.search.now c.search_symbols.new.search (definitions_of c.file_symbols.result.now) c.search_symbols.result _ c.search_symbols.ensures c.in_err-search_symbols.was)

-- it goes on through all files
pub returns : goal.returns
returns c =
    met-then c.args.search.now c.search_symbols.new.search c.search_files.new.search _ _ c.search_symbols.result c.search_files.result
    (subst (λ (symbols : List Symbol). HasMet c.args.search.now (definitions_of symbols) c.search_symbols.new.search c.search_symbols.result) c.file_symbols.ensures c.search_symbols.ensures)
    (subst (λ (files : List HeaderFile). HasMet c.search_symbols.new.search (file_definitions files) c.search_files.new.search c.search_files.result) c.items.ensures c.search_files.ensures)
