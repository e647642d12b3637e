use Rattle.std.specs.Prelude.{Ok}
use Rattle.type_graph.specs.Types.{symbol_definitions}
use Rattle.type_graph.proofs.SearchLemmas.{all-met, met-more, met-stop}
use Rattle.type_graph.proofs.definitions.search_symbols.Goals as goal

-- the search stops in this symbol
pub returns-in_err-visit_definitions : goal.returns-in_err-visit_definitions
returns-in_err-visit_definitions c =
    met-stop symbol_definitions c.args.search.now c.loop-symbol.search c.visit_definitions.new.visitor c.args.symbols.now c.loop-symbol.symbol-index c.symbol-item.result
    (Ok tt) c.visit_definitions.result c.from_residual.result _ c.loop-symbol-test.true c.symbol-item.is c.loop-symbol.invariant (all-met _ _ _ _ c.visit_definitions.ensures) c.in_err-visit_definitions.was

-- one symbol more
pub loop-symbol-preserved : goal.loop-symbol-preserved
loop-symbol-preserved c =
    met-more symbol_definitions c.args.search.now c.loop-symbol.search c.visit_definitions.new.visitor c.args.symbols.now c.loop-symbol.symbol-index c.symbol-item.result
    (Ok tt) c.visit_definitions.result c.loop-symbol-test.true c.symbol-item.is c.loop-symbol.invariant (all-met _ _ _ _ c.visit_definitions.ensures)
