use Rattle.type_graph.specs.Types.{symbol_definitions}
use Rattle.type_graph.proofs.IndexLemmas.{all-noted, noted-more}
use Rattle.type_graph.proofs.indexing.note_symbols.Goals as goal

-- one symbol more
pub loop-symbol-preserved : goal.loop-symbol-preserved
loop-symbol-preserved c =
    noted-more symbol_definitions c.args.noting.now c.loop-symbol.noting c.visit_definitions.new.visitor c.args.symbols.now c.loop-symbol.symbol-index c.symbol-item.result
    c.loop-symbol-test.true c.symbol-item.is c.loop-symbol.invariant (all-noted _ _ _ _ c.in_ok-visit_definitions.ensures)
