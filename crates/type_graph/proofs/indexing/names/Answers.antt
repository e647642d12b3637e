use Rattle.std.proofs.Common.{List, ap, ◌∙◌}
use Rattle.stab_symbols.specs.declared.tree.Symbol.{Symbol}
use Rattle.type_graph.specs.TypeMaps.{named_in, symbol_in}
use Rattle.type_graph.proofs.NamesLemmas.{names-more}
use Rattle.type_graph.proofs.indexing.names.Goals as goal

-- one file more
pub loop-number-preserved : goal.loop-number-preserved
loop-number-preserved c = λ key.
    names-more c.items-files.result.now c.loop-number.number c.index-files-number.result key (symbol_in c.loop-number.names key) (symbol_in c.note_names.new.names key)
    c.loop-number-test.true c.index-files-number.is (c.loop-number.invariant key)
    (c.in_ok-note_names.ensures key ∙ ap (λ (ss : List Symbol). named_in c.loop-number.number key (symbol_in c.loop-number.names key) ss) c.items.ensures)
