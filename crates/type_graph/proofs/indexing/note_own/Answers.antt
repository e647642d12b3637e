use Rattle.std.proofs.Common.{List, ap, ◌∙◌, Some, cond}
use Rattle.std.specs.Prelude.{◌==◌, ◌||◌}
use Rattle.stab_symbols.specs.declared.tree.Symbol.{Symbol}
use Rattle.type_graph.specs.Types.{definitions_of}
use Rattle.type_graph.specs.Searches.{noted_all}
use Rattle.type_graph.specs.TypeMaps.{body_in, has_stray}
use Rattle.type_graph.proofs.IndexLemmas.{own-more}
use Rattle.type_graph.proofs.StrayLemmas.{strays-more}
use Rattle.type_graph.proofs.indexing.note_own.Goals as goal

-- one file more
pub loop-number-preserved : goal.loop-number-preserved
loop-number-preserved c = (
  (λ key.
      own-more c.args.files.now c.loop-number.number c.index-files-number.result key (body_in c.args.noting.now.bodies key) (body_in c.loop-number.noting.bodies key)
      (body_in c.note_symbols.new.noting.bodies key) c.loop-number-test.true c.index-files-number.is (c.loop-number.invariant.0 key)
      (c.in_ok-note_symbols.ensures.bodies key
      ∙ ap (λ (ss : List Symbol). cond (key.file == c.loop-number.number) (noted_all key (body_in c.loop-number.noting.bodies key) (definitions_of ss)) (body_in c.loop-number.noting.bodies key)) c.items.ensures)),
  strays-more c.args.files.now c.loop-number.number c.index-files-number.result _ c.loop-number.noting.strays c.note_symbols.new.noting.strays c.loop-number-test.true c.index-files-number.is
      (c.in_ok-note_symbols.ensures.strays ∙ ap (λ (ss : List Symbol). c.loop-number.noting.strays || has_stray (Some c.loop-number.number) (definitions_of ss)) c.items.ensures)
      c.loop-number.invariant.1,
)
