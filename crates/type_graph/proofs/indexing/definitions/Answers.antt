use Rattle.std.proofs.Common.{◌≡◌, List, refl, ap, sym, ◌∙◌, Bool, true, false, Option, None, rules}
use Rattle.std.specs.Prelude.{not, slice_get}
use Rattle.stab_symbols.specs.declared.tree.Key.{Key}
use Rattle.stab_symbols.specs.declared.tree.TypeTree.{TypeTree}
use Rattle.stab_units.specs.declared.unit.HeaderFile.{HeaderFile}
use Rattle.type_graph.specs.Types.{definitions_of, symbols_in}
use Rattle.type_graph.specs.Searches.{noted_all, file_definitions}
use Rattle.type_graph.specs.TypeMaps.{body_in, own_only}
use Rattle.type_graph.proofs.IndexLemmas.{made-definitions}
use Rattle.type_graph.proofs.StrayLemmas.{made-own}
use Rattle.type_graph.proofs.indexing.definitions.Goals as goal

is_own : (b : Bool) → not b ≡ false → b ≡ true
is_own true e = refl
is_own false e = absurd cc

-- no definition strays, so the own ones of each key are all
pub returns-then-not-noting : goal.returns-then-not-noting
returns-then-not-noting c =
    let files : List HeaderFile = c.items-files.result.now in
    let empty : (key : Key) → body_in c.new.result key ≡ None = λ key. search rules in
    made-own c.note_own.new.noting.bodies c.args.unit.now
    (ap (own_only 0) (sym c.items-files.ensures) ∙ is_own (own_only 0 files) (sym c.in_ok-note_own.ensures.strays ∙ c.if-not-noting.true))
    (λ key.
    c.in_ok-note_own.ensures.own key ∙ ap (λ (o : Option TypeTree). noted_all key o (definitions_of (symbols_in (slice_get files key.file)))) (empty key)
    ∙ ap (λ (fs : List HeaderFile). noted_all key None (definitions_of (symbols_in (slice_get fs key.file)))) c.items-files.ensures)

-- the own definitions of each key are noted first, and then all
pub returns : goal.returns
returns c =
    let files : List HeaderFile = c.items-files.result.now in
    let empty : (key : Key) → body_in c.new.result key ≡ None = λ key. search rules in
    made-definitions c.note_all.new.noting.bodies c.args.unit.now
    (λ key.
    c.in_ok-note_all.ensures.bodies key
    ∙ ap (λ (o : Option TypeTree). noted_all key o (file_definitions files))
    (c.in_ok-note_own.ensures.own key ∙ ap (λ (o : Option TypeTree). noted_all key o (definitions_of (symbols_in (slice_get files key.file)))) (empty key))
    ∙ ap (λ (fs : List HeaderFile). noted_all key (noted_all key None (definitions_of (symbols_in (slice_get fs key.file)))) (file_definitions fs)) c.items-files.ensures)
