use Rattle.std.proofs.Common.{◌<◌, ◌≤◌, ◌∙◌, length, ap, arith, Option}
use Rattle.stab_symbols.specs.declared.tree.TypeTree.{TypeTree}
use Rattle.type_graph.specs.Listings.{surface_keys}
use Rattle.type_graph.specs.KeyLists.{joined}
use Rattle.type_graph.proofs.WorkListLemmas.{all_there_are, listed-step, listed-bound, listed-all}
use Rattle.type_graph.proofs.listings.listed.Goals as goal

-- a key is left that is not done with, and all keys are among those that there are
pub loop-done-smaller : goal.loop-done-smaller
loop-done-smaller c =
    let all : length c.loop-done.found ≤ length (all_there_are c.args.index.now c.args.key) = listed-bound c.args.index.now c.args.key c.loop-done.found c.loop-done.done c.loop-done.invariant in
    let left : c.loop-done.done < length c.loop-done.found = omega arith in
    omega (arith, all, left)

-- the keys that the definition of the key leads to are joined
pub loop-done-preserved : goal.loop-done-preserved
loop-done-preserved c =
    listed-step c.args.index.now c.args.key c.loop-done.found c.loop-done.done c.key-next.result c.loop-done.invariant c.key-next.ensures c.add_body.new.found
    (c.in_ok-add_body.ensures ∙ ap (λ (o : Option TypeTree). joined c.loop-done.found (surface_keys o)) c.definition.ensures)

-- all keys are done with
pub returns : goal.returns
returns c = listed-all c.args.index.now c.args.key c.loop-done.found c.loop-done.done c.loop-done.invariant (omega arith)
