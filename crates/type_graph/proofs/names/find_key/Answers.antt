use Rattle.std.proofs.Common.{◌≡◌, List, sym, ap, ◌∙◌, Option, Some, None, Bor}
use Rattle.std.specs.List.{find}
use Rattle.std.specs.Option.{option_copied}
use Rattle.stab_symbols.specs.declared.tree.Symbol.{Symbol}
use Rattle.type_graph.specs.Sorts.{is_of}
use Rattle.type_graph.specs.Types.{is_named, outer_of}
use Rattle.type_graph.proofs.NamesLemmas.{found-here, found-behind}
use Rattle.type_graph.proofs.names.find_key.Goals as goal

-- the first is in this file
pub returns-in-Some : goal.returns-in-Some
returns-in-Some c =
    let test = is_named (is_of c.args.sort) c.args.name.now in
    let here : find test c.file-item.result.symbols ≡ Some c.in-Some.symbol.now =
    sym (ap (λ (symbols : List Symbol). find test symbols) c.items.ensures) ∙ sym c.first_named.ensures ∙ ap (λ (o : Option (Bor Symbol)). option_copied o) c.in-Some.is in
    c.outer_key.ensures
    ∙ sym (ap outer_of (found-here test c.items-files.result.now c.loop-file.file-index c.file-item.result _ c.loop-file-test.true c.file-item.is c.loop-file.invariant c.in-Some.symbol.now here))

-- it is in none so far
pub loop-file-preserved : goal.loop-file-preserved
loop-file-preserved c =
    let test = is_named (is_of c.args.sort) c.args.name.now in
    let none : find test c.file-item.result.symbols ≡ None =
    sym (ap (λ (symbols : List Symbol). find test symbols) c.items.ensures) ∙ sym c.first_named.ensures ∙ ap (λ (o : Option (Bor Symbol)). option_copied o) c.in_default.is in
    found-behind test c.items-files.result.now c.loop-file.file-index c.file-item.result _ c.loop-file-test.true c.file-item.is c.loop-file.invariant none
