use Rattle.std.proofs.Common.{◌≡◌, Option, OnOk, Bor, subst, sym}
use Rattle.std.specs.Option.{option_copied}
use Rattle.stab_symbols.specs.declared.tree.TypeTree.{TypeTree}
use Rattle.type_graph.specs.KeyLists.{joined}
use Rattle.type_graph.specs.Listings.{surface_keys}
use Rattle.type_graph.proofs.KeyListLemmas.{all_added}
use Rattle.type_graph.proofs.listings.add_body.Goals as goal

-- the keys of the numbers that were visited are joined
pub returns-in-Some : goal.returns-in-Some
returns-in-Some c =
    subst (λ (o : Option (Bor TypeTree)). OnOk c.visit_surface.result (c.visit_surface.new.visitor ≡ joined c.args.found.now (surface_keys (option_copied o))))
    (sym c.in-Some.is) (all_added _ _ _ _ c.visit_surface.ensures)
