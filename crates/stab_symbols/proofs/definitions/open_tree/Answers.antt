use Rattle.std.proofs.Common.{ap, sym, ◌∙◌, ⊎_elim}
use Rattle.stab_symbols.specs.declared.tree.TypeTree.{TypeTree}
use Rattle.stab_symbols.specs.declared.tree.TypeTree.TheVariants.{Def}
use Rattle.stab_symbols.proofs.OpeningLemmas.{opens-Def, opens-Struct, opens-Union}
use Rattle.stab_symbols.proofs.definitions.open_tree.Goals as goal

pub returns-in-Def : goal.returns-in-Def
returns-in-Def c = opens-Def c.args.tree.now c.get-body.result.now c.in-Def.num c.key_of.result (c.in-Def.is ∙ ap (λ (t : TypeTree). Def c.in-Def.num t) (sym c.get-body.ensures)) c.key_of.ensures

pub returns-in-Struct : goal.returns-in-Struct
returns-in-Struct c = rw c.items.ensures (⊎_elim (λ is. opens-Struct c.args.tree.now is.0 c.in-Struct.fields is.1) (λ is. opens-Union c.args.tree.now is.0 c.in-Struct.fields is.1) c.in-Struct.is)
