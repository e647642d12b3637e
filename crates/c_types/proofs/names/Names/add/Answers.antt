use Rattle.c_types.proofs.NameLemmas.{words-insert}
use Rattle.c_types.proofs.names.Names.add.Goals as goal

pub returns : goal.returns
returns c =
    words-insert c.self.inside.set.keys c.insert.new.self.keys c.in_ok-key.key c.args.self.now c.args.name.now c.self.view_is c.in_ok-key.ensures.items c.in_ok-insert.ensures.keys
