use Rattle.asm_objects.proofs.NameLemmas.{words-insert}
use Rattle.asm_objects.proofs.words.Words.add.Goals as goal

pub returns-clause-ok : goal.returns-clause-ok
returns-clause-ok c =
    words-insert c.self.inside.set.keys c.insert.new.self.keys c.in_ok-key.key c.args.self.now c.args.name.now c.self.view_is c.in_ok-key.ensures.items c.in_ok-insert.ensures.keys
