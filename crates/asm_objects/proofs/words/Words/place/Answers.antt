use Rattle.std.proofs.Common.{ap, ◌∙◌, position}
use Rattle.std.specs.Str.{bytes_eq}
use Rattle.asm_objects.proofs.NameLemmas.{place-words}
use Rattle.asm_objects.proofs.words.Words.place.Goals as goal

pub returns : goal.returns
returns c =
    c.get_index_of.ensures.index ∙ place-words (bytes_eq c.args.name.now) c.self.inside.set.keys ∙ ap (position (bytes_eq c.args.name.now)) c.self.view_is
