use Rattle.std.proofs.Common.{ap, ◌∙◌, position}
use Rattle.std.specs.Str.{bytes_eq}
use Rattle.c_types.proofs.NameLemmas.{place-words}
use Rattle.c_types.proofs.names.Names.place.Goals as goal

pub returns : goal.returns
returns c =
    c.get_index_of.ensures.index ∙ place-words (bytes_eq c.args.name.now) c.self.inside.set.keys ∙ ap (position (bytes_eq c.args.name.now)) c.self.view_is
