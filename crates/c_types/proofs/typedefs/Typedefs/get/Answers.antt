use Rattle.std.proofs.Common.{ap, ◌∙◌}
use Rattle.std.specs.Map.{lookup}
use Rattle.std.specs.Str.{bytes_eq}
use Rattle.c_types.proofs.NameLemmas.{lookup-pairs}
use Rattle.c_types.proofs.typedefs.Typedefs.get.Goals as goal

pub returns : goal.returns
returns c =
    c.copied.ensures ∙ c.get.ensures.value ∙ lookup-pairs (bytes_eq c.args.name.now) c.self.inside.map.entries ∙ ap (lookup (bytes_eq c.args.name.now)) c.self.view_is
