use Rattle.std.proofs.Common.{◌∙◌}
use Rattle.cdecl_producer.proofs.PlaceLemmas.{lookup-listed}
use Rattle.cdecl_producer.proofs.places.find_place.Goals as goal

pub returns : goal.returns
returns c = c.copied.ensures ∙ (c.get.ensures.value ∙ lookup-listed c.args.name.now c.args.places.now.entries)
