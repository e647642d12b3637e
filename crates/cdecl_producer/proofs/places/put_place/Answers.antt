use Rattle.std.proofs.Common.{◌∙◌, ap}
use Rattle.cdecl_producer.specs.Files.{listed}
use Rattle.cdecl_producer.proofs.PlaceLemmas.{insert-listed}
use Rattle.cdecl_producer.proofs.places.put_place.Goals as goal

pub returns : goal.returns
returns c = ap listed c.in_ok-insert.ensures.entries ∙ insert-listed c.args.places.now.entries c.args.name c.args.place
