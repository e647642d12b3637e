use Rattle.asm_objects.proofs.GivenLemmas.{object_made}
use Rattle.asm_objects.proofs.laws.making_laws.Goals as goal

pub returns : goal.returns
returns c = record { made = object_made }
