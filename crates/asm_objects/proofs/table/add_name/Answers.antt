use Rattle.asm_objects.proofs.PlaceLemmas.{offsets-used}
use Rattle.asm_objects.proofs.table.add_name.Goals as goal

pub returns-clause-fits : goal.returns-clause-fits
returns-clause-fits c = offsets-used c.args.names.now c.add.new.self c.args.name.now c.args.definition c.in_ok-add.ensures.ok c.requires
