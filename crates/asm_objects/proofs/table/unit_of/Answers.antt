use Rattle.asm_objects.proofs.PlaceLemmas.{power_small}
use Rattle.asm_objects.proofs.table.unit_of.Goals as goal

pub returns-then-power-le-GREATEST_POWER-clause-small : goal.returns-then-power-le-GREATEST_POWER-clause-small
returns-then-power-le-GREATEST_POWER-clause-small c = power_small c.args.power c.if-power-le-GREATEST_POWER.true
