use Rattle.std.proofs.Common.{◌∙◌}
use Rattle.aout_link.proofs.NameLemmas.{lookup-listed}
use Rattle.aout_link.proofs.definitions.find.Goals as goal

pub returns : goal.returns
returns c = c.copied.ensures ∙ (c.get.ensures.value ∙ lookup-listed c.args.name.now c.args.table.now.entries)
