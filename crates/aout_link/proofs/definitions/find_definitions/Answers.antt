use Rattle.std.proofs.Common.{◌∙◌, take}
use Rattle.aout_link.specs.Answering.{listed}
use Rattle.aout_link.specs.NameTables.{entries_of}
use Rattle.aout_link.proofs.DefinitionLemmas.{found_err}
use Rattle.aout_link.proofs.definitions.find_definitions.Goals as goal

pub returns-in-Err : goal.returns-in-Err
returns-in-Err c =
    found_err c.args.moves.now c.args.objects.now c.loop-at.at c.index-objects-at.result c.items.result.now (listed c.loop-at.table.entries) c.in-Err.why
    c.loop-at-test.true c.index-objects-at.is (c.items.ensures ∙ c.named.ensures) (c.in-Err.ensures (entries_of (take c.loop-at.at c.args.objects.now)) c.loop-at.invariant.tells) c.loop-at.invariant
