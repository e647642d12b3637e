use Rattle.aout_link.proofs.SourceLemmas.{lawful_of}
use Rattle.aout_link.proofs.checked.entries_of.Goals as goal

pub returns-clause-lawful : goal.returns-clause-lawful
returns-clause-lawful c =
    lawful_of c.args.object.now c.in_ok-named.named c.in_ok-named.ensures.value c.in_ok-named.ensures.whole c.parts-lawful.ensures.lawful
