use Rattle.file_commands.proofs.WorldLemmas.{few_if_read}
use Rattle.file_commands.proofs.reading.expand_counted.Goals as goal

-- a world has no more units than its entries
pub returns-clause-few : goal.returns-clause-few
returns-clause-few g c = few_if_read c.args.entries.now.text_end c.args.entries.now.named c.expand.result c.requires.few c.expand.ensures.found
