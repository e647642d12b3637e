use Rattle.file_commands.proofs.ReplyLemmas.{world_fault}
use Rattle.file_commands.proofs.reading.read_world.Goals as goal

-- the fault of the entries that were named is the object's
pub returns-clause-refused : goal.returns-clause-refused
returns-clause-refused c f told =
    world_fault c.args.object c.in_ok-entries.entries.text_end c.in_ok-entries.entries.named f c.in_ok-entries.ensures.text_end c.in_ok-entries.ensures.named
    (c.expand_entries.ensures.refused f told)
