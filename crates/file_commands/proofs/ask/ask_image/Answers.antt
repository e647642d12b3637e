use Rattle.std.proofs.Common.{ap, Err}
use Rattle.aout_object.specs.Objects.{named_of}
use Rattle.file_commands.specs.QueryOutcomes.{text_end}
use Rattle.file_commands.proofs.ask.ask_image.Goals as goal

-- an image that has a world has no fault
pub unreachable-requires : goal.unreachable-requires
unreachable-requires c =
    c.one_expansion.ensures.not_both (text_end c.args.image.object) (named_of c.args.image.object) c.requires.0 c.in-Err-At.field-0-0 c.requires.1
    (c.in-Err-At.ensures.refused c.in-Err-At.field-0-0 (ap Err c.in-Err-At.field-0-is))
