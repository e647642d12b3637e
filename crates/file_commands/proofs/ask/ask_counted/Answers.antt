use Rattle.bincl_match.specs.declared.mode.Mode.TheVariants.{Merge}
use Rattle.file_commands.proofs.ImageWorld.{has_world}
use Rattle.file_commands.proofs.ask.ask_counted.Goals as goal

-- an image that is linked has a world
pub ask_image-requires : goal.ask_image-requires
ask_image-requires g c = has_world Merge 0 _ _ _ c.in-Ok.image c.in-Ok.ensures.links
