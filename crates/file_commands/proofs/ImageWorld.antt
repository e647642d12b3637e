-- The image of a list has a world: that of the placed entries, as they were before headers were merged.
use Rattle.std.proofs.Common.{◌≡◌, ℕ, List, refl, sym, ap, subst}
use Rattle.aout_object.specs.Objects.{named_of}
use Rattle.type_graph.specs.declared.world.World.{World}
use Rattle.type_graph.specs.Worlds.{IsWorldOf, externals_of}
use Rattle.unit_index.specs.Expanding.{IsExpanded}
use Rattle.aout_link.specs.Sources.{Source}
use Rattle.aout_link.specs.Linking.{IsLinked, image_end}
use Rattle.aout_link.specs.declared.linking.Image.{Image}
use Rattle.bincl_match.specs.declared.mode.Mode.{Mode}
use Rattle.file_commands.specs.Asking.{end_of}
use Rattle.file_commands.specs.QueryOutcomes.{text_end}

module _ (mode : Mode) (base : ℕ) (os : List Source) (old new : ℕ) (image : Image) (linked : IsLinked mode base os old new image) where
  -- the units and the externals of the placed entries
  abbrev pub placed_world : World
  placed_world = record { units = linked.planned.are.units; externals = externals_of linked.placed.named }

  pub is_placed_world : IsWorldOf (image_end linked.placed) linked.placed.named placed_world
  is_placed_world = record { units = linked.planned.are.are_units; externals = refl }

  -- text ends there in the image too
  same_end : end_of image ≡ image_end linked.placed
  same_end = ap text_end linked.is.made

  pub is_image_world : IsExpanded (end_of image) (named_of image.object) placed_world
  is_image_world = subst (λ (end : ℕ). IsExpanded end (named_of image.object) placed_world) (sym same_end) (linked.world placed_world is_placed_world)

  -- an image that is linked has a world
  pub has_world : (world : World) × IsExpanded (end_of image) (named_of image.object) world
  has_world = (placed_world, is_image_world)
