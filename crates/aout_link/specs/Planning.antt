-- In which words the private calls of linking answer: what is found of entries before an image is made, and the image by itself.
use Rattle.std.specs.Prelude.{◌≡◌, ℕ, List, None, Result, Ok, Err}
use Rattle.st_base.specs.declared.fault.Refused.{Refused}
use Rattle.nlist_codec.specs.declared.named.Named.{Named}
use Rattle.bincl_match.specs.Ranges.{AreRanges}
use Rattle.bincl_match.specs.declared.range.RangeOf.{RangeOf}
use Rattle.bincl_match.specs.declared.range.Grouping.{Grouping}
use Rattle.aout_link.specs.ImageMaking.{size_fault}
use Rattle.aout_link.specs.Refusals.{Refuses}
use Rattle.aout_link.specs.Linking.{IsGroupingOf, IsImageOf, image_placed}
use Rattle.aout_link.specs.declared.placed.Placed.{Placed}
use Rattle.aout_link.specs.declared.linking.Image.{Image}
use Rattle.bincl_match.specs.declared.mode.Mode.{Mode}

-- the ranges of these entries, grouped as the mode says
pub record IsGrouped (mode : Mode) (end : ℕ) (entries : List Named) (g : Grouping) : Type 0 where
  pub ranges : List RangeOf
  pub are : AreRanges end entries ranges
  pub grouped : IsGroupingOf mode ranges g

-- what a call answers that makes the image of what is placed, whose ranges are grouped so
abbrev pub Makes : Placed → Grouping → Result Image Refused → Type 0
Makes p g (Ok image) = (size_fault (image_placed g p) ≡ None) × IsImageOf p g image
Makes p g (Err why) = Refuses (size_fault (image_placed g p)) why
