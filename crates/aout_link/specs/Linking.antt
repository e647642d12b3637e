-- What linking makes of a list of objects: an image of what is placed of them, in which a header range is kept or has another one kept for
-- it. After "The stabs debug format", on include files; which ranges are one, and the order of refusals, are this project's own.
use Rattle.std.specs.Prelude.{◌≡◌, ◌⊎◌, ℕ, ◌+◌, ◌==◌, cond, List, [], ◌∷◌, length, Some, None, Result, Ok, Err}
use Rattle.st_base.specs.declared.fault.Fault.{Fault}
use Rattle.st_base.specs.declared.fault.Refused.{Refused}
use Rattle.st_base.specs.declared.fault.Refused.TheVariants as refused
use Rattle.nlist_codec.specs.declared.named.Named.{Named}
use Rattle.aout_object.specs.Objects.{named_of}
use Rattle.type_graph.specs.Worlds.{IsWorldOf}
use Rattle.type_graph.specs.declared.world.World.{World}
use Rattle.bincl_match.specs.Instances.{IsAlone}
use Rattle.bincl_match.specs.Matching.{AreClasses}
use Rattle.bincl_match.specs.Ranges.{AreRanges}
use Rattle.bincl_match.specs.declared.range.RangeOf.{RangeOf}
use Rattle.bincl_match.specs.declared.range.Grouping.{Grouping}
use Rattle.unit_index.specs.Expanding.{IsExpanded}
use Rattle.header_merge.specs.Merged.{merged}
use Rattle.aout_link.specs.Sources.{Source}
use Rattle.aout_link.specs.Placing.{IsPlaced}
use Rattle.aout_link.specs.Refusals.{list_fault}
use Rattle.aout_link.specs.ImageMaking.{image_of, size_fault}
use Rattle.aout_link.specs.declared.placed.Placed.{Placed}
use Rattle.aout_link.specs.declared.linking.Image.{Image}
use Rattle.bincl_match.specs.declared.mode.Mode.{Mode}
use Rattle.bincl_match.specs.declared.mode.Mode.TheVariants.{Keep, Merge}

-- ---- which ranges are kept

-- where text ends in the image
abbrev pub image_end : Placed → ℕ
image_end p = p.entry + length p.text

-- the ranges are grouped as the mode says: each is kept, or exactly the first of each class of the greatest matching
abbrev pub IsGroupingOf : Mode → List RangeOf → Grouping → Type 0
IsGroupingOf Keep ranges g = IsAlone ranges g
IsGroupingOf Merge ranges g = AreClasses ranges g

-- how many of these ranges, the first at this place, are kept for themselves
abbrev pub kept_from : ℕ → List ℕ → ℕ
kept_from place [] = 0
kept_from place (k ∷ ks) = cond (k == place) 1 0 + kept_from (place + 1) ks

-- objects are accepted; this is placed of them, and this is the grouping of its ranges
pub record IsPlanned (mode : Mode) (base : ℕ) (os : List Source) (p : Placed) (g : Grouping) : Type 0 where
  pub no_fault : list_fault base os ≡ None
  pub is_placed : IsPlaced base os p
  pub ranges : List RangeOf
  pub are : AreRanges (image_end p) p.named ranges
  pub grouped : IsGroupingOf mode ranges g

-- ---- the image

-- what is placed, with the entries of the image; all else stays
abbrev pub image_placed : Grouping → Placed → Placed
image_placed g p = record {
  order = p.order;
  machine = p.machine;
  entry = p.entry;
  text = p.text;
  data_part = p.data_part;
  bss = p.bss;
  named = merged g p.named;
}

-- the image of what is placed, whose ranges are grouped so
pub record IsImageOf (p : Placed) (g : Grouping) (image : Image) : Type 0 where
  pub made : image.object ≡ image_of (image_placed g p)
  pub named : named_of image.object ≡ merged g p.named
  pub ranges : image.ranges ≡ length g.kept
  pub kept : image.kept ≡ kept_from 0 g.kept

-- whatever world the placed entries have, the image's have it, the excluded headers filled in; text ends at this address in both
abbrev pub KeepsWorld : ℕ → List Named → List Named → Type 0
KeepsWorld end entries others = (world : World) → IsWorldOf end entries world → IsExpanded end others world

-- ---- linking

-- an image of objects: it fits a file, its world is that of what is placed, and `new` steps are as many as `old`, since no string is parsed
pub record IsLinked (mode : Mode) (base : ℕ) (os : List Source) (old new : ℕ) (image : Image) : Type 0 where
  pub placed : Placed
  pub grouping : Grouping
  pub planned : IsPlanned mode base os placed grouping
  pub fits : size_fault (image_placed grouping placed) ≡ None
  pub is : IsImageOf placed grouping image
  pub world : KeepsWorld (image_end placed) placed.named (named_of image.object)
  pub taken : new ≡ old

-- objects are accepted, and their image has this fault of its size
abbrev pub HasSizeFault : Mode → ℕ → List Source → Fault → Type 0
HasSizeFault mode base os f = (p : Placed) × (g : Grouping) × IsPlanned mode base os p g × (size_fault (image_placed g p) ≡ Some f)

-- a refusal of objects: for the first fault of the list, or else for the size of the image; out of memory is free
abbrev pub RefusesLink : Mode → ℕ → List Source → Refused → Type 0
RefusesLink mode base os refused.Memory = Unit {0}
RefusesLink mode base os (refused.At f) = (list_fault base os ≡ Some f) ⊎ HasSizeFault mode base os f

-- what linking answers
abbrev pub Links : Mode → ℕ → List Source → ℕ → ℕ → Result Image Refused → Type 0
Links mode base os old new (Ok image) = IsLinked mode base os old new image
Links mode base os old new (Err why) = RefusesLink mode base os why
