-- The image of a list has the world of what is placed, in each mode: its grouping is a merging.
use Rattle.std.proofs.Common.{ℕ, List}
use Rattle.nlist_codec.specs.declared.named.Named.{Named}
use Rattle.type_graph.specs.Worlds.{IsWorldOf}
use Rattle.type_graph.specs.declared.world.World.{World}
use Rattle.bincl_match.specs.declared.range.Grouping.{Grouping}
use Rattle.bincl_match.specs.declared.range.RangeOf.{RangeOf}
use Rattle.bincl_match.specs.Instances.{IsAlone}
use Rattle.bincl_match.specs.Lawful.{IsLawful}
use Rattle.bincl_match.specs.Matching.{AreClasses}
use Rattle.bincl_match.specs.Merging.{IsMerging}
use Rattle.bincl_match.specs.Ranges.{AreRanges}
use Rattle.unit_index.specs.Expanding.{IsExpanded}
use Rattle.header_merge.specs.Merged.{merged}
use Rattle.aout_link.specs.Linking.{IsGroupingOf, KeepsWorld}
use Rattle.bincl_match.specs.declared.mode.Mode.{Mode}
use Rattle.bincl_match.specs.declared.mode.Mode.TheVariants.{Keep, Merge}

-- by the laws of merging
module _
    (lawful : (end : ℕ) (entries : List Named) (ranges : List RangeOf) → AreRanges end entries ranges → IsLawful ranges)
    (alone : (ranges : List RangeOf) (g : Grouping) → IsLawful ranges → IsAlone ranges g → IsMerging ranges g)
    (classes : (ranges : List RangeOf) (g : Grouping) → IsLawful ranges → AreClasses ranges g → IsMerging ranges g)
    (merged_world : (end : ℕ) (entries : List Named) (ranges : List RangeOf) (g : Grouping) (world : World)
    → AreRanges end entries ranges → IsMerging ranges g → IsWorldOf end entries world → IsExpanded end (merged g entries) world)
  where
    -- the grouping of a mode is a merging
    merging : (mode : Mode) (ranges : List RangeOf) (g : Grouping) → IsLawful ranges → IsGroupingOf mode ranges g → IsMerging ranges g
    merging Keep ranges g is grouped = alone ranges g is grouped
    merging Merge ranges g is grouped = classes ranges g is grouped

    -- the entries of the image have the world of what is placed
    pub world_kept : (mode : Mode) (end : ℕ) (entries : List Named) (ranges : List RangeOf) (g : Grouping) → AreRanges end entries ranges → IsGroupingOf mode ranges g
        → KeepsWorld end entries (merged g entries)
    world_kept mode end entries ranges g are grouped = λ world is. merged_world end entries ranges g world are (merging mode ranges g (lawful end entries ranges are) grouped) is
