-- Which lists of object files are accepted, what the image of such a list is, and which bytes are the file of that image. The image has
-- what is placed of the objects, and of their header ranges those that the mode keeps. Every query on its file is answered as the units of
-- the unmerged objects define. That images are kept this way is this project's own.
use Rattle.std.specs.Prelude.{◌≡◌, ◌↔◌, ℕ, List, ◌++◌, Some, None}
use Rattle.std.specs.FinMap.{get}
use Rattle.outside.specs.Causes.{Contents}
use Rattle.st_base.specs.declared.sizes.TheConstants.{FILE_LIMIT}
use Rattle.aout_object.specs.Objects.{ObjectSpells, named_of}
use Rattle.aout_object.specs.Objects.{Contents as Object}
use Rattle.type_graph.specs.declared.world.World.{World}
use Rattle.type_graph.specs.Worlds.{IsWorldOf}
use Rattle.bincl_match.specs.Ranges.{AreRanges}
use Rattle.bincl_match.specs.declared.range.RangeOf.{RangeOf}
use Rattle.bincl_match.specs.declared.range.Grouping.{Grouping}
use Rattle.header_merge.specs.Merged.{merged}
use Rattle.query_text.specs.declared.query.Query.{Query}
use Rattle.query_text.specs.Replies as replies
use Rattle.aout_link.specs.Accepted.{Accepted}
use Rattle.aout_link.specs.Linking.{IsGroupingOf, IsLinked, IsPlanned, image_end, image_placed}
use Rattle.aout_link.specs.ImageMaking.{size_fault}
use Rattle.aout_link.specs.Placing.{IsPlaced}
use Rattle.aout_link.specs.Sources.{Source}
use Rattle.aout_link.specs.declared.linking.Image.{Image}
use Rattle.bincl_match.specs.declared.mode.Mode.{Mode}
use Rattle.bincl_match.specs.declared.mode.Mode.TheVariants.{Merge}
use Rattle.aout_link.specs.declared.placed.Placed.{Placed}
use Rattle.command_line.specs.declared.command.Asked.TheVariants as asks
use Rattle.command_line.specs.declared.command.Command.TheVariants as commands
use Rattle.file_commands.specs.declared.inputs.Inputs.TheVariants.{All}
use Rattle.command_line.specs.declared.limits.TheConstants.{OBJECT_LIMIT}
use Rattle.file_commands.specs.declared.outcome.Outcome.{Outcome}
use Rattle.command_line.specs.Commands.{asked}
use Rattle.file_commands.specs.Inputs.{loaded_inputs}
use Rattle.file_commands.specs.InputObjects.{Each, Spells, IsSource}
use Rattle.file_commands.specs.LinkOutcomes.{image_text}
use Rattle.file_commands.specs.QueryOutcomes.{IsOutcome, RepliesOnWorld}

-- ---- queries of an image

-- whatever else the files hold: a query on a file with these bytes has exactly one outcome, the reply on this world
abbrev pub AnswersAsWorld : List ℕ → World → Type 0
AnswersAsWorld bytes world = (words : List (List ℕ)) (m : Contents) (file : List ℕ) (query : Query) (o : Outcome)
    → asked words ≡ asks.Command (commands.Query file query) → get m file ≡ Some bytes → (IsOutcome words m o ↔ RepliesOnWorld query world o)

-- ---- lists of objects

-- these are the sources of the files with these names, in order: each file is there and is loaded, its text spells an object, and the
-- entries of the object have units
pub record AreSources (m : Contents) (names : List (List ℕ)) (sources : List Source) : Type 0 where
  pub texts : List (List ℕ)
  pub loaded : loaded_inputs m OBJECT_LIMIT FILE_LIMIT names ≡ All texts
  pub objects : List Object
  pub spelled : Each Spells texts objects
  pub are : Each IsSource objects sources

-- the list of files with these names is accepted: the files have sources, these are accepted, and the image that is linked of them, with
-- text from this address on, fits a file
pub record IsAcceptedList (mode : Mode) (base : ℕ) (names : List (List ℕ)) (m : Contents) : Type 0 where
  pub sources : List Source
  pub are : AreSources m names sources
  pub accepted : Accepted base sources
  pub fits : (placed : Placed) (grouping : Grouping) → IsPlanned mode base sources placed grouping → size_fault (image_placed grouping placed) ≡ None

-- ---- images of lists

-- this is the image of that list. Its entries are those placed of the objects, without those of header ranges that are not kept. The mode
-- says which are kept: every range, or exactly the first of each greatest matching class. The world has the units and the externals of the
-- placed entries, before any range is left out
pub record IsListImage (mode : Mode) (base : ℕ) (names : List (List ℕ)) (m : Contents) (image : Image) (world : World) : Type 0 where
  pub sources : List Source
  pub are : AreSources m names sources
  pub steps : ℕ
  pub linked : IsLinked mode base sources 0 steps image
  pub placed : Placed
  pub is_placed : IsPlaced base sources placed
  pub ranges : List RangeOf
  pub are_ranges : AreRanges (image_end placed) placed.named ranges
  pub grouping : Grouping
  pub grouped : IsGroupingOf mode ranges grouping
  pub entries : named_of image.object ≡ merged grouping placed.named
  pub is_world : IsWorldOf (image_end placed) placed.named world

-- these bytes are the file of the image of that list, and every query on a file that holds them is answered as on the world of the placed
-- entries
pub record IsImageFile (mode : Mode) (base : ℕ) (names : List (List ℕ)) (m : Contents) (bytes : List ℕ) : Type 0 where
  pub image : Image
  pub world : World
  pub is : IsListImage mode base names m image world
  pub spells : ObjectSpells image.object bytes
  pub answers : AnswersAsWorld bytes world

-- this text answers a query of that list: the line that tells the image which merging makes of it, and then the reply on the world of
-- the placed entries
pub record IsAskedOf (names : List (List ℕ)) (query : Query) (m : Contents) (text : List ℕ) : Type 0 where
  pub image : Image
  pub world : World
  pub is : IsListImage Merge 0 names m image world
  pub reply : List ℕ
  pub answers : replies.Answers world query reply
  pub lines : text ≡ image_text image ++ reply
