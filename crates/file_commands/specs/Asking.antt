-- What asking a query of objects comes to: their image is linked in memory, each header that several units share being kept once, and what
-- is printed is the line of that image, then the reply on its world; or a file or the list is refused. This is this project's own.
use Rattle.std.specs.Prelude.{◌≡◌, ◌⊎◌, ◌+◌, ℕ, List, ◌++◌, length}
use Rattle.st_base.specs.declared.fault.Fault.{Fault}
use Rattle.st_base.specs.declared.fault.Refused.TheVariants as refusals
use Rattle.aout_object.specs.Objects.{named_of}
use Rattle.aout_object.specs.Objects.{Contents as Object}
use Rattle.type_graph.specs.declared.world.World.{World}
use Rattle.unit_index.specs.Expanding.{IsExpanded}
use Rattle.query_text.specs.declared.query.Query.{Query}
use Rattle.query_text.specs.Replies as replies
use Rattle.aout_link.specs.Sources.{Source}
use Rattle.aout_link.specs.Linking.{IsLinked, RefusesLink}
use Rattle.aout_link.specs.declared.linking.Image.{Image}
use Rattle.bincl_match.specs.declared.mode.Mode.TheVariants.{Merge}
use Rattle.file_commands.specs.declared.outcome.Outcome.{Outcome}
use Rattle.file_commands.specs.declared.outcome.TheConstants.{DONE}
use Rattle.file_commands.specs.Outcomes.{printed}
use Rattle.file_commands.specs.InputObjects.{OnObjects, OnSources}
use Rattle.file_commands.specs.LinkOutcomes.{image_text, list_outcome}

-- the address at which text ends in an image
abbrev pub end_of : Image → ℕ
end_of image = image.object.parts.entry + length image.object.parts.text

-- the line of an image, and the reply on its world
abbrev pub RepliesOnImage : Query → Image → Outcome → Type 0
RepliesOnImage query image o = (world : World) × IsExpanded (end_of image) (named_of image.object) world
    × (text : List ℕ) × replies.Answers world query text × (o ≡ printed DONE (image_text image ++ text))

-- the reply on the image of sources, whose text begins at address 0; or the list is refused
abbrev pub AsksSources : Query → List Source → Outcome → Type 0
AsksSources query sources o = ((image : Image) × (steps : ℕ) × IsLinked Merge 0 sources 0 steps image × RepliesOnImage query image o)
    ⊎ ((f : Fault) × RefusesLink Merge 0 sources (refusals.At f) × (o ≡ list_outcome sources f))

-- the reply on the image of objects, whose files have these names
abbrev pub AsksObjects : Query → List (List ℕ) → List Object → Outcome → Type 0
AsksObjects query names objects o = OnSources names objects (AsksSources query) o

-- the reply on the image of the objects that files with these names and texts spell
abbrev pub AsksFiles : Query → List (List ℕ) → List (List ℕ) → Outcome → Type 0
AsksFiles query names texts o = OnObjects names texts (AsksObjects query names) o
