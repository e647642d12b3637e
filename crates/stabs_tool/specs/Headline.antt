-- What linking promises, in one sentence: for every accepted list of objects within the stated limits, linking stores an image, unless
-- memory is refused or a load or the store fails, in which exactly the first header range of each greatest matching class is kept; and
-- every type, scope and line query on those image bytes is answered as the units of the unmerged objects define. With `keep` every range
-- is kept instead. And asking a query of such a list tells the image that merging makes of it, and the reply on those same units. The
-- record `Headline` says it, and is a clause of every run; which lists are accepted, and what their images are, stands in
-- `file_commands/specs/ListImages.antt`. That images are kept this way is this project's own.
use Rattle.std.specs.Prelude.{◌≡◌, ◌⊎◌, ℕ, List, Option, Some}
use Rattle.std.specs.FinMap.{insert}
use Rattle.outside.specs.Causes.{Contents, Rose}
use Rattle.query_text.specs.declared.query.Query.{Query}
use Rattle.bincl_match.specs.declared.mode.Mode.{Mode}
use Rattle.bincl_match.specs.declared.mode.Mode.TheVariants.{Merge}
use Rattle.command_line.specs.declared.command.Asked.TheVariants as asks
use Rattle.command_line.specs.declared.command.Command.TheVariants as commands
use Rattle.file_commands.specs.declared.outcome.TheConstants.{DONE, READ_FAULT, WRITE_FAULT, NO_MEMORY}
use Rattle.file_commands.specs.RunCauses.{FilesSeen, Gained}
use Rattle.command_line.specs.Commands.{asked}
use Rattle.file_commands.specs.ListImages.{IsAcceptedList, IsImageFile, IsAskedOf}

-- ---- what is stored, and what is told

-- the file of the image of that list was stored under the name `out`: after the run the files, `h`, hold it, and all else as `m` holds it
abbrev pub StoresImage : Mode → ℕ → List ℕ → List (List ℕ) → Contents → FilesSeen → Type 0
StoresImage mode base out names m h = (bytes : List ℕ) × IsImageFile mode base names m bytes × (h.held ≡ Some (insert m out bytes))

-- a sink has gained a text that answers this query of that list
abbrev pub TellsImage : List (List ℕ) → Query → Contents → Option (List ℕ) → Option (List ℕ) → Type 0
TellsImage names query m old new = (text : List ℕ) × IsAskedOf names query m text × Gained old new text

-- ---- the sentence

-- the words ask to link the files with these names in this mode, with text from this address on, and to store the image under the name
-- `out`; the files tell what they hold, which is m
pub record AsksToLink (words : List (List ℕ)) (f : FilesSeen) (mode : Mode) (base : ℕ) (out : List ℕ) (names : List (List ℕ)) (m : Contents) : Type 0 where
  pub command : asked words ≡ asks.Command (commands.Link mode base out names)
  pub tells : f.held ≡ Some m

-- the words ask a query of the files with these names; the files tell what they hold, which is m
pub record AsksOfList (words : List (List ℕ)) (f : FilesSeen) (names : List (List ℕ)) (query : Query) (m : Contents) : Type 0 where
  pub command : asked words ≡ asks.Command (commands.Ask names query)
  pub tells : f.held ≡ Some m

-- why a run with an accepted list may end with another status than 0: no memory, or a read, the store or the print failed
abbrev pub IsStopped : FilesSeen → FilesSeen → ℕ → ℕ → ℕ → Type 0
IsStopped f h before now result =
    (result ≡ NO_MEMORY) ⊎ (((result ≡ READ_FAULT) × Rose f.loads h.loads) ⊎ ((result ≡ WRITE_FAULT) × (Rose before now ⊎ Rose f.stores h.stores)))

-- of a run with these words: the files are f before it and h after it, the sink has `old` bytes and `before` failed puts before it, `new` and
-- `now` after it, and `result` is the status
pub record Headline (words : List (List ℕ)) (f h : FilesSeen) (old new : Option (List ℕ)) (before now result : ℕ) : Type 0 where
  -- an accepted list is linked: its image is stored, unless memory is refused or a load or the store fails
  pub stores : (mode : Mode) (base : ℕ) (out : List ℕ) (names : List (List ℕ)) (m : Contents) → AsksToLink words f mode base out names m
      → IsAcceptedList mode base names m → ¬ (Rose f.loads h.loads) → ¬ (Rose f.stores h.stores) → (result ≡ NO_MEMORY) ⊎ StoresImage mode base out names m h
  -- then the run ends with status 0, unless memory is refused, or a load, the store or the print fails
  pub ends : (mode : Mode) (base : ℕ) (out : List ℕ) (names : List (List ℕ)) (m : Contents) → AsksToLink words f mode base out names m
      → IsAcceptedList mode base names m → (result ≡ DONE) ⊎ IsStopped f h before now result
  -- wherever linking ends with status 0, the image of the list is stored, whatever failed before
  pub stored : (mode : Mode) (base : ℕ) (out : List ℕ) (names : List (List ℕ)) (m : Contents) → AsksToLink words f mode base out names m
      → result ≡ DONE → StoresImage mode base out names m h
  -- a query of an accepted list is answered with status 0, unless memory is refused or a load or the print fails
  pub replies : (names : List (List ℕ)) (query : Query) (m : Contents) → AsksOfList words f names query m → IsAcceptedList Merge 0 names m
      → (result ≡ DONE) ⊎ IsStopped f h before now result
  -- wherever a query ends with status 0, the line of the image was printed, and then the reply on the world of the placed entries
  pub told : (names : List (List ℕ)) (query : Query) (m : Contents) → AsksOfList words f names query m → result ≡ DONE → TellsImage names query m old new
