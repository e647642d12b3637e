-- What linking files comes to: the image is stored, and a line tells its header ranges and its entries; or a file or the list is
-- refused. After "The stabs debug format", on include files; the lines are this project's own.
use Rattle.std.specs.Prelude.{◌≡◌, ◌⊎◌, ℕ, ◌==◌, ◌||◌, Bool, if◌then◌else◌, List, [], ◌∷◌, ◌++◌, length, slice_get, codes, decimal}
use Rattle.std.specs.Option.{option_map_or}
use Rattle.st_base.specs.declared.fault.Fault.{Fault}
use Rattle.st_base.specs.declared.fault.Refused.TheVariants as refusals
use Rattle.st_base.specs.declared.fault.TheConstants.{UNDEFINED, TWICE, TOO_LARGE}
use Rattle.nlist_codec.specs.declared.named.Named.{Named}
use Rattle.aout_object.specs.Objects.{file_of}
use Rattle.aout_object.specs.Objects.{Contents as Object}
use Rattle.aout_link.specs.Sources.{Source}
use Rattle.aout_link.specs.Linking.{IsLinked, RefusesLink}
use Rattle.aout_link.specs.declared.linking.Image.{Image}
use Rattle.bincl_match.specs.declared.mode.Mode.{Mode}
use Rattle.file_commands.specs.declared.outcome.Outcome.{Outcome}
use Rattle.file_commands.specs.Outcomes.{limit, list_refused, list_refused_at, kept_with}
use Rattle.file_commands.specs.InputObjects.{OnObjects, OnSources}

-- `ranges R kept K entries E`: the header ranges of the image, those that are kept, and its entries
abbrev pub image_text : Image → List ℕ
image_text image =
    (codes "ranges " ++ decimal image.ranges ++ codes " kept " ++ decimal image.kept)
    ++ codes " entries " ++ decimal (length image.object.entries) ++ 10 ∷ []

-- the file of an image is stored, and its line printed
abbrev pub kept_image : List ℕ → Image → Outcome
kept_image out image = kept_with out (file_of image.object) (image_text image)

-- ---- refusals of a list

-- the name of the entry at a place; empty where there is none
abbrev pub name_in : List Named → ℕ → List ℕ
name_in named at = option_map_or (λ n. n.name) (slice_get named at) []

-- the name of the entry that a fault is about, which is that entry of the source at the place of the fault
abbrev pub entry_name : List Source → Fault → List ℕ
entry_name sources f = option_map_or (λ s. name_in s.named f.within) (slice_get sources f.place) []

-- the fault is about the name of an entry
abbrev pub is_about_name : Fault → Bool
is_about_name f = f.number == UNDEFINED || f.number == TWICE

-- the line of a fault of a list: a limit that is passed, or the fault, with the name that it is about
abbrev pub list_outcome : List Source → Fault → Outcome
list_outcome sources f =
    if f.number == TOO_LARGE then limit f.place else (if is_about_name f then list_refused_at f (entry_name sources f) else list_refused f)

-- ---- linking

-- the image of sources is stored under a name, or the list is refused
abbrev pub LinksSources : Mode → ℕ → List ℕ → List Source → Outcome → Type 0
LinksSources mode base out sources o = ((image : Image) × (steps : ℕ) × IsLinked mode base sources 0 steps image × (o ≡ kept_image out image))
    ⊎ ((f : Fault) × RefusesLink mode base sources (refusals.At f) × (o ≡ list_outcome sources f))

-- the image of objects, whose files have these names
abbrev pub LinksObjects : Mode → ℕ → List ℕ → List (List ℕ) → List Object → Outcome → Type 0
LinksObjects mode base out names objects o = OnSources names objects (LinksSources mode base out) o

-- the image of the objects that files with these names and texts spell
abbrev pub LinksFiles : Mode → ℕ → List ℕ → List (List ℕ) → List (List ℕ) → Outcome → Type 0
LinksFiles mode base out names texts o = OnObjects names texts (LinksObjects mode base out names) o
