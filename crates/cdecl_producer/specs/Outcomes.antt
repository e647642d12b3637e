-- What the given files come to: the text of a unit, or the first fault.
use Rattle.std.specs.Prelude.{◌≡◌, ℕ, List, [], ◌∷◌, Option, Some, None, Result, Ok, Err, map}
use Rattle.st_base.specs.declared.fault.Fault.{Fault}
use Rattle.st_base.specs.declared.fault.Refused.{Refused}
use Rattle.st_base.specs.declared.fault.Refused.TheVariants.{At, Memory}
use Rattle.c_tokens.specs.Tokens.{Token}
use Rattle.c_tokens.specs.Scanning.{tokens}
use Rattle.c_items.specs.Trees.{Item, BeginsWith}
use Rattle.c_units.specs.declared.draft.Draft.{Draft}
use Rattle.c_units.specs.Files.{begun, finished}
use Rattle.cdecl_producer.specs.declared.source.Source.{Source}
use Rattle.cdecl_producer.specs.declared.source.Progress.TheVariants.{Unread, Open}
use Rattle.cdecl_producer.specs.declared.reading.Reading.{Reading}
use Rattle.cdecl_producer.specs.Files.{Meaning, Wanted, Reads}

-- items in front of the same tokens mean the same
abbrev pub OneMeaning : Meaning → Type 0
OneMeaning means = (ts us vs : List Token) (it jt : Item) (d : Draft) → BeginsWith ts it us → BeginsWith ts jt vs → means it d ≡ means jt d

-- before the first token of the main source
abbrev pub started : Source → List Source → Reading
started main headers = record { draft = begun main.name; progress = Open ∷ map (λ f. Unread) headers }

-- the given files, of which the first is the main source, are read to this outcome
abbrev pub Comes : Meaning → List Source → Result Reading Fault → Type 0
Comes means [] o = ⊥
Comes means (main ∷ headers) o = Reads means (main ∷ headers) (tokens main.text) (started main headers) o

-- the given files come to the text of a unit, or to a fault
abbrev pub Produces : Meaning → List Source → Result (List ℕ) Fault → Type 0
Produces means files (Ok text) = (s : Reading) × Comes means files (Ok s) × (text ≡ finished s.draft)
Produces means files (Err f) = Comes means files (Err f)

-- ---- what calls answer, where memory does not run out

-- the reading is now what the files come to; a fault is theirs
abbrev pub Reached : Meaning → List Source → List Token → Reading → Result Reading Refused → Type 0
Reached means files ts s (Ok s') = Reads means files ts s (Ok s')
Reached means files ts s (Err (At f)) = Reads means files ts s (Err f)
Reached means files ts s (Err Memory) = Unit {0}

-- an include: a header was begun whose place is told, or nothing was done, or the fault is the include's
abbrev pub Includes : Wanted → Reading → Reading → Result (Option ℕ) Refused → Type 0
Includes wanted old new (Ok (Some place)) = wanted ≡ Ok (Some (record { place = place; reading = new }))
Includes wanted old new (Ok None) = (wanted ≡ Ok None) × (new ≡ old)
Includes wanted old new (Err (At f)) = wanted ≡ Err f
Includes wanted old new (Err Memory) = Unit {0}

-- the text is what the files come to, or the fault is
abbrev pub Produced : Meaning → List Source → Result (List ℕ) Refused → Type 0
Produced means files (Ok text) = Produces means files (Ok text)
Produced means files (Err (At f)) = Produces means files (Err f)
Produced means files (Err Memory) = Unit {0}
