-- How the files of a unit are read, in reading order: to a draft of the unit, or to the first fault. One rule for each thing that may
-- stand in front of the tokens that are left of a file.
use Rattle.std.specs.Prelude.{◌≡◌, ℕ, List, [], ◌∷◌, Option, Some, None, Result, Ok, Err, map, slice_get, slice_set, ◌⊎◌}
use Rattle.std.specs.Borrow.{Bor}
use Rattle.std.specs.List.{position_from}
use Rattle.std.specs.Str.{bytes_eq}
use Rattle.st_base.specs.declared.fault.Fault.{Fault}
use Rattle.st_base.specs.declared.fault.TheConstants.{C_SYNTAX, C_UNKNOWN, C_CYCLE}
use Rattle.c_tokens.specs.Tokens.{Info, Token}
use Rattle.c_tokens.specs.Scanning.{tokens}
use Rattle.c_items.specs.Trees.{Item, BeginsWith}
use Rattle.c_units.specs.declared.draft.Draft.{Draft}
use Rattle.c_units.specs.Drafts.{fault}
use Rattle.c_units.specs.Files.{enter, leave}
use Rattle.cdecl_producer.specs.declared.source.Source.{Source}
use Rattle.cdecl_producer.specs.declared.source.Progress.{Progress}
use Rattle.cdecl_producer.specs.declared.source.Progress.TheVariants.{Unread, Open, Done}
use Rattle.cdecl_producer.specs.declared.reading.Reading.{Reading}

-- what an item makes of a draft, or its fault
abbrev pub Meaning : Type 0
Meaning = Item → Draft → Result Draft Fault

-- the place of the first given file of a name
abbrev pub place_of : List ℕ → List Source → Option ℕ
place_of name files = position_from (bytes_eq name) 0 (map (λ f. f.name) files)

-- the entries of a map whose keys are borrowed, with the bytes that the keys show
abbrev pub listed : List (Bor (List ℕ) × ℕ) → List (List ℕ × ℕ)
listed entries = map (λ e. (e.0.now, e.1)) entries

-- the tokens of a given file, none where there is no file
abbrev pub tokens_in : Option Source → List Token
tokens_in None = []
tokens_in (Some file) = tokens file.text

abbrev pub tokens_at : ℕ → List Source → List Token
tokens_at place files = tokens_in (slice_get files place)

-- ---- includes

-- a header that begins: its place among the given files, and the reading before its first token
pub record Header : Type 0 where
  pub place : ℕ
  pub reading : Reading

-- what an include comes to: a header to be read, nothing, or a fault
abbrev pub Wanted : Type 0
Wanted = Result (Option Header) Fault

-- the header at a place, with the draft where it has begun
abbrev pub header_at : ℕ → List Progress → Result Draft Fault → Wanted
header_at place progress (Ok draft) = Ok (Some (record { place = place; reading = record { draft = draft; progress = slice_set progress place Open } }))
header_at place progress (Err wrong) = Err wrong

-- an include on a line, of the file at a place and of this name, which was read so far: one that is being read would include itself, and
-- one that was read gives nothing more
abbrev pub wanted_of : List ℕ → ℕ → Reading → ℕ → Option Progress → Wanted
wanted_of name line s place None = Err (fault C_UNKNOWN line s.draft)
wanted_of name line s place (Some Open) = Err (fault C_CYCLE line s.draft)
wanted_of name line s place (Some Done) = Ok None
wanted_of name line s place (Some Unread) = header_at place s.progress (enter place name line s.draft)

-- an include on a line, of the file of this name, which stands at a place if it is given
abbrev pub wanted_at : List ℕ → ℕ → Reading → Option ℕ → Wanted
wanted_at name line s None = Err (fault C_UNKNOWN line s.draft)
wanted_at name line s (Some place) = wanted_of name line s place (slice_get s.progress place)

-- what the include that says this comes to
unfoldable pub wanted : List Source → Info → Reading → Wanted
wanted files i s = wanted_at i.text i.line s (place_of i.text files)

-- the header at a place ends, and the file around it goes on
unfoldable pub left : ℕ → Reading → Reading
left place s = record { draft = leave s.draft; progress = slice_set s.progress place Done }

-- ---- reading

-- an item that is no include
abbrev pub IsDeclaration : Item → Type 0
IsDeclaration (Item.include i) = ⊥
IsDeclaration _ = Unit {0}

-- no item stands in front
abbrev pub NoItem : List Token → Type 0
NoItem ts = (it : Item) (us : List Token) → BeginsWith ts it us → ⊥

-- what the tokens that are left of a file come to: nothing is left; no item stands in front; a declaration, or its fault; an include that
-- has a fault; one of a file that was read; a header that is read to its end, and what is behind it; a header with a fault in it
pub data Reads (means : Meaning) (files : List Source) : List Token → Reading → Result Reading Fault → Type 0 where
  ended : (s : Reading) → Reads means files [] s (Ok s)
  broken : (t : Token) (ts : List Token) (s : Reading) → NoItem (t ∷ ts) → Reads means files (t ∷ ts) s (Err (fault C_SYNTAX t.1.line s.draft))
  item : (ts us : List Token) (it : Item) (s : Reading) (d : Draft) (o : Result Reading Fault)
      → BeginsWith ts it us → IsDeclaration it → means it s.draft ≡ Ok d → Reads means files us (record s { draft = d }) o
      → Reads means files ts s o
  wrong : (ts us : List Token) (it : Item) (s : Reading) (f : Fault)
      → BeginsWith ts it us → IsDeclaration it → means it s.draft ≡ Err f → Reads means files ts s (Err f)
  refused : (ts us : List Token) (i : Info) (s : Reading) (f : Fault)
      → BeginsWith ts (Item.include i) us → wanted files i s ≡ Err f → Reads means files ts s (Err f)
  again : (ts us : List Token) (i : Info) (s : Reading) (o : Result Reading Fault)
      → BeginsWith ts (Item.include i) us → wanted files i s ≡ Ok None → Reads means files us s o → Reads means files ts s o
  header : (ts us : List Token) (i : Info) (h : Header) (s s' : Reading) (o : Result Reading Fault)
      → BeginsWith ts (Item.include i) us → wanted files i s ≡ Ok (Some h)
      → Reads means files (tokens_at h.place files) h.reading (Ok s') → Reads means files us (left h.place s') o → Reads means files ts s o
  header_wrong : (ts us : List Token) (i : Info) (h : Header) (s : Reading) (f : Fault)
      → BeginsWith ts (Item.include i) us → wanted files i s ≡ Ok (Some h)
      → Reads means files (tokens_at h.place files) h.reading (Err f) → Reads means files ts s (Err f)

-- a file around a header that is read: the place of the header, and the tokens of the file that are left behind its include
pub record Around : Type 0 where
  pub header : ℕ
  pub left : List Token

-- the same where files are being read one within another, the innermost first
abbrev pub Continues : Meaning → List Source → List Around → List Token → Reading → Result Reading Fault → Type 0
Continues means files [] ts s o = Reads means files ts s o
Continues means files (a ∷ rest) ts s o =
    ((s' : Reading) × Reads means files ts s (Ok s') × Continues means files rest a.left (left a.header s') o)
    ⊎ ((f : Fault) × Reads means files ts s (Err f) × (o ≡ Err f))
