-- The marks of sources and of headers: which N_SO begins a unit, names its directory or ends it, and in which file and in which header
-- range an entry stands. After "The stabs debug format", on source files and on include files; what is a directory mark is this
-- project's own.
use Rattle.std.specs.Prelude.{ℕ, zero, suc, ◌+◌, ◌&&◌, ◌||◌, ◌==◌, not, Bool, false, cond, Option, Some, None, List, [], ◌∷◌}
use Rattle.st_base.specs.Stabs.{is_stab}
use Rattle.stab_codes.specs.declared.code.TheConstants.{N_SO, N_BINCL, N_EINCL, N_EXCL}
use Rattle.nlist_codec.specs.declared.named.Named.{Named}
use Rattle.unit_outlines.specs.declared.kinds.SourceMark.{SourceMark}
use Rattle.unit_outlines.specs.declared.kinds.SourceMark.TheVariants.{Directory, Start, Stop, NoMark}
use Rattle.unit_outlines.specs.declared.kinds.Nesting.{Nesting}
use Rattle.unit_outlines.specs.declared.kinds.Nesting.TheVariants.{Opens, Closes, Parts, Other}
use Rattle.unit_outlines.specs.EntryWords.{is_empty, ends_in}
use Rattle.unit_outlines.specs.Nests.{in_headers}

-- ---- kinds

-- an entry of this kind is the mark of a header file
abbrev pub is_header : ℕ → Bool
is_header kind = (kind == N_BINCL) || (kind == N_EXCL)

-- N_BINCL, N_EINCL and N_EXCL mark headers
abbrev pub is_header_mark : ℕ → Bool
is_header_mark kind = (kind == N_BINCL) || ((kind == N_EINCL) || (kind == N_EXCL))

-- a stab that is no mark of a header
abbrev pub is_plain : ℕ → Bool
is_plain kind = is_stab kind && not (is_header_mark kind)

-- ---- source marks

-- an N_SO whose name is not empty and does not end in `/`
abbrev pub names_source : Option Named → Bool
names_source None = false
names_source (Some e) = e.kind == N_SO && (not (is_empty e.name) && not (ends_in 47 e.name))

-- an N_SO without a name ends a unit; one whose name ends in `/`, before one that names a source, is a directory mark; each other
-- begins a unit
abbrev pub mark_at : Named → Option Named → SourceMark
mark_at e o = cond (e.kind == N_SO) (cond (is_empty e.name) Stop (cond (ends_in 47 e.name && names_source o) Directory Start)) NoMark

-- ---- what stands before an entry in its unit; `back` is nearest first

-- behind these entries a unit is being read: the last N_SO has a name
abbrev pub in_unit : List Named → Bool
in_unit [] = false
in_unit (e ∷ back) = cond (e.kind == N_SO) (not (is_empty e.name)) (in_unit back)

-- how many headers the unit has in these entries
abbrev pub headers_in : List Named → ℕ
headers_in [] = 0
headers_in (e ∷ back) = cond (e.kind == N_SO) 0 (cond (is_header e.kind) (headers_in back + 1) (headers_in back))

abbrev pub file_step : Nesting → ℕ → ℕ → (ℕ → ℕ) → ℕ
file_step Opens zero number outer = number
file_step Opens (suc ends) number outer = outer ends
file_step Closes ends number outer = outer (suc ends)
file_step Parts ends number outer = 0
file_step Other ends number outer = outer ends

-- the file of the entry behind these: the number of the nearest N_BINCL that none of the N_EINCL behind it closes, else 0;
-- `ends` is how many N_EINCL are met that close nothing met so far
abbrev pub file_in : List Named → ℕ → ℕ
file_in [] ends = 0
file_in (e ∷ back) ends = file_step (in_headers e) ends (headers_in (e ∷ back)) (file_in back)

-- going back from an entry, an N_EINCL begins a header range and an N_BINCL ends it
abbrev pub backwards : Nesting → Nesting
backwards Opens = Closes
backwards Closes = Opens
backwards Parts = Parts
backwards Other = Other

abbrev pub back_in_headers : Named → Nesting
back_in_headers e = backwards (in_headers e)

-- ---- what stands before an entry in its list

-- how many headers stand among entries, in any order
abbrev pub all_headers : List Named → ℕ
all_headers [] = 0
all_headers (e ∷ es) = cond (is_header e.kind) (all_headers es + 1) (all_headers es)

-- how many of them stand before the unit of the entry behind these, nearest first
abbrev pub start_in : List Named → ℕ
start_in [] = 0
start_in (e ∷ back) = cond (e.kind == N_SO) (all_headers back) (start_in back)

abbrev pub range_step : Nesting → ℕ → ℕ → (ℕ → Option ℕ) → Option ℕ
range_step Opens zero place outer = Some place
range_step Opens (suc ends) place outer = outer ends
range_step Closes ends place outer = outer (suc ends)
range_step Parts ends place outer = None
range_step Other ends place outer = outer ends

-- the place of the header in whose range the entry behind these stands, nearest first, if it is in one; `ends` is how many N_EINCL are
-- met that close nothing met so far
abbrev pub range_in : List Named → ℕ → Option ℕ
range_in [] ends = None
range_in (e ∷ back) ends = range_step (in_headers e) ends (all_headers back) (range_in back)
