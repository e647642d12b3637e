-- Where the units of an entry list stand, and the first fault that keeps a list from being units. Any list is looked at: an
-- image has the entries of many objects one after another. After "The stabs debug format", on source files, include files and
-- block structure; the faults and their order are this project's own.
use Rattle.std.specs.Prelude.{◌≡◌, ℕ, ◌+◌, ◌&&◌, ◌==◌, not, Bool, true, false, cond, ltb, Option, Some, None, List, [], ◌∷◌, ◌++◌, slice_get, unwrap_or}
use Rattle.st_base.specs.declared.fault.Fault.{Fault}
use Rattle.st_base.specs.declared.fault.TheConstants.{NO_UNIT, OPEN_HEADER, CLOSED_HEADER, BRACKETS, EXCLUDED, HEADERS}
use Rattle.st_base.specs.Stabs.{is_stab}
use Rattle.stab_codes.specs.declared.code.TheConstants.{N_SO, N_BINCL, N_EXCL}
use Rattle.nlist_codec.specs.declared.named.Named.{Named}
use Rattle.unit_outlines.specs.declared.kinds.SourceMark.{SourceMark}
use Rattle.unit_outlines.specs.declared.kinds.SourceMark.TheVariants.{Directory, Start, Stop, NoMark}
use Rattle.unit_outlines.specs.declared.outline_types.Marks.{Marks}
use Rattle.unit_outlines.specs.declared.outline_types.Marks.TheVariants.{Object, Image}
use Rattle.unit_outlines.specs.declared.outline_types.HeaderMark.{HeaderMark}
use Rattle.unit_outlines.specs.declared.outline_types.UnitSpan.{UnitSpan}
use Rattle.unit_outlines.specs.declared.limits.TheConstants.{HEADER_LIMIT}
use Rattle.unit_outlines.specs.EntryWords.{next, is_empty}
use Rattle.unit_outlines.specs.Firsts.{Telling, IsTold, FirstOf, smaller}
use Rattle.unit_outlines.specs.Nests.{in_headers, in_blocks, closing, nest_tell}
use Rattle.unit_outlines.specs.Runs.{run_tell}
use Rattle.unit_outlines.specs.Marks.{mark_at, in_unit, is_header, headers_in}

-- ---- headers

-- the number behind the N_EINCL of an N_BINCL, whose next entry has the number p
abbrev pub end_number : ℕ → List Named → ℕ
end_number p es = p + unwrap_or (closing in_headers es 0) 0

-- the mark of a header at p, if the entry is one: a range ends with its N_EINCL, an N_EXCL stands alone
abbrev pub header_at : ℕ → ℕ → Named → List HeaderMark
header_at p past e =
    cond (e.kind == N_BINCL) (record { name = e.name; first = p; past = past; excluded = false; value = e.value } ∷ [])
    (cond (e.kind == N_EXCL) (record { name = e.name; first = p; past = p + 1; excluded = true; value = e.value } ∷ []) [])

-- the headers of these entries of a unit in order, the first entry having the number p
abbrev pub headers_from : ℕ → List Named → List HeaderMark
headers_from p [] = []
headers_from p (e ∷ es) = header_at p (end_number (p + 1) es) e ++ headers_from (p + 1) es

-- the entries before the next N_SO
abbrev pub inside : List Named → List Named
inside [] = []
inside (e ∷ es) = cond (e.kind == N_SO) [] (e ∷ inside es)

-- ---- units

abbrev pub end_step : SourceMark → ℕ → ℕ → ℕ
end_step Directory value more = more
end_step Start value more = value
end_step Stop value more = value
end_step NoMark value more = more

-- where the unit before these entries ends: the value of its end mark, else the start of the next unit, else the end of text
abbrev pub end_of : ℕ → List Named → ℕ
end_of text_end [] = text_end
end_of text_end (e ∷ es) = end_step (mark_at e (next es)) e.value (end_of text_end es)

abbrev pub past_step : SourceMark → ℕ → ℕ
past_step Directory n = 0
past_step Start n = 0
past_step Stop n = n + 1
past_step NoMark n = n + 1

-- how many of these entries belong to the unit before them: all up to the next unit's N_SO or directory mark
abbrev pub past_of : List Named → ℕ
past_of [] = 0
past_of (e ∷ es) = past_step (mark_at e (next es)) (past_of es)

-- the name of a directory mark, else none
abbrev pub directory_of : SourceMark → List ℕ → List ℕ
directory_of Directory name = name
directory_of Start name = []
directory_of Stop name = []
directory_of NoMark name = []

abbrev pub span_step : SourceMark → UnitSpan → List UnitSpan → List UnitSpan
span_step Directory span more = more
span_step Start span more = span ∷ more
span_step Stop span more = more
span_step NoMark span more = more

-- the unit that the entry at p begins, behind a directory mark of this name
abbrev pub span_at : ℕ → List ℕ → ℕ → Named → List Named → UnitSpan
span_at text_end directory p e es = record {
  name = directory ++ e.name;
  start = e.value;
  end = end_of text_end es;
  first = p;
  past = p + 1 + past_of es;
  headers = headers_from (p + 1) (inside es);
}

-- the units of entries whose first has the number p, behind a directory mark of this name
abbrev pub units_from : ℕ → List ℕ → ℕ → List Named → List UnitSpan
units_from text_end directory p [] = []
units_from text_end directory p (e ∷ es) = span_step (mark_at e (next es)) (span_at text_end directory p e es)
    (units_from text_end (directory_of (mark_at e (next es)) e.name) (p + 1) es)

-- the units of a list of entries, where text ends at this address
abbrev pub units_of : ℕ → List Named → List UnitSpan
units_of text_end entries = units_from text_end [] 0 entries

-- ---- faults

-- the marks are those of an object, in which no header is excluded
abbrev pub of_object : Marks → Bool
of_object Object = true
of_object Image = false

-- what is told of an entry by itself, where so many headers come before it in its unit, and the flag says that it is in one
abbrev pub place_tell : Marks → Bool → ℕ → Named → Option ℕ
place_tell marks within headers e =
    cond (not (is_stab e.kind)) None
    (cond ((e.kind == N_SO) && not (is_empty e.name)) None
    (cond (not within) (Some NO_UNIT)
    (cond (of_object marks && (e.kind == N_EXCL)) (Some EXCLUDED)
    (cond (is_header e.kind && not (ltb headers HEADER_LIMIT)) (Some HEADERS) None))))

-- a stab outside every unit, an excluded header in an object, a header over the limit
abbrev pub unit_tell : Marks → Telling Named
unit_tell marks back e es = place_tell marks (in_unit back) (headers_in back) e

-- header ranges and blocks that do not match
abbrev pub nests_tell : Telling Named
nests_tell back e es = smaller (nest_tell in_headers OPEN_HEADER CLOSED_HEADER back e es) (nest_tell in_blocks BRACKETS BRACKETS back e es)

-- headers, blocks and joined strings
abbrev pub matches_tell : Telling Named
matches_tell back e es = smaller (nests_tell back e es) (run_tell back e es)

-- every fault of an outline; outside a unit the number of the stab itself is the smallest
abbrev pub outline_tell : Marks → Telling Named
outline_tell marks back e es = smaller (unit_tell marks back e es) (matches_tell back e es)

-- the fault of an outline: that at the smallest entry, and there the one of the smallest number; none where nothing is wrong
abbrev pub OutlineFault : Marks → List Named → Option Fault → Type 0
OutlineFault marks entries fault = FirstOf (IsTold (outline_tell marks) entries) fault

-- the span is that of a unit of these entries, which have no fault
pub record IsOutlined (entries : List Named) (span : UnitSpan) : Type 0 where
  pub marks : Marks
  pub text_end : ℕ
  pub number : ℕ
  pub no_fault : OutlineFault marks entries None
  pub is : slice_get (units_of text_end entries) number ≡ Some span
