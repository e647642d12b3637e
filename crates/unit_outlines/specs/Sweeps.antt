-- The same first faults as one pass finds them, with what it keeps of the entries before. Contracts of private functions and of the
-- walk `Nest` use these words; that each pass tells what the definition tells is in proofs/NestSweep.antt, RunSweep.antt and PlaceSweep.antt.
use Rattle.std.specs.Prelude.{◌≡◌, ℕ, zero, suc, ◌+◌, ◌-◌, ◌==◌, not, Option, Some, None, option_map, unwrap_or, Bool, true, false, cond, ltb, List, [], ◌∷◌, length, slice_get}
use Rattle.st_base.specs.declared.fault.Fault.{Fault}
use Rattle.st_base.specs.declared.fault.TheConstants.{CONTINUATION, LONG}
use Rattle.st_base.specs.Faults.{fault_at}
use Rattle.stab_codes.specs.declared.code.TheConstants.{N_SO}
use Rattle.nlist_codec.specs.declared.named.Named.{Named}
use Rattle.unit_outlines.specs.declared.kinds.Nesting.{Nesting}
use Rattle.unit_outlines.specs.declared.kinds.Nesting.TheVariants.{Opens, Closes, Parts, Other}
use Rattle.unit_outlines.specs.declared.kinds.Link.{Link}
use Rattle.unit_outlines.specs.declared.kinds.Link.TheVariants.{Ends, Goes, Broken}
use Rattle.unit_outlines.specs.declared.outline_types.Marks.{Marks}
use Rattle.unit_outlines.specs.declared.limits.TheConstants.{STRING_LIMIT}
use Rattle.unit_outlines.specs.declared.closings.Closings.{Closings}
use Rattle.unit_outlines.specs.declared.nest.Nest.{Nest}
use Rattle.unit_outlines.specs.EntryWords.{next, is_empty, behind_first}
use Rattle.unit_outlines.specs.Firsts.{told_at}
use Rattle.unit_outlines.specs.Nests.{nesting_of, in_headers, closing}
use Rattle.unit_outlines.specs.Runs.{goes}
use Rattle.unit_outlines.specs.Marks.{is_header, all_headers, start_in, range_in}
use Rattle.unit_outlines.specs.Outlines.{place_tell, end_number}

-- ---- marks that nest

abbrev pub of_kinds : ℕ → ℕ → Named → Nesting
of_kinds begin end e = nesting_of begin end e.kind

-- where the outermost open mark stands
abbrev pub begun : ℕ → ℕ → ℕ → ℕ
begun zero b p = p
begun (suc d) b p = b

module _ {E : Type 0} (role : E → Nesting) (unclosed unopened : ℕ) where
  abbrev pub still : ℕ → ℕ → Option Fault → Option Fault
  still zero b more = more
  still (suc d) b more = Some (fault_at unclosed b)

  abbrev pub none_open : ℕ → ℕ → Option Fault → Option Fault
  none_open zero p more = Some (fault_at unopened p)
  none_open (suc d) p more = more

  abbrev pub sweep_step : Nesting → ℕ → ℕ → ℕ → Option Fault → Option Fault → Option Fault → Option Fault
  sweep_step Opens d b p up down stay = up
  sweep_step Closes d b p up down stay = none_open d p down
  sweep_step Parts d b p up down stay = still d b stay
  sweep_step Other d b p up down stay = stay

  -- d marks are open, the outermost at b
  abbrev pub sweep : ℕ → ℕ → ℕ → List E → Option Fault
  sweep d b p [] = still d b None
  sweep d b p (e ∷ es) = sweep_step (role e) d b p (sweep (d + 1) (begun d b p) (p + 1) es) (sweep (d - 1) b (p + 1) es) (sweep d b (p + 1) es)

-- ---- joined strings

abbrev pub or_else : Option Fault → Option Fault → Option Fault
or_else None more = more
or_else (Some f) more = Some f

-- what an entry at p tells at once: whether it goes on with a run that began at f, and whether the run is too long with it
abbrev pub told_in : Link → Bool → Bool → ℕ → ℕ → Option Fault
told_in Ends b x f p = cond x (Some (fault_at LONG f)) None
told_in Goes b x f p = cond x (Some (fault_at LONG f)) None
told_in Broken true x f p = cond x (Some (fault_at LONG f)) (Some (fault_at CONTINUATION p))
told_in Broken false x f p = Some (fault_at CONTINUATION p)

module _ {E : Type 0} (bond : E → Option E → Link) (piece : E → List ℕ) where
  -- whether a run goes on, where it began, and how many bytes it has so far
  abbrev pub sweep_runs : Bool → ℕ → ℕ → ℕ → List E → Option Fault
  sweep_runs b f n p [] = None
  sweep_runs b f n p (e ∷ es) = or_else (told_in (bond e (next es)) b (ltb STRING_LIMIT (cond b n 0 + length (piece e))) (cond b f p) p)
      (sweep_runs (goes (bond e (next es))) (cond b f p) (cond b n 0 + length (piece e)) (p + 1) es)

-- ---- stabs by themselves

abbrev pub within_behind : Bool → Named → Bool
within_behind b e = cond (e.kind == N_SO) (not (is_empty e.name)) b

abbrev pub headers_behind : ℕ → Named → ℕ
headers_behind n e = cond (e.kind == N_SO) 0 (cond (is_header e.kind) (n + 1) n)

-- whether a unit is being read, and how many headers it has so far
abbrev pub sweep_places : Marks → Bool → ℕ → ℕ → List Named → Option Fault
sweep_places marks b n p [] = None
sweep_places marks b n p (e ∷ es) = told_at (place_tell marks b n e) p (sweep_places marks (within_behind b e) (headers_behind n e) (p + 1) es)

-- ---- the ends of header ranges, in one pass from the last entry

-- for each entry the number behind what would close it
abbrev pub ends_from : ℕ → List Named → List ℕ
ends_from p [] = []
ends_from p (e ∷ es) = end_number (p + 1) es ∷ ends_from (p + 1) es

-- the ends that close something further in front, nearest first, in front of one more entry; q is the number behind it
abbrev pub ends_turned : Nesting → ℕ → List ℕ → List ℕ
ends_turned Opens q open_ = behind_first open_
ends_turned Closes q open_ = q ∷ open_
ends_turned Parts q open_ = []
ends_turned Other q open_ = open_

-- the numbers behind the ends that close what stands before entries at p, where no more, one more, and so on, are open
abbrev pub AreEnds : ℕ → List Named → List ℕ → Type 0
AreEnds p es open_ = (n : ℕ) → slice_get open_ n ≡ option_map (λ count. p + count) (closing in_headers es n)

-- what is kept of the entries from p on
pub record Closed (p : ℕ) (es : List Named) (c : Closings) : Type 0 where
  pub ends_are : c.ends ≡ ends_from p es
  pub open_are : AreEnds p es c.open_ends

-- ---- the file and the range of an entry, in one pass from the first

-- how many headers there are behind one more entry, through all units
abbrev pub all_behind : ℕ → Named → ℕ
all_behind n e = cond (is_header e.kind) (n + 1) n

-- how many of them stand before the unit; n are before the entry
abbrev pub start_behind : ℕ → ℕ → Named → ℕ
start_behind start n e = cond (e.kind == N_SO) n start

-- the numbers of the headers whose ranges are open, innermost first, behind one more entry
abbrev pub files_turned : Nesting → ℕ → List ℕ → List ℕ
files_turned Opens number open_ = number ∷ open_
files_turned Closes number open_ = behind_first open_
files_turned Parts number open_ = []
files_turned Other number open_ = open_

-- the range behind entries that leave so many ranges open is that of the next number, and so on; numbers count from 1
pub record Nests (back : List Named) (n : Nest) : Type 0 where
  pub open_are : (ends : ℕ) → option_map suc (range_in back ends) ≡ slice_get n.open ends
  pub count_is : n.headers ≡ all_headers back
  pub start_is : n.start ≡ start_in back
