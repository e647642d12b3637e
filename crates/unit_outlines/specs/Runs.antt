-- Stab strings that go on from one entry to the next: where the name of a stab that carries a symbol ends in `\`, its string goes
-- on with the next entry, which has the same kind. After "The stabs debug format", on the length of strings; that it is the next
-- entry of the whole list, and the limit of a string, are this project's own.
use Rattle.std.specs.Prelude.{ℕ, ◌-◌, ◌&&◌, ◌==◌, Option, Some, None, Bool, true, false, cond, ltb, List, [], ◌∷◌, ◌++◌, length, take}
use Rattle.st_base.specs.declared.fault.TheConstants.{CONTINUATION, LONG}
use Rattle.stab_codes.specs.Table.{carries_symbol}
use Rattle.nlist_codec.specs.declared.named.Named.{Named}
use Rattle.unit_outlines.specs.declared.kinds.Link.{Link}
use Rattle.unit_outlines.specs.declared.kinds.Link.TheVariants.{Ends, Goes, Broken}
use Rattle.unit_outlines.specs.declared.limits.TheConstants.{STRING_LIMIT}
use Rattle.unit_outlines.specs.EntryWords.{next, ends_in}
use Rattle.unit_outlines.specs.Firsts.{Telling, smaller}

-- ---- entries

-- the name of a stab that carries a symbol ends in `\`
abbrev pub is_open : Named → Bool
is_open e = carries_symbol e.kind && ends_in 92 e.name

abbrev pub same_kind : Named → Option Named → Link
same_kind e None = Broken
same_kind e (Some f) = cond (f.kind == e.kind) Goes Broken

-- what an entry is to the next one, if there is one: its string ends, goes on there, or should go on and does not
abbrev pub link_at : Named → Option Named → Link
link_at e o = cond (is_open e) (same_kind e o) Ends

-- what an entry adds to its string: its name without a `\` at the end; nothing where it carries no symbol
abbrev pub piece_of : Named → List ℕ
piece_of e = cond (carries_symbol e.kind) (cond (ends_in 92 e.name) (take (length e.name - 1) e.name) e.name) []

-- ---- strings

abbrev pub goes : Link → Bool
goes Ends = false
goes Goes = true
goes Broken = false

abbrev pub broken : Link → Option ℕ
broken Ends = None
broken Goes = None
broken Broken = Some CONTINUATION

abbrev pub more_text : Link → List ℕ → List ℕ
more_text Ends t = []
more_text Goes t = t
more_text Broken t = []

abbrev pub long_at : Bool → List ℕ → Option ℕ
long_at true t = None
long_at false t = cond (ltb STRING_LIMIT (length t)) (Some LONG) None

module _ {E : Type 0} (bond : E → Option E → Link) (piece : E → List ℕ) where
  -- an entry goes on with the string of the nearest entry before it
  abbrev pub goes_on : List E → E → Bool
  goes_on [] e = false
  goes_on (d ∷ back) e = goes (bond d (Some e))

  -- the string of the run that the list begins with
  abbrev pub text_of : List E → List ℕ
  text_of [] = []
  text_of (e ∷ es) = piece e ++ more_text (bond e (next es)) (text_of es)

  -- a string that should go on and does not, and at the first entry of a run a string that is too long
  abbrev pub run_tells : Telling E
  run_tells back e es = smaller (broken (bond e (next es))) (long_at (goes_on back e) (text_of (e ∷ es)))

-- an entry goes on with the string of the one before it
abbrev pub continued : List Named → Named → Bool
continued = goes_on link_at piece_of

-- the joined string of the run that the list begins with
abbrev pub joined : List Named → List ℕ
joined = text_of link_at piece_of

-- the faults of joined strings
abbrev pub run_tell : Telling Named
run_tell = run_tells link_at piece_of
