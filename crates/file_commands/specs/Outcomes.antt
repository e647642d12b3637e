-- What a run comes to: a status, what is printed, and what is stored. Each line ends in a line feed; names stand in their shown
-- form. Statuses and texts are this project's own.
use Rattle.std.specs.Prelude.{ℕ, Bool, ◌==◌, if◌then◌else◌, List, [], ◌∷◌, ◌++◌, codes, decimal, Option, Some, None}
use Rattle.std.specs.List.{list_any}
use Rattle.std.specs.FinMap.{insert}
use Rattle.st_base.specs.declared.fault.Fault.{Fault}
use Rattle.st_base.specs.declared.fault.TheConstants.{TOO_LARGE}
use Rattle.st_base.specs.Shown.{shown}
use Rattle.outside.specs.Causes.{Contents}
use Rattle.file_commands.specs.declared.outcome.Content.{Content}
use Rattle.file_commands.specs.declared.outcome.Outcome.{Outcome}
use Rattle.file_commands.specs.declared.outcome.TheConstants.{DONE, USAGE, REFUSED, LIST_REFUSED, ABSENT, READ_FAULT, WRITE_FAULT, NO_MEMORY, LIMIT}

-- ---- statuses

-- the statuses with which a run may end
abbrev pub all_statuses : List ℕ
all_statuses = DONE ∷ USAGE ∷ REFUSED ∷ LIST_REFUSED ∷ ABSENT ∷ READ_FAULT ∷ WRITE_FAULT ∷ NO_MEMORY ∷ LIMIT ∷ []

-- the number is one of them
abbrev pub is_status : ℕ → Bool
is_status number = list_any (λ status. status == number) all_statuses

-- ---- outcomes that print alone

abbrev pub printed : ℕ → List ℕ → Outcome
printed status text = record { status = status; text = text; stored = None }

-- one line and its status
abbrev pub line : ℕ → List ℕ → Outcome
line status text = printed status (text ++ 10 ∷ [])

-- `usage: word W`, the place of the word
unfoldable pub usage : ℕ → Outcome
usage word = line USAGE (codes "usage: word " ++ decimal word)

-- `absent NAME`
unfoldable pub absent : List ℕ → Outcome
absent name = line ABSENT (codes "absent " ++ shown name)

-- `read fault NAME`
unfoldable pub read_fault : List ℕ → Outcome
read_fault name = line READ_FAULT (codes "read fault " ++ shown name)

-- `limit M`, the limit that is passed
unfoldable pub limit : ℕ → Outcome
limit most = line LIMIT (codes "limit " ++ decimal most)

-- `N P W`: the number of a fault, its place and its within
abbrev pub fault_text : Fault → List ℕ
fault_text f = decimal f.number ++ 32 ∷ decimal f.place ++ 32 ∷ decimal f.within

-- `refused NAME N P W`
unfoldable pub refused : List ℕ → Fault → Outcome
refused name f = line REFUSED (codes "refused " ++ shown name ++ 32 ∷ fault_text f)

-- the line of a fault of an input: `limit M` where a size passes its limit, which is its place, else `refused NAME N P W`
abbrev pub refused_or_limit : List ℕ → Fault → Outcome
refused_or_limit name f = if f.number == TOO_LARGE then limit f.place else refused name f

-- `list N P W`
unfoldable pub list_refused : Fault → Outcome
list_refused f = line LIST_REFUSED (codes "list " ++ fault_text f)

-- `list N P W NAME`, the name that the fault is about
unfoldable pub list_refused_at : Fault → List ℕ → Outcome
list_refused_at f name = line LIST_REFUSED (codes "list " ++ fault_text f ++ 32 ∷ shown name)

-- the line that is printed where storing failed
abbrev pub write_fault_text : List ℕ
write_fault_text = codes "write fault\n"

-- ---- what is stored

-- these bytes are stored under a name, and a text is printed
abbrev pub kept_with : List ℕ → List ℕ → List ℕ → Outcome
kept_with name bytes text = record { status = DONE; text = text; stored = Some (record { name = name; bytes = bytes }) }

-- these bytes are stored under a name, and nothing is printed
abbrev pub kept : List ℕ → List ℕ → Outcome
kept name bytes = record { status = DONE; text = []; stored = Some (record { name = name; bytes = bytes }) }

-- the contents after something was stored, or nothing
abbrev pub contents_after : Contents → Option Content → Contents
contents_after m None = m
contents_after m (Some content) = insert m content.name content.bytes
