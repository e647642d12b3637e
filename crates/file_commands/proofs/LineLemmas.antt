-- Outcomes that print alone: the status of each.
use Rattle.std.proofs.Common.{◌≡◌, ℕ, List, None, refl}
use Rattle.st_base.specs.declared.fault.Fault.{Fault}
use Rattle.file_commands.specs.declared.outcome.Outcome.{Outcome}
use Rattle.file_commands.specs.declared.outcome.TheConstants.{USAGE, REFUSED, LIST_REFUSED, ABSENT, READ_FAULT, LIMIT}
use Rattle.file_commands.specs.Outcomes.{printed, usage, absent, read_fault, limit, refused, list_refused, list_refused_at}

-- the outcome has this status, and stores nothing
pub record Prints (status : ℕ) (o : Outcome) : Type 0 where
  pub answers : o.status ≡ status
  pub alone : o.stored ≡ None

pub prints_of : (status : ℕ) (text : List ℕ) → Prints status (printed status text)
prints_of status text = record { answers = refl; alone = refl }

pub prints_usage : (at : ℕ) → Prints USAGE (usage at)
unfolding usage
prints_usage at = prints_of USAGE _

pub prints_absent : (name : List ℕ) → Prints ABSENT (absent name)
unfolding absent
prints_absent name = prints_of ABSENT _

pub prints_read_fault : (name : List ℕ) → Prints READ_FAULT (read_fault name)
unfolding read_fault
prints_read_fault name = prints_of READ_FAULT _

pub prints_limit : (most : ℕ) → Prints LIMIT (limit most)
unfolding limit
prints_limit most = prints_of LIMIT _

pub prints_refused : (name : List ℕ) (f : Fault) → Prints REFUSED (refused name f)
unfolding refused
prints_refused name f = prints_of REFUSED _

pub prints_list : (f : Fault) → Prints LIST_REFUSED (list_refused f)
unfolding list_refused
prints_list f = prints_of LIST_REFUSED _

pub prints_list_at : (f : Fault) (name : List ℕ) → Prints LIST_REFUSED (list_refused_at f name)
unfolding list_refused_at
prints_list_at f name = prints_of LIST_REFUSED _
