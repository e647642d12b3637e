-- How an outcome is carried out: at most one store, and then one put. This is this project's own, and speaks of how the program
-- works; what a run promises is said without it.
use Rattle.std.specs.Prelude.{◌≡◌, ◌≤◌, ℕ, List, Option, Some, None}
use Rattle.outside.specs.Calls.{Call, store_of, then_call}
use Rattle.outside.specs.Causes.{Stores, Puts}
use Rattle.outside.specs.declared.files.Stored.{Stored}
use Rattle.outside.specs.declared.files.Stored.TheVariants as stored
use Rattle.outside.specs.declared.sink.Put.{Put}
use Rattle.outside.specs.declared.sink.Put.TheVariants as put
use Rattle.file_commands.specs.declared.outcome.Content.{Content}
use Rattle.file_commands.specs.declared.outcome.Outcome.{Outcome}
use Rattle.file_commands.specs.declared.outcome.TheConstants.{WRITE_FAULT, NO_MEMORY}
use Rattle.file_commands.specs.Outcomes.{write_fault_text}
use Rattle.file_commands.specs.RunCauses.{FilesSeen}

-- the status behind a put that answers so
abbrev pub status_after : ℕ → Put → ℕ
status_after status put.Done = status
status_after status put.Failed = WRITE_FAULT
status_after status put.Memory = NO_MEMORY

-- one put of these bytes, and the status behind it; `old`, `before` and `new`, `now` are the sink's bytes and its count
abbrev pub Prints : Option (List ℕ) → Option (List ℕ) → ℕ → ℕ → List ℕ → ℕ → ℕ → Type 0
Prints old new before now bytes status result = (p : Put) × Puts old new before now bytes p × (before ≤ now) × (result ≡ status_after status p)

-- what is to be stored is stored, and that is answered so; Done where nothing is to be stored
abbrev pub Keeps : Option Content → FilesSeen → FilesSeen → Stored → Type 0
Keeps None f g s = (s ≡ stored.Done) × (g ≡ f)
Keeps (Some content) f g s =
    Stores f.held g.held f.stores g.stores content.name content.bytes s × (f.stores ≤ g.stores) × (g.loads ≡ f.loads) × (g.last ≡ f.last)

-- what is to be stored was called once, or nothing was called where nothing is to be stored
abbrev pub CallsStore : Option Content → List Call → List Call → Type 0
CallsStore None before after = after ≡ before
CallsStore (Some content) before after = after ≡ then_call before (store_of content.name)

-- what follows the store: the outcome's text and status, the line of a failed store, or nothing
abbrev pub Follows : Outcome → Option (List ℕ) → Option (List ℕ) → ℕ → ℕ → ℕ → Stored → Type 0
Follows o old new before now result stored.Done = Prints old new before now o.text o.status result
Follows o old new before now result stored.Failed = Prints old new before now write_fault_text WRITE_FAULT result
Follows o old new before now result stored.Memory = (new ≡ old) × (now ≡ before) × (result ≡ NO_MEMORY)

-- the outcome was carried out, from files f to files g
abbrev pub Carried : Outcome → FilesSeen → FilesSeen → Option (List ℕ) → Option (List ℕ) → ℕ → ℕ → ℕ → Type 0
Carried o f g old new before now result = (s : Stored) × Keeps o.stored f g s × Follows o old new before now result s
