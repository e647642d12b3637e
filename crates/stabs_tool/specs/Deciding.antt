-- What is known of an outcome before it is carried out. This is this project's own, and speaks of how the program works.
use Rattle.std.specs.Prelude.{◌≡◌, ◌≢◌, ℕ, ◌+◌, ◌<◌, List, length, take, Some, None, Result, Ok, Err, true, IfSome}
use Rattle.std.specs.Option.{option_map}
use Rattle.outside.specs.Calls.{Call}
use Rattle.outside.specs.Causes.{Contents, Rose}
use Rattle.command_line.specs.declared.command.Command.{Command}
use Rattle.command_line.specs.declared.command.Asked.{Asked}
use Rattle.command_line.specs.declared.command.Asked.TheVariants as asks
use Rattle.command_line.specs.Commands.{inputs_of, output_of, most_of}
use Rattle.file_commands.specs.declared.outcome.Outcome.{Outcome}
use Rattle.file_commands.specs.declared.outcome.TheConstants.{DONE, USAGE, ABSENT, READ_FAULT, WRITE_FAULT, NO_MEMORY}
use Rattle.file_commands.specs.Outcomes.{usage, absent, read_fault, is_status}
use Rattle.file_commands.specs.RunCauses.{FilesSeen, Lacks}
use Rattle.file_commands.specs.Inputs.{HasCalled, name_at}
use Rattle.stabs_tool.specs.RunCalls.{IsAnswered}

-- the outcome o was decided on, the files being f before it and g after it; `Means`, `Reads`, `Writes` and `Wrong` are as in `Promise`
pub record Decided (Means : Contents → Outcome → Type 0) (Reads Writes : List ℕ → Type 0) (Wrong : ℕ → Type 0) (f g : FilesSeen) (o : Outcome) : Type 0 where
  pub defined : o.status ≢ READ_FAULT → (m : Contents) → f.held ≡ Some m → Means m o
  pub read : o.status ≡ READ_FAULT → Rose f.loads g.loads × ((name : List ℕ) × (g.last ≡ Some name) × Reads name × (o ≡ read_fault name))
  pub lacks : o.status ≡ ABSENT → (name : List ℕ) × Reads name × (o ≡ absent name) × Lacks f.held f.loads g.loads g.last name
  pub usage_alone : o.status ≡ USAGE → (at : ℕ) × Wrong at × (o ≡ usage at)
  pub wrong : (at : ℕ) → Wrong at → o.status ≡ USAGE
  pub status : is_status o.status ≡ true
  pub not_write : o.status ≢ WRITE_FAULT
  pub not_memory : o.status ≢ NO_MEMORY
  pub stored_alone : o.status ≢ DONE → o.stored ≡ None
  pub stored_name : IfSome o.stored (λ content. Writes content.name)

-- ---- what was called

-- the last of so many names that were loaded has this line, which is the outcome
abbrev pub IsLast : (List ℕ → Outcome) → List (List ℕ) → ℕ → Outcome → Type 0
IsLast line names count o = (at : ℕ) × (at < length names) × (count ≡ at + 1) × (o ≡ line (name_at names at))

-- the outcome of a command was decided on: the calls before that, and after it
pub record LoadedFor (command : Command) (before after : List Call) (o : Outcome) : Type 0 where
  -- so many inputs were loaded, from the first on, and nothing else was called
  pub count : ℕ
  pub calls : HasCalled (most_of command) (take count (inputs_of command)) before after
  -- all of them, where they were answered on
  pub all : IsAnswered o.status → count ≡ length (inputs_of command)
  pub absent_last : o.status ≡ ABSENT → IsLast absent (inputs_of command) count o
  pub read_fault_last : o.status ≡ READ_FAULT → IsLast read_fault (inputs_of command) count o
  -- an outcome that is done stores what the command stores
  pub done : o.status ≡ DONE → option_map (λ content. content.name) o.stored ≡ output_of command
  -- and no other stores anything
  pub alone : o.status ≢ DONE → o.stored ≡ None
  pub named : IfSome o.stored (λ content. output_of command ≡ Some content.name)

-- what was called until it was decided on: for words that are no command nothing; out of memory a front of the inputs was loaded
abbrev pub DecidesCalls : {E : Type 0} → Asked → List Call → List Call → Result Outcome E → Type 0
DecidesCalls (asks.Wrong at) before after (Ok o) = (after ≡ before) × (o.stored ≡ None)
DecidesCalls (asks.Wrong at) before after (Err e) = after ≡ before
DecidesCalls (asks.Command command) before after (Ok o) = LoadedFor command before after o
DecidesCalls (asks.Command command) before after (Err e) = (count : ℕ) × HasCalled (most_of command) (take count (inputs_of command)) before after
