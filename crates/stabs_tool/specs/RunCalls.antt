-- What a run calls of its files, whether they tell their contents or not, and whatever fails: the inputs of the command in order, each
-- once, up to the first that fails; and behind all of them one store at most, of the name that the words store. This is this project's own.
use Rattle.std.specs.Prelude.{◌≡◌, ◌≢◌, ◌⊎◌, ℕ, ◌+◌, ◌<◌, List, ◌++◌, length, take, Option, Some, None, IfSome}
use Rattle.outside.specs.Calls.{Call, loads_of, stores_of}
use Rattle.command_line.specs.declared.command.Command.{Command}
use Rattle.command_line.specs.declared.command.Asked.{Asked}
use Rattle.command_line.specs.declared.command.Asked.TheVariants as asks
use Rattle.command_line.specs.Commands.{inputs_of, output_of, most_of}
use Rattle.file_commands.specs.declared.outcome.Outcome.{Outcome}
use Rattle.file_commands.specs.declared.outcome.TheConstants.{DONE, REFUSED, LIST_REFUSED, ABSENT, READ_FAULT, WRITE_FAULT, NO_MEMORY}
use Rattle.file_commands.specs.Outcomes.{absent, read_fault}
use Rattle.file_commands.specs.RunCauses.{Gained}
use Rattle.file_commands.specs.Inputs.{name_at}

-- the status is one with which all inputs were answered on
abbrev pub IsAnswered : ℕ → Type 0
IsAnswered status = (status ≡ DONE) ⊎ ((status ≡ REFUSED) ⊎ (status ≡ LIST_REFUSED))

-- the last of so many names that were loaded has this line, which a sink has gained
abbrev pub IsReportedLast : (List ℕ → Outcome) → List (List ℕ) → ℕ → Option (List ℕ) → Option (List ℕ) → Type 0
IsReportedLast line names count old new = (at : ℕ) × (at < length names) × (count ≡ at + 1) × Gained old new (line (name_at names at)).text

-- of a run of a command: the calls before it and after it, the sink's bytes before it and after it, and its status
pub record CommandCalls (command : Command) (before after : List Call) (old new : Option (List ℕ)) (result : ℕ) : Type 0 where
  -- so many inputs were loaded, from the first on
  pub count : ℕ
  -- and this name was stored, or none
  pub stored : Option (List ℕ)
  -- each of them once, in order, for at most as many bytes as the command allows; then the store; and nothing else was called
  pub calls : after ≡ (before ++ loads_of (most_of command) (take count (inputs_of command))) ++ stores_of stored
  -- the name that is stored is the one of the command
  pub named : IfSome stored (λ name. output_of command ≡ Some name)
  -- a store comes behind all inputs
  pub loaded_first : stored ≢ None → count ≡ length (inputs_of command)
  -- there is none with the statuses 2 to 6 and 9
  pub not_stored : result ≢ DONE → result ≢ WRITE_FAULT → result ≢ NO_MEMORY → stored ≡ None
  -- with status 0 there is exactly one where the command stores, and else none
  pub done : result ≡ DONE → stored ≡ output_of command
  -- with the statuses 0, 3 and 4 all inputs were loaded
  pub loaded_all : IsAnswered result → count ≡ length (inputs_of command)
  -- nothing is loaded behind the input that is reported as absent, or as one where reading failed
  pub absent_last : result ≡ ABSENT → IsReportedLast absent (inputs_of command) count old new
  pub read_fault_last : result ≡ READ_FAULT → IsReportedLast read_fault (inputs_of command) count old new

-- of a run of words that ask so: words that are no command call nothing
pub record Calls (asked : Asked) (before after : List Call) (old new : Option (List ℕ)) (result : ℕ) : Type 0 where
  pub wrong : (at : ℕ) → asked ≡ asks.Wrong at → after ≡ before
  pub called : (command : Command) → asked ≡ asks.Command command → CommandCalls command before after old new result
