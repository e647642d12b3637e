-- The outcome of words over files that tell their contents and do not fail. This is this project's own.
use Rattle.std.specs.Prelude.{◌≡◌, ◌⊎◌, ◌+◌, ℕ, List, length, Some, Result, Ok, Err}
use Rattle.std.specs.FinMap.{get}
use Rattle.outside.specs.Causes.{Contents}
use Rattle.st_base.specs.Number.{IsBytes}
use Rattle.st_base.specs.declared.fault.Fault.{Fault}
use Rattle.st_base.specs.declared.sizes.TheConstants.{FILE_LIMIT}
use Rattle.aout_object.specs.Objects.{ObjectSpells, named_of, file_of}
use Rattle.aout_object.specs.Objects.{Contents as Object}
use Rattle.aout_object.specs.Checks.{FileFault}
use Rattle.type_graph.specs.declared.world.World.{World}
use Rattle.unit_index.specs.Expanding.{IsExpanded, ExpandFault}
use Rattle.query_text.specs.declared.query.Query.{Query}
use Rattle.query_text.specs.Replies as replies
use Rattle.stabs_asm.specs.Assembling.{assembled}
use Rattle.asm_statements.specs.SourceLines.{read_source}
use Rattle.stabs_asm.specs.Listing.{listing}
use Rattle.command_line.specs.declared.command.Command.{Command}
use Rattle.command_line.specs.declared.command.Command.TheVariants as commands
use Rattle.command_line.specs.declared.command.Asked.{Asked}
use Rattle.command_line.specs.declared.command.Asked.TheVariants as asks
use Rattle.file_commands.specs.declared.inputs.Cause.TheVariants as cause
use Rattle.file_commands.specs.declared.inputs.Inputs.{Inputs}
use Rattle.file_commands.specs.declared.inputs.Inputs.TheVariants.{All, Fault as Faulty, TooMuch, TooMany}
use Rattle.command_line.specs.declared.limits.TheConstants.{MOST_NAMES}
use Rattle.file_commands.specs.declared.outcome.Outcome.{Outcome}
use Rattle.file_commands.specs.declared.outcome.TheConstants.{DONE}
use Rattle.command_line.specs.CommandWords.{first}
use Rattle.file_commands.specs.Dump.{dump_text}
use Rattle.file_commands.specs.Checking.{check_text}
use Rattle.command_line.specs.Commands.{asked, inputs_of, most_of}
use Rattle.file_commands.specs.Inputs.{loaded_inputs, name_at}
use Rattle.file_commands.specs.InputObjects.{Spells, SpellsNone}
use Rattle.file_commands.specs.LinkOutcomes.{LinksFiles}
use Rattle.file_commands.specs.Asking.{AsksFiles}
use Rattle.file_commands.specs.Outcomes.{printed, usage, absent, read_fault, limit, refused, refused_or_limit, kept}

-- ---- the world of an object

-- the address at which text ends
abbrev pub text_end : Object → ℕ
text_end object = object.parts.entry + length object.parts.text

-- this is the world of the object's entries, in which each excluded header has the symbols of the range that it stands for
abbrev pub IsWorld : Object → World → Type 0
IsWorld object world = IsExpanded (text_end object) (named_of object) world

-- its entries have no world, and this fault
abbrev pub WorldFault : Object → Fault → Type 0
WorldFault object f = ExpandFault (text_end object) (named_of object) f

-- what is said on the world of an object, whose file has this name, or the refusal of the object
abbrev pub OnWorld : List ℕ → Object → (World → Outcome → Type 0) → Outcome → Type 0
OnWorld name object Says o = ((world : World) × IsWorld object world × Says world o)
    ⊎ ((f : Fault) × WorldFault object f × (o ≡ refused name f))

-- ---- a query of a file

-- the reply on a world
abbrev pub RepliesOnWorld : Query → World → Outcome → Type 0
RepliesOnWorld query world o = (text : List ℕ) × replies.Answers world query text × (o ≡ printed DONE text)

-- the reply on an object, whose file has this name
abbrev pub RepliesOnObject : List ℕ → Query → Object → Outcome → Type 0
RepliesOnObject name query object o = OnWorld name object (RepliesOnWorld query) o

-- ---- the object of a file

-- what is said on the object that the bytes of a file spell, or the refusal of the file, which has this name
abbrev pub OnObject : List ℕ → List ℕ → (Object → Outcome → Type 0) → Outcome → Type 0
OnObject name bytes Says o = IsBytes bytes × (((object : Object) × ObjectSpells object bytes × Says object o)
    ⊎ ((f : Fault) × FileFault bytes f × (o ≡ refused name f)))

-- the object that the bytes of a file spell, or the refusal of the file, which has this name
abbrev pub IsObjectOf : List ℕ → List ℕ → Result Object Outcome → Type 0
IsObjectOf name bytes (Ok object) = Spells bytes object
IsObjectOf name bytes (Err o) = (f : Fault) × SpellsNone bytes f × (o ≡ refused name f)

-- how much an object has
abbrev pub Counts : Object → World → Outcome → Type 0
Counts object world o = o ≡ printed DONE (check_text (named_of object) world)

-- how much an object has, whose file has this name
abbrev pub Checks : List ℕ → Object → Outcome → Type 0
Checks name object o = OnWorld name object (Counts object) o

-- the dump of an object
abbrev pub Dumps : Object → Outcome → Type 0
Dumps object o = o ≡ printed DONE (dump_text object)

-- the assembly of an object
abbrev pub Lists : Object → Outcome → Type 0
Lists object o = o ≡ printed DONE (listing object)

-- ---- an assembly source

-- the file of what was assembled is stored, or the source, which has this name, is refused
abbrev pub kept_object : List ℕ → List ℕ → Result Object Fault → Outcome
kept_object name out (Ok object) = kept out (file_of object)
kept_object name out (Err f) = refused_or_limit name f

-- ---- any command

-- the outcome of a command whose inputs have these contents
abbrev pub Answers : Command → List (List ℕ) → Outcome → Type 0
Answers (commands.Query file query) texts o = OnObject file (first texts) (RepliesOnObject file query) o
Answers (commands.Check file) texts o = OnObject file (first texts) (Checks file) o
Answers (commands.Dump file) texts o = OnObject file (first texts) Dumps o
Answers (commands.List file) texts o = OnObject file (first texts) Lists o
Answers (commands.As order file out) texts o = o ≡ kept_object file out (assembled order (read_source (first texts)))
Answers (commands.Link mode base out names) texts o = LinksFiles mode base out names texts o
Answers (commands.Ask names query) texts o = AsksFiles query names texts o

-- the outcome of a command whose inputs come to this
abbrev pub RepliesTo : Command → Inputs → Outcome → Type 0
RepliesTo command (All texts) o = Answers command texts o
RepliesTo command (Faulty at cause.Absent) o = o ≡ absent (name_at (inputs_of command) at)
RepliesTo command (Faulty at cause.Long) o = o ≡ limit (most_of command)
RepliesTo command (Faulty at cause.Failed) o = o ≡ read_fault (name_at (inputs_of command) at)
RepliesTo command TooMuch o = o ≡ limit FILE_LIMIT
RepliesTo command TooMany o = o ≡ limit MOST_NAMES

-- the outcome of what was asked, over these contents
abbrev pub Means : Asked → Contents → Outcome → Type 0
Means (asks.Wrong at) m o = o ≡ usage at
Means (asks.Command command) m o = RepliesTo command (loaded_inputs m (most_of command) FILE_LIMIT (inputs_of command)) o

-- the outcome of words over these contents
abbrev pub IsOutcome : List (List ℕ) → Contents → Outcome → Type 0
IsOutcome words m o = Means (asked words) m o

-- the contents are bytes, as those of files are
abbrev pub AreBytes : Contents → Type 0
AreBytes m = (name bytes : List ℕ) → get m name ≡ Some bytes → IsBytes bytes
