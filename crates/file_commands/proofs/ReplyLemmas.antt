-- What is replied on the bytes of files, from what was said on their objects, or on the worlds of these.
use Rattle.std.proofs.Common.{◌≡◌, ℕ, inl, inr, List, Result, Ok, Err, sym, ap, subst, ◌∙◌}
use Rattle.std.specs.Prelude.{IfOk}
use Rattle.st_base.specs.declared.fault.Fault.{Fault}
use Rattle.nlist_codec.specs.declared.named.Named.{Named}
use Rattle.aout_object.specs.Objects.{named_of}
use Rattle.unit_index.specs.Expanding.{IsExpanded, ExpandFault}
use Rattle.aout_object.specs.Objects.{Contents as Object}
use Rattle.type_graph.specs.declared.world.World.{World}
use Rattle.query_text.specs.declared.query.Query.{Query}
use Rattle.command_line.specs.declared.command.Command.{Command}
use Rattle.command_line.specs.declared.command.Command.TheVariants as commands
use Rattle.file_commands.specs.declared.outcome.Outcome.{Outcome}
use Rattle.command_line.specs.CommandWords.{first}
use Rattle.file_commands.specs.declared.outcome.TheConstants.{DONE}
use Rattle.file_commands.specs.Checking.{check_text}
use Rattle.file_commands.specs.Outcomes.{printed, refused}
use Rattle.bincl_match.specs.declared.mode.Mode.{Mode}
use Rattle.file_commands.specs.LinkOutcomes.{LinksFiles}
use Rattle.file_commands.specs.Asking.{AsksFiles}
use Rattle.file_commands.specs.QueryOutcomes.{text_end, WorldFault, OnWorld, Counts, OnObject, IsObjectOf, Answers}

-- the fault of entries, where text ends at an address, is that of the object whose entries they are and whose text ends there
pub world_fault : (object : Object) (end : ℕ) (entries : List Named) (f : Fault) → end ≡ text_end object → entries ≡ named_of object
    → ExpandFault end entries f → WorldFault object f
world_fault object end entries f same are fault =
    subst (λ (z : List Named). ExpandFault (text_end object) z f) are (subst (λ (z : ℕ). ExpandFault z entries f) same fault)

-- how much entries have, where text ends at an address, is how much the object has whose entries they are and whose text ends there
pub by_counted : (name : List ℕ) (object : Object) (end : ℕ) (entries : List Named) (world : World) (o : Outcome) → end ≡ text_end object → entries ≡ named_of object
    → IsExpanded end entries world → o ≡ printed DONE (check_text entries world) → OnWorld name object (Counts object) o
by_counted name object end entries world o same are is told =
    let there = subst (λ (z : List Named). IsExpanded (text_end object) z world) are (subst (λ (z : ℕ). IsExpanded z entries world) same is) in
    inl ((world, there, told ∙ ap (λ (z : List Named). printed DONE (check_text z world)) are))

-- the refusal of an object
pub by_world_fault : {E : Type 0} (name : List ℕ) (object : Object) (Says : World → Outcome → Type 0) (f : Fault) (res : Result Outcome E)
    → WorldFault object f → IfOk res (λ o. o ≡ refused name f) → IfOk res (OnWorld name object Says)
by_world_fault name object Says f (Err e) is said = tt
by_world_fault name object Says f (Ok o) is said = inr ((f, is, said))

-- what is said on the object that the bytes spell
pub by_object : {E : Type 0} (name bytes : List ℕ) (Says : Object → Outcome → Type 0) (object : Object) (res : Result Outcome E)
    → IsObjectOf name bytes (Ok object) → IfOk res (Says object) → IfOk res (OnObject name bytes Says)
by_object name bytes Says object (Err e) spells said = tt
by_object name bytes Says object (Ok o) spells said = (spells.0, inl ((object, spells.1, said)))

-- the refusal of the bytes
pub by_refusal : (name bytes : List ℕ) (Says : Object → Outcome → Type 0) (o : Outcome) → IsObjectOf name bytes (Err o) → OnObject name bytes Says o
by_refusal name bytes Says o is = (is.1.0, inr ((is.0, is.1.1, is.2)))

-- what is said on the bytes that were read is the answer to the command
pub by_command : {E : Type 0} (command of : Command) (texts : List (List ℕ)) (name read : List ℕ) (Says : Object → Outcome → Type 0) (res : Result Outcome E)
    → IfOk res (OnObject name read Says) → read ≡ first texts → command ≡ of
    → ((o : Outcome) → OnObject name (first texts) Says o → Answers of texts o) → IfOk res (Answers command texts)
by_command command of texts name read Says (Err e) said same is answers = tt
by_command command of texts name read Says (Ok o) said same is answers =
    subst (λ (z : Command). Answers z texts o) (sym is) (answers o (subst (λ (z : List ℕ). OnObject name z Says o) same said))

-- the image of the files that were read is the answer to the command
pub by_link : {E : Type 0} (command : Command) (mode : Mode) (base : ℕ) (out : List ℕ) (files texts : List (List ℕ)) (res : Result Outcome E)
    → IfOk res (LinksFiles mode base out files texts) → command ≡ commands.Link mode base out files → IfOk res (Answers command texts)
by_link command mode base out files texts (Err e) said is = tt
by_link command mode base out files texts (Ok o) said is = subst (λ (z : Command). Answers z texts o) (sym is) said

-- and so is the reply on it
pub by_ask : {E : Type 0} (command : Command) (query : Query) (files texts : List (List ℕ)) (res : Result Outcome E)
    → IfOk res (AsksFiles query files texts) → command ≡ commands.Ask files query → IfOk res (Answers command texts)
by_ask command query files texts (Err e) said is = tt
by_ask command query files texts (Ok o) said is = subst (λ (z : Command). Answers z texts o) (sym is) said
