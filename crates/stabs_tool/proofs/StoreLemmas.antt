-- An outcome that is done stores what its command stores: a content under the name of the command, or nothing.
use Rattle.std.proofs.Common.{if◌then◌else◌, ◌≡◌, ◌≢◌, ℕ, inl, inr, Bool, true, false, List, Option, Some, None, Result, Ok, Err, refl, sym, ap, ◌∙◌}
use Rattle.std.specs.Prelude.{◌==◌, IfSome}
use Rattle.std.specs.Option.{option_map}
use Rattle.std.proofs.lemmas.Bool.{eqb-false}
use Rattle.st_base.specs.declared.fault.Fault.{Fault}
use Rattle.st_base.specs.declared.fault.TheConstants.{TOO_LARGE}
use Rattle.aout_object.specs.Objects.{file_of}
use Rattle.aout_object.specs.Objects.{Contents as Object}
use Rattle.aout_link.specs.Sources.{Source}
use Rattle.bincl_match.specs.declared.mode.Mode.{Mode}
use Rattle.stabs_asm.specs.Assembling.{assembled}
use Rattle.asm_statements.specs.SourceLines.{read_source}
use Rattle.command_line.specs.declared.command.Command.{Command}
use Rattle.command_line.specs.declared.command.Command.TheVariants as commands
use Rattle.command_line.specs.Commands.{output_of}
use Rattle.command_line.specs.CommandWords.{first}
use Rattle.file_commands.specs.declared.outcome.Content.{Content}
use Rattle.file_commands.specs.declared.outcome.Outcome.{Outcome}
use Rattle.file_commands.specs.declared.outcome.TheConstants.{DONE, REFUSED, LIST_REFUSED, LIMIT}
use Rattle.file_commands.specs.Outcomes.{limit, refused, list_refused, list_refused_at}
use Rattle.file_commands.specs.Inputs.{name_at}
use Rattle.file_commands.specs.InputObjects.{OnEach}
use Rattle.file_commands.specs.LinkOutcomes.{entry_name, is_about_name, list_outcome, LinksSources, LinksObjects}
use Rattle.file_commands.specs.QueryOutcomes.{kept_object, Answers}
use Rattle.file_commands.proofs.LineLemmas.{Prints, prints_limit, prints_refused, prints_list, prints_list_at}
use Rattle.file_commands.proofs.PlainLemmas.{answers_plain}

-- if the outcome is done, it stores something
abbrev StoresIfDone : Outcome → Type 0
StoresIfDone o = o.status ≡ DONE → (content : Content) × (o.stored ≡ Some content)

-- an outcome that prints alone with another status
prints_other : (status : ℕ) (o line : Outcome) → Prints status line → status ≢ DONE → o ≡ line → StoresIfDone o
prints_other status o line p other is done = absurd (other (sym p.answers ∙ sym (ap (λ (z : Outcome). z.status) is) ∙ done))

refused_stores : (name : List ℕ) (f : Fault) (o : Outcome) → o ≡ refused name f → StoresIfDone o
refused_stores name f o is = prints_other REFUSED o (refused name f) (prints_refused name f) (eqb-false REFUSED DONE refl) is

limit_stores : (most : ℕ) (o : Outcome) → o ≡ limit most → StoresIfDone o
limit_stores most o is = prints_other LIMIT o (limit most) (prints_limit most) (eqb-false LIMIT DONE refl) is

-- ---- assembling

either_stores : (name : List ℕ) (f : Fault) (large : Bool) (o : Outcome) → o ≡ (if large then limit f.place else refused name f) → StoresIfDone o
either_stores name f true o is = limit_stores f.place o is
either_stores name f false o is = refused_stores name f o is

object_stores : (name out : List ℕ) (made : Result Object Fault) (o : Outcome) → o ≡ kept_object name out made → StoresIfDone o
object_stores name out (Ok object) o is done = (record { name = out; bytes = file_of object }, ap (λ (z : Outcome). z.stored) is)
object_stores name out (Err f) o is done = either_stores name f (f.number == TOO_LARGE) o is done

-- ---- linking

each_stores : {A B : Type 0} (Holds : A → B → Type 0) (Fails : A → Fault → Type 0) (names : List (List ℕ)) (xs : List A) (Says : List B → Outcome → Type 0)
    → ((ys : List B) (o : Outcome) → Says ys o → StoresIfDone o) → (o : Outcome) → OnEach Holds Fails names xs Says o → StoresIfDone o
each_stores Holds Fails names xs Says stores o (inl h) = stores h.0 o h.2
each_stores Holds Fails names xs Says stores o (inr h) = refused_stores (name_at names h.0) h.1 o h.3

named_stores : (sources : List Source) (f : Fault) (named : Bool) (o : Outcome)
    → o ≡ (if named then list_refused_at f (entry_name sources f) else list_refused f) → StoresIfDone o
named_stores sources f true o is =
    prints_other LIST_REFUSED o (list_refused_at f (entry_name sources f)) (prints_list_at f (entry_name sources f)) (eqb-false LIST_REFUSED DONE refl) is
named_stores sources f false o is = prints_other LIST_REFUSED o (list_refused f) (prints_list f) (eqb-false LIST_REFUSED DONE refl) is

list_stores : (sources : List Source) (f : Fault) (large named : Bool) (o : Outcome)
    → o ≡ (if large then limit f.place else (if named then list_refused_at f (entry_name sources f) else list_refused f)) → StoresIfDone o
list_stores sources f true named o is = limit_stores f.place o is
list_stores sources f false named o is = named_stores sources f named o is

sources_stores : (mode : Mode) (base : ℕ) (out : List ℕ) (sources : List Source) (o : Outcome) → LinksSources mode base out sources o → StoresIfDone o
sources_stores mode base out sources o (inl h) done = (record { name = out; bytes = file_of h.0.object }, ap (λ (z : Outcome). z.stored) h.3)
sources_stores mode base out sources o (inr h) done = list_stores sources h.0 (h.0.number == TOO_LARGE) (is_about_name h.0) o h.2 done

objects_stores : (mode : Mode) (base : ℕ) (out : List ℕ) (names : List (List ℕ)) (objects : List Object) (o : Outcome) → LinksObjects mode base out names objects o
    → StoresIfDone o
objects_stores mode base out names objects o h = each_stores _ _ names objects (LinksSources mode base out) (sources_stores mode base out) o h

-- ---- any command

-- a command that names a file to store stores one, if it is done
must_store : (command : Command) (texts : List (List ℕ)) (o : Outcome) → Answers command texts o → output_of command ≢ None → StoresIfDone o
must_store (commands.Query file query) texts o h some = absurd (some refl)
must_store (commands.Check file) texts o h some = absurd (some refl)
must_store (commands.Dump file) texts o h some = absurd (some refl)
must_store (commands.List file) texts o h some = absurd (some refl)
must_store (commands.As order file out) texts o h some = object_stores file out (assembled order (read_source (first texts))) o h
must_store (commands.Link mode base out names) texts o h some = each_stores _ _ names texts (LinksObjects mode base out names) (objects_stores mode base out names) o h
must_store (commands.Ask names query) texts o h some = absurd (some refl)

-- what is stored has the name that is to be stored
name_of : (output : Option (List ℕ)) (stored : Option Content) → IfSome stored (λ content. output ≡ Some content.name)
    → (output ≢ None → (content : Content) × (stored ≡ Some content)) → option_map (λ content. content.name) stored ≡ output
name_of None None named must = refl
name_of None (Some content) named must = absurd cc
name_of (Some out) None named must = let m = must (λ e. absurd cc) in let e : None ≡ Some m.0 = m.1 in absurd cc
name_of (Some out) (Some content) named must = sym named

-- an outcome that is done stores what the command stores
pub answers_store : (command : Command) (texts : List (List ℕ)) (o : Outcome) → Answers command texts o → o.status ≡ DONE
    → option_map (λ content. content.name) o.stored ≡ output_of command
answers_store command texts o h done =
    name_of (output_of command) o.stored (answers_plain command texts o h).stored_name (λ some. must_store command texts o h some done)
