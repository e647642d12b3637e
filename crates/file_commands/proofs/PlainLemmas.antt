-- What is answered on the contents of all inputs needs no cause: its status is that of a refusal, a limit or success, and what it stores has a
-- name of the command.
use Rattle.std.proofs.Common.{if◌then◌else◌, ◌≡◌, ◌≢◌, ℕ, inl, inr, Bool, true, false, List, [], ◌∷◌, ◌++◌, Option, Some, None, Result, Ok, Err, refl, sym, ap, subst, ◌∙◌}
use Rattle.std.specs.Prelude.{◌==◌, IfSome}
use Rattle.std.specs.List.{list_any}
use Rattle.std.proofs.lemmas.Bool.{true≢false}
use Rattle.st_base.specs.declared.fault.Fault.{Fault}
use Rattle.aout_object.specs.Objects.{named_of, file_of}
use Rattle.aout_object.specs.Objects.{Contents as Object}
use Rattle.st_base.specs.declared.fault.TheConstants.{TOO_LARGE}
use Rattle.stabs_asm.specs.Assembling.{assembled}
use Rattle.asm_statements.specs.SourceLines.{read_source}
use Rattle.stabs_asm.specs.Listing.{listing}
use Rattle.file_commands.specs.Checking.{check_text}
use Rattle.file_commands.specs.Dump.{dump_text}
use Rattle.type_graph.specs.declared.world.World.{World}
use Rattle.query_text.specs.declared.query.Query.{Query}
use Rattle.command_line.specs.declared.command.Command.{Command}
use Rattle.command_line.specs.declared.command.Command.TheVariants as commands
use Rattle.command_line.specs.declared.command.Asked.TheVariants as asks
use Rattle.file_commands.specs.declared.outcome.Content.{Content}
use Rattle.file_commands.specs.declared.outcome.Outcome.{Outcome}
use Rattle.file_commands.specs.declared.outcome.TheConstants.{DONE, USAGE, REFUSED, LIST_REFUSED, ABSENT, READ_FAULT, WRITE_FAULT, NO_MEMORY, LIMIT}
use Rattle.command_line.specs.Commands.{IsWritten}
use Rattle.command_line.specs.CommandWords.{first}
use Rattle.file_commands.specs.Outcomes.{printed, limit, refused, list_refused, list_refused_at, kept, kept_with, is_status}
use Rattle.file_commands.specs.Inputs.{name_at}
use Rattle.aout_link.specs.Sources.{Source}
use Rattle.bincl_match.specs.declared.mode.Mode.{Mode}
use Rattle.file_commands.specs.InputObjects.{OnEach}
use Rattle.file_commands.specs.LinkOutcomes.{image_text, entry_name, is_about_name, list_outcome, LinksSources, LinksObjects}
use Rattle.file_commands.specs.Asking.{AsksSources, AsksObjects}
use Rattle.file_commands.specs.QueryOutcomes.{OnWorld, RepliesOnWorld, RepliesOnObject, OnObject, Counts, Checks, Dumps, Lists, kept_object, Answers}
use Rattle.file_commands.proofs.LineLemmas.{Prints, prints_of, prints_limit, prints_refused, prints_list, prints_list_at}

-- where nothing is stored, what is stored has any name
pub unnamed : (P : List ℕ → Type 0) (content : Option Content) → content ≡ None → IfSome content (λ c. P c.name)
unnamed P (Some c) e = absurd cc
unnamed P None e = tt

-- the outcome has a status that needs no cause, and stores nothing but under a name of these
pub record IsPlain (Writes : List ℕ → Type 0) (o : Outcome) : Type 0 where
  pub status : is_status o.status ≡ true
  pub not_usage : o.status ≢ USAGE
  pub not_absent : o.status ≢ ABSENT
  pub not_read : o.status ≢ READ_FAULT
  pub not_write : o.status ≢ WRITE_FAULT
  pub not_memory : o.status ≢ NO_MEMORY
  pub stored_alone : o.status ≢ DONE → o.stored ≡ None
  pub stored_name : IfSome o.stored (λ content. Writes content.name)

-- the statuses of these
is_plain : ℕ → Bool
is_plain number = list_any (λ status. status == number) (DONE ∷ REFUSED ∷ LIST_REFUSED ∷ LIMIT ∷ [])

-- such a status is no other
differs : (status : ℕ) (o : Outcome) → o.status ≡ status → is_plain status ≡ true → (other : ℕ) → is_plain other ≡ false → o.status ≢ other
differs status o is plain other none e = let same : status ≡ other = sym is ∙ e in absurd (true≢false (sym plain ∙ ap is_plain same ∙ none))

module _ (Writes : List ℕ → Type 0) where
  -- an outcome with such a status is one
  plain_of : (status : ℕ) (o : Outcome) → o.status ≡ status → is_status status ≡ true → is_plain status ≡ true → (o.status ≢ DONE → o.stored ≡ None)
      → IfSome o.stored (λ content. Writes content.name) → IsPlain Writes o
  unfolding is_plain
  plain_of status o is listed plain alone named = record {
    status = ap is_status is ∙ listed;
    not_usage = differs status o is plain USAGE refl;
    not_absent = differs status o is plain ABSENT refl;
    not_read = differs status o is plain READ_FAULT refl;
    not_write = differs status o is plain WRITE_FAULT refl;
    not_memory = differs status o is plain NO_MEMORY refl;
    stored_alone = alone;
    stored_name = named;
  }

  -- one that stores nothing
  prints_plain : (status : ℕ) (o : Outcome) → Prints status o → is_status status ≡ true → is_plain status ≡ true → IsPlain Writes o
  prints_plain status o p listed plain = plain_of status o p.answers listed plain (λ _. p.alone) (unnamed Writes o.stored p.alone)

  plain_done : (o : Outcome) → Prints DONE o → IsPlain Writes o
  unfolding is_plain
  plain_done o p = prints_plain DONE o p refl refl

  plain_refused : (o : Outcome) → Prints REFUSED o → IsPlain Writes o
  unfolding is_plain
  plain_refused o p = prints_plain REFUSED o p refl refl

  pub plain_limit : (o : Outcome) → Prints LIMIT o → IsPlain Writes o
  unfolding is_plain
  plain_limit o p = prints_plain LIMIT o p refl refl

  plain_list : (o : Outcome) → Prints LIST_REFUSED o → IsPlain Writes o
  unfolding is_plain
  plain_list o p = prints_plain LIST_REFUSED o p refl refl

  -- one that stores under such a name and prints
  kept_with_plain : (name bytes text : List ℕ) → Writes name → IsPlain Writes (kept_with name bytes text)
  unfolding is_plain
  kept_with_plain name bytes text named = plain_of DONE (kept_with name bytes text) refl refl refl (λ other. absurd (other refl)) named

  -- one that stores under such a name
  kept_plain : (name bytes : List ℕ) → Writes name → IsPlain Writes (kept name bytes)
  unfolding is_plain
  kept_plain name bytes named = plain_of DONE (kept name bytes) refl refl refl (λ other. absurd (other refl)) named

  on_world_plain : (query : Query) (world : World) (o : Outcome) → RepliesOnWorld query world o → IsPlain Writes o
  on_world_plain query world o h = subst (IsPlain Writes) (sym h.2) (plain_done (printed DONE _) (prints_of DONE _))

  refused_plain : (name : List ℕ) (f : Fault) (o : Outcome) → o ≡ refused name f → IsPlain Writes o
  refused_plain name f o h = subst (IsPlain Writes) (sym h) (plain_refused (refused name f) (prints_refused name f))

  -- what is said on the world of an object, or its refusal
  world_plain : (name : List ℕ) (object : Object) (Says : World → Outcome → Type 0) → ((world : World) (o : Outcome) → Says world o → IsPlain Writes o)
      → (o : Outcome) → OnWorld name object Says o → IsPlain Writes o
  world_plain name object Says plain o (inl h) = plain h.0 o h.2
  world_plain name object Says plain o (inr h) = refused_plain name h.0 o h.2

  text_plain : (text : List ℕ) (o : Outcome) → o ≡ printed DONE text → IsPlain Writes o
  text_plain text o h = subst (IsPlain Writes) (sym h) (plain_done (printed DONE text) (prints_of DONE text))

  object_plain : (name bytes : List ℕ) (Says : Object → Outcome → Type 0) → ((object : Object) (o : Outcome) → Says object o → IsPlain Writes o)
      → (o : Outcome) → OnObject name bytes Says o → IsPlain Writes o
  object_plain name bytes Says plain o (are, inl h) = plain h.0 o h.2
  object_plain name bytes Says plain o (are, inr h) = refused_plain name h.0 o h.2

  -- a fault that may be a limit
  either_plain : (name : List ℕ) (f : Fault) (large : Bool) → IsPlain Writes (if large then limit f.place else refused name f)
  either_plain name f true = plain_limit (limit f.place) (prints_limit f.place)
  either_plain name f false = refused_plain name f (refused name f) refl

  kept_object_plain : (name out : List ℕ) → Writes out → (made : Result Object Fault) → IsPlain Writes (kept_object name out made)
  kept_object_plain name out named (Ok object) = kept_plain out (file_of object) named
  kept_object_plain name out named (Err f) = either_plain name f (f.number == TOO_LARGE)

  -- what is said on all of a list, or the refusal of one
  each_plain : {A B : Type 0} (Holds : A → B → Type 0) (Fails : A → Fault → Type 0) (names : List (List ℕ)) (xs : List A) (Says : List B → Outcome → Type 0)
      → ((ys : List B) (o : Outcome) → Says ys o → IsPlain Writes o) → (o : Outcome) → OnEach Holds Fails names xs Says o → IsPlain Writes o
  each_plain Holds Fails names xs Says plain o (inl h) = plain h.0 o h.2
  each_plain Holds Fails names xs Says plain o (inr h) = refused_plain (name_at names h.0) h.1 o h.3

  -- a fault of a list, which may be a limit or about a name
  named_plain : (sources : List Source) (f : Fault) (named : Bool) → IsPlain Writes (if named then list_refused_at f (entry_name sources f) else list_refused f)
  named_plain sources f true = plain_list (list_refused_at f (entry_name sources f)) (prints_list_at f (entry_name sources f))
  named_plain sources f false = plain_list (list_refused f) (prints_list f)

  list_plain_by : (sources : List Source) (f : Fault) (large named : Bool)
      → IsPlain Writes (if large then limit f.place else (if named then list_refused_at f (entry_name sources f) else list_refused f))
  list_plain_by sources f true named = plain_limit (limit f.place) (prints_limit f.place)
  list_plain_by sources f false named = named_plain sources f named

  list_plain : (sources : List Source) (f : Fault) → IsPlain Writes (list_outcome sources f)
  list_plain sources f = list_plain_by sources f (f.number == TOO_LARGE) (is_about_name f)

  sources_plain : (mode : Mode) (base : ℕ) (out : List ℕ) → Writes out → (sources : List Source) (o : Outcome) → LinksSources mode base out sources o → IsPlain Writes o
  sources_plain mode base out named sources o (inl h) = subst (IsPlain Writes) (sym h.3) (kept_with_plain out (file_of h.0.object) (image_text h.0) named)
  sources_plain mode base out named sources o (inr h) = subst (IsPlain Writes) (sym h.2) (list_plain sources h.0)

  objects_plain : (mode : Mode) (base : ℕ) (out : List ℕ) (names : List (List ℕ)) → Writes out → (objects : List Object) (o : Outcome) → LinksObjects mode base out names objects o
      → IsPlain Writes o
  objects_plain mode base out names named objects o h = each_plain _ _ names objects (LinksSources mode base out) (sources_plain mode base out named) o h

  -- a reply on the image of sources
  asked_plain : (query : Query) (sources : List Source) (o : Outcome) → AsksSources query sources o → IsPlain Writes o
  asked_plain query sources o (inl h) = let r = h.3 in text_plain (image_text h.0 ++ r.2) o r.4
  asked_plain query sources o (inr h) = subst (IsPlain Writes) (sym h.2) (list_plain sources h.0)

  asked_objects_plain : (query : Query) (names : List (List ℕ)) (objects : List Object) (o : Outcome) → AsksObjects query names objects o → IsPlain Writes o
  asked_objects_plain query names objects o h = each_plain _ _ names objects (AsksSources query) (asked_plain query) o h

-- the answer to a command needs no cause, and what it stores has the name that the command says
pub answers_plain : (command : Command) (texts : List (List ℕ)) (o : Outcome) → Answers command texts o → IsPlain (IsWritten (asks.Command command)) o
answers_plain (commands.Query file query) texts o h =
    object_plain _ file (first texts) (RepliesOnObject file query) (λ object. world_plain _ file object (RepliesOnWorld query) (on_world_plain _ query)) o h
answers_plain (commands.Check file) texts o h =
    object_plain _ file (first texts) (Checks file) (λ object. world_plain _ file object (Counts object) (λ world. text_plain _ (check_text (named_of object) world))) o h
answers_plain (commands.Dump file) texts o h = object_plain _ file (first texts) Dumps (λ object. text_plain _ (dump_text object)) o h
answers_plain (commands.List file) texts o h = object_plain _ file (first texts) Lists (λ object. text_plain _ (listing object)) o h
answers_plain (commands.As order file out) texts o h =
    let made = assembled order (read_source (first texts)) in
    subst (IsPlain (IsWritten (asks.Command (commands.As order file out)))) (sym h) (kept_object_plain _ file out refl made)
answers_plain (commands.Link mode base out names) texts o h =
    each_plain _ _ _ names texts (LinksObjects mode base out names) (objects_plain _ mode base out names refl) o h
answers_plain (commands.Ask names query) texts o h =
    each_plain _ _ _ names texts (AsksObjects query names) (asked_objects_plain _ query names) o h
