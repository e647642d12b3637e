-- Words have an outcome over all contents that are bytes.
use Rattle.std.proofs.Common.{◌≡◌, ◌⊎◌, inl, inr, ℕ, ◌+◌, ◌<◌, ◌≤◌, ◌^◌, Bool, true, false, List, [], ◌∷◌, ◌++◌, length, Option, Some, None, refl}
use Rattle.std.specs.Prelude.{nat_lt, if◌then◌else◌, All as All'}
use Rattle.std.specs.List.{sum_by, AllByRecursion}
use Rattle.std.specs.FinMap.{get}
use Rattle.outside.specs.Causes.{Contents}
use Rattle.st_base.specs.Number.{IsBytes}
use Rattle.st_base.specs.declared.fault.Fault.{Fault}
use Rattle.st_base.specs.declared.sizes.TheConstants.{FILE_LIMIT}
use Rattle.aout_object.specs.Objects.{ObjectSpells, named_of}
use Rattle.aout_object.specs.Objects.{Contents as Object}
use Rattle.aout_object.specs.Checks.{FileFault}
use Rattle.nlist_codec.specs.declared.named.Named.{Named}
use Rattle.stab_units.specs.declared.unit.Unit.{Unit as UnitOf}
use Rattle.stab_units.specs.ObjectUnits.{AreUnits, UnitsFault}
use Rattle.type_graph.specs.declared.world.World.{World}
use Rattle.unit_index.specs.Expanding.{IsExpanded, ExpandFault}
use Rattle.st_base.specs.declared.fault.Refused.TheVariants as refusals
use Rattle.aout_link.specs.Sources.{Source, IsLawful, HasUnits}
use Rattle.aout_link.specs.Linking.{IsLinked, RefusesLink}
use Rattle.aout_link.specs.NameTables.{entries_of}
use Rattle.aout_link.specs.declared.linking.Image.{Image}
use Rattle.bincl_match.specs.declared.mode.Mode.{Mode}
use Rattle.query_text.specs.declared.query.Query.{Query}
use Rattle.query_text.specs.Replies as replies
use Rattle.command_line.specs.declared.command.Command.{Command}
use Rattle.command_line.specs.declared.command.Command.TheVariants as commands
use Rattle.command_line.specs.declared.command.Asked.{Asked}
use Rattle.command_line.specs.declared.command.Asked.TheVariants as asks
use Rattle.file_commands.specs.declared.inputs.Cause.TheVariants as cause
use Rattle.file_commands.specs.declared.inputs.Inputs.{Inputs}
use Rattle.file_commands.specs.declared.inputs.Inputs.TheVariants.{All, Fault as Faulty, TooMuch, TooMany}
use Rattle.command_line.specs.declared.limits.TheConstants.{MOST_NAMES}
use Rattle.file_commands.specs.declared.outcome.Outcome.{Outcome}
use Rattle.file_commands.specs.declared.outcome.TheConstants.{DONE}
use Rattle.stabs_asm.specs.Assembling.{assembled}
use Rattle.asm_statements.specs.SourceLines.{read_source}
use Rattle.stabs_asm.specs.Listing.{listing}
use Rattle.file_commands.specs.Checking.{check_text}
use Rattle.file_commands.specs.Dump.{dump_text}
use Rattle.command_line.specs.CommandWords.{first}
use Rattle.command_line.specs.Commands.{asked, inputs_of, most_of}
use Rattle.file_commands.specs.Inputs.{loaded_inputs, few_inputs, inputs_from, after_content, name_at}
use Rattle.file_commands.specs.Outcomes.{printed, usage, absent, read_fault, limit, refused}
use Rattle.file_commands.specs.QueryOutcomes.{text_end, OnWorld, RepliesOnWorld, RepliesOnObject, OnObject, Counts, Checks, Dumps, Lists, kept_object, Answers, RepliesTo, Means, IsOutcome, AreBytes}
use Rattle.file_commands.proofs.FewEntries.{IsWithin, loaded_within}
use Rattle.file_commands.proofs.LinkLaws.{on_files, ask_files}

-- ---- what is loaded is bytes

-- each text is bytes
abbrev AllBytes : List (List ℕ) → Type 0
AllBytes [] = Unit {0}
AllBytes (text ∷ texts) = IsBytes text × AllBytes texts

all_bytes-push : (texts : List (List ℕ)) (text : List ℕ) → AllBytes texts → IsBytes text → AllBytes (texts ++ text ∷ [])
all_bytes-push [] text all one = (one, tt)
all_bytes-push (t ∷ texts) text all one = (all.0, all_bytes-push texts text all.1 one)

all_by_recursion : (texts : List (List ℕ)) → AllBytes texts → AllByRecursion IsBytes texts
all_by_recursion [] all = tt
all_by_recursion (text ∷ texts) all = (all.0, all_by_recursion texts all.1)

first_bytes : (texts : List (List ℕ)) → AllBytes texts → IsBytes (first texts)
first_bytes [] all = tt
first_bytes (text ∷ texts) all = all.0

-- all contents that inputs come to are bytes
abbrev HasBytes : Inputs → Type 0
HasBytes (All texts) = AllBytes texts
HasBytes other = Unit {0}

within_bytes : (texts : List (List ℕ)) → AllBytes texts → (long : Bool) → HasBytes (if long then TooMuch else All texts)
within_bytes texts all true = tt
within_bytes texts all false = all

long_bytes : (at : ℕ) (inputs : Inputs) → HasBytes inputs → (long : Bool) → HasBytes (if long then Faulty at cause.Long else inputs)
long_bytes at inputs all true = tt
long_bytes at inputs all false = all

-- what the content of a name leads to has bytes, where that of all bytes does
content_bytes : (m : Contents) (are : AreBytes m) (name : List ℕ) (most at : ℕ) (next : List ℕ → Inputs) → ((text : List ℕ) → IsBytes text → HasBytes (next text))
    → (held : Option (List ℕ)) → get m name ≡ held → HasBytes (after_content most at next held)
content_bytes m are name most at next all None e = tt
content_bytes m are name most at next all (Some text) e = long_bytes at (next text) (all text (are name text e)) (nat_lt most (length text))

loaded_bytes : (m : Contents) (are : AreBytes m) (most total : ℕ) (texts : List (List ℕ)) (at : ℕ) (names : List (List ℕ)) → AllBytes texts → HasBytes (inputs_from m most total texts at names)
loaded_bytes m are most total texts at [] all = within_bytes texts all (nat_lt total (sum_by length texts))
loaded_bytes m are most total texts at (name ∷ names) all =
    content_bytes m are name most at (λ text. inputs_from m most total (texts ++ text ∷ []) (at + 1) names)
    (λ text one. loaded_bytes m are most total (texts ++ text ∷ []) (at + 1) names (all_bytes-push texts text all one)) (get m name) refl

-- unless the names are too many
all_inputs_bytes : (inputs : Inputs) → HasBytes inputs → (many : Bool) → HasBytes (if many then TooMany else inputs)
all_inputs_bytes inputs all true = tt
all_inputs_bytes inputs all false = all

all_loaded_bytes : (m : Contents) (are : AreBytes m) (most total : ℕ) (names : List (List ℕ)) → HasBytes (loaded_inputs m most total names)
all_loaded_bytes m are most total names =
    all_inputs_bytes (few_inputs m most total names) (loaded_bytes m are most total [] 0 names tt) (nat_lt MOST_NAMES (length names))

-- ---- an outcome

module _ (some : (end : ℕ) (entries : List Named) → ((units : List UnitOf) × AreUnits end entries units) ⊎ ((f : Fault) × UnitsFault end entries f))
    (world_or_fault : (end : ℕ) (entries : List Named) → ((world : World) × IsExpanded end entries world) ⊎ ((f : Fault) × ExpandFault end entries f))
    (object_or_fault : (bytes : List ℕ) → IsBytes bytes → ((object : Object) × ObjectSpells object bytes) ⊎ ((f : Fault) × FileFault bytes f))
    (a_reply : (world : World) (query : Query) → (text : List ℕ) × replies.Answers world query text)
    (image_or_fault : (mode : Mode) (base : ℕ) (os : List Source) (old : ℕ) → All' IsLawful os → All' HasUnits os → length (entries_of os) < 2 ^ 32
    → ((new : ℕ) × (image : Image) × IsLinked mode base os old new image) ⊎ ((f : Fault) × RefusesLink mode base os (refusals.At f))) where
  on_world : (query : Query) (world : World) → (o : Outcome) × RepliesOnWorld query world o
  on_world query world = let r = a_reply world query in (printed DONE r.0, (r.0, r.1, refl))

  on_object : (name : List ℕ) (object : Object) (Says : World → Outcome → Type 0) → ((world : World) → (o : Outcome) × Says world o) → (o : Outcome) × OnWorld name object Says o
  on_object name object Says says = by_world (world_or_fault (text_end object) (named_of object)) where
    by_world : ((world : World) × IsExpanded (text_end object) (named_of object) world) ⊎ ((f : Fault) × ExpandFault (text_end object) (named_of object) f)
        → (o : Outcome) × OnWorld name object Says o
    by_world (inl w) = let r = says w.0 in (r.0, inl ((w.0, w.1, r.1)))
    by_world (inr f) = (refused name f.0, inr ((f.0, f.1, refl)))

  on_file : (name bytes : List ℕ) (Says : Object → Outcome → Type 0) → ((object : Object) → (o : Outcome) × Says object o) → IsBytes bytes
      → (o : Outcome) × OnObject name bytes Says o
  on_file name bytes Says says are = by_object (object_or_fault bytes are) where
    by_object : ((object : Object) × ObjectSpells object bytes) ⊎ ((f : Fault) × FileFault bytes f) → (o : Outcome) × OnObject name bytes Says o
    by_object (inl s) = let r = says s.0 in (r.0, (are, inl ((s.0, s.1, r.1))))
    by_object (inr f) = (refused name f.0, (are, inr ((f.0, f.1, refl))))

  an_answer : (command : Command) (texts : List (List ℕ)) → AllBytes texts → sum_by length texts ≤ FILE_LIMIT → (o : Outcome) × Answers command texts o
  an_answer (commands.Query file query) texts all within =
      on_file file (first texts) (RepliesOnObject file query) (λ object. on_object file object (RepliesOnWorld query) (on_world query)) (first_bytes texts all)
  an_answer (commands.Check file) texts all within =
      on_file file (first texts) (Checks file) (λ object. on_object file object (Counts object) (λ world. (printed DONE (check_text (named_of object) world), refl))) (first_bytes texts all)
  an_answer (commands.Dump file) texts all within = on_file file (first texts) Dumps (λ object. (printed DONE (dump_text object), refl)) (first_bytes texts all)
  an_answer (commands.List file) texts all within = on_file file (first texts) Lists (λ object. (printed DONE (listing object), refl)) (first_bytes texts all)
  an_answer (commands.As order file out) texts all within = (kept_object file out (assembled order (read_source (first texts))), refl)
  an_answer (commands.Link mode base out names) texts all within = on_files some object_or_fault image_or_fault mode base out names texts (all_by_recursion texts all) within
  an_answer (commands.Ask names query) texts all within = ask_files some object_or_fault image_or_fault a_reply query names texts (all_by_recursion texts all) within

  a_result : (command : Command) (inputs : Inputs) → HasBytes inputs → IsWithin FILE_LIMIT inputs → (o : Outcome) × RepliesTo command inputs o
  a_result command (All texts) all within = an_answer command texts all within
  a_result command (Faulty at cause.Absent) all within = (absent (name_at (inputs_of command) at), refl)
  a_result command (Faulty at cause.Long) all within = (limit (most_of command), refl)
  a_result command (Faulty at cause.Failed) all within = (read_fault (name_at (inputs_of command) at), refl)
  a_result command TooMuch all within = (limit FILE_LIMIT, refl)
  a_result command TooMany all within = (limit MOST_NAMES, refl)

  a_meaning : (a : Asked) (m : Contents) → AreBytes m → (o : Outcome) × Means a m o
  a_meaning (asks.Wrong at) m are = (usage at, refl)
  a_meaning (asks.Command command) m are =
      a_result command (loaded_inputs m (most_of command) FILE_LIMIT (inputs_of command)) (all_loaded_bytes m are (most_of command) FILE_LIMIT (inputs_of command))
      (loaded_within m (most_of command) FILE_LIMIT (inputs_of command))

  -- words have an outcome
  pub outcome_exists : (words : List (List ℕ)) (m : Contents) → AreBytes m → (o : Outcome) × IsOutcome words m o
  outcome_exists words m are = a_meaning (asked words) m are
