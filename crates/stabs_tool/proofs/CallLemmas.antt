-- What a run calls, from what was called until its outcome was decided on and what carrying it out called.
use Rattle.std.proofs.Common.{◌≡◌, ◌≢◌, ◌⊎◌, inl, inr, ℕ, ◌+◌, ◌<◌, ◌≤◌, List, [], ◌∷◌, ◌++◌, length, take, Option, Some, None, Result, Ok, Err, refl, sym, ap, subst, arith, ◌∙◌}
use Rattle.std.specs.Prelude.{IfOk, IfSome}
use Rattle.std.specs.Option.{option_map}
use Rattle.std.specs.Result.{IsErr}
use Rattle.std.proofs.lemmas.Result.{IfOk-from_err}
use Rattle.std.proofs.lemmas.Bool.{eqb-false, cases_eq}
use Rattle.std.proofs.lemmas.List.{append-nil, take_all}
use Rattle.outside.specs.Calls.{Call, loads_of, stores_of}
use Rattle.outside.specs.declared.files.Stored.{Stored}
use Rattle.outside.specs.declared.files.Stored.TheVariants as answers
use Rattle.st_base.specs.declared.sizes.TheConstants.{FILE_LIMIT}
use Rattle.command_line.specs.declared.command.Command.{Command}
use Rattle.command_line.specs.declared.command.Asked.{Asked}
use Rattle.command_line.specs.declared.command.Asked.TheVariants as asks
use Rattle.command_line.specs.declared.limits.TheConstants.{MOST_NAMES}
use Rattle.command_line.specs.Commands.{inputs_of, output_of, most_of, IsWritten}
use Rattle.file_commands.specs.declared.inputs.Cause.TheVariants as cause
use Rattle.file_commands.specs.declared.inputs.Inputs.{Inputs}
use Rattle.file_commands.specs.declared.inputs.Inputs.TheVariants.{All, Fault as Faulty, TooMuch, TooMany}
use Rattle.file_commands.specs.declared.outcome.Content.{Content}
use Rattle.file_commands.specs.declared.outcome.Outcome.{Outcome}
use Rattle.file_commands.specs.declared.outcome.TheConstants.{DONE, USAGE, REFUSED, LIST_REFUSED, ABSENT, READ_FAULT, WRITE_FAULT, NO_MEMORY, LIMIT}
use Rattle.file_commands.specs.Outcomes.{usage, absent, read_fault, limit, write_fault_text}
use Rattle.file_commands.specs.RunCauses.{Gained}
use Rattle.file_commands.specs.Inputs.{HasCalled, LoadsNames, loaded_names, IsPlaced, name_at}
use Rattle.file_commands.specs.QueryOutcomes.{RepliesTo}
use Rattle.file_commands.proofs.LineLemmas.{Prints, prints_usage, prints_absent, prints_read_fault, prints_limit}
use Rattle.file_commands.proofs.PlainLemmas.{IsPlain, unnamed, answers_plain}
use Rattle.stabs_tool.specs.RunCalls.{IsAnswered, IsReportedLast, CommandCalls, Calls}
use Rattle.stabs_tool.specs.Carrying.{CallsStore, Follows}
use Rattle.stabs_tool.specs.Deciding.{IsLast, LoadedFor, DecidesCalls}
use Rattle.stabs_tool.proofs.Promises.{print_good}
use Rattle.stabs_tool.proofs.StoreLemmas.{answers_store}

-- such a status is not one with which all inputs were answered on
unanswered : (status other : ℕ) → status ≡ other → other ≢ DONE → other ≢ REFUSED → other ≢ LIST_REFUSED → ¬ (IsAnswered status)
unanswered status other is a b c (inl e) = a (sym is ∙ e)
unanswered status other is a b c (inr (inl e)) = b (sym is ∙ e)
unanswered status other is a b c (inr (inr e)) = c (sym is ∙ e)

no_answer : (status : ℕ) → status ≡ NO_MEMORY → ¬ (IsAnswered status)
no_answer status is = unanswered status NO_MEMORY is (eqb-false NO_MEMORY DONE refl) (eqb-false NO_MEMORY REFUSED refl) (eqb-false NO_MEMORY LIST_REFUSED refl)

no_write : (status : ℕ) → status ≡ WRITE_FAULT → ¬ (IsAnswered status)
no_write status is = unanswered status WRITE_FAULT is (eqb-false WRITE_FAULT DONE refl) (eqb-false WRITE_FAULT REFUSED refl) (eqb-false WRITE_FAULT LIST_REFUSED refl)

-- ---- deciding on the outcome of a command

module _ (command : Command) (before after : List Call) where
  abbrev names : List (List ℕ)
  names = inputs_of command

  abbrev Loads : ℕ → Type 0
  Loads count = HasCalled (most_of command) (take count names) before after

  abbrev Goal : Outcome → Type 0
  Goal o = LoadedFor command before after o

  -- all names are a front of them
  whole : HasCalled (most_of command) names before after → Loads (length names)
  whole called = subst (λ (z : List (List ℕ)). HasCalled (most_of command) z before after) (sym (take_all (length names) names (omega arith))) called

  limit_for : (count most : ℕ) → Loads count → Goal (limit most)
  limit_for count most called =
      let p = prints_limit most in
      record {
        count = count;
        calls = called;
        all = λ a. absurd (unanswered (limit most).status LIMIT p.answers (eqb-false LIMIT DONE refl) (eqb-false LIMIT REFUSED refl) (eqb-false LIMIT LIST_REFUSED refl) a);
        absent_last = λ e. absurd (eqb-false LIMIT ABSENT refl (sym p.answers ∙ e));
        read_fault_last = λ e. absurd (eqb-false LIMIT READ_FAULT refl (sym p.answers ∙ e));
        done = λ e. absurd (eqb-false LIMIT DONE refl (sym p.answers ∙ e));
        alone = λ _. p.alone;
        named = unnamed (IsWritten (asks.Command command)) (limit most).stored p.alone;
      }

  absent_for : (at : ℕ) → at < length names → Loads (at + 1) → Goal (absent (name_at names at))
  absent_for at within called =
      let p = prints_absent (name_at names at) in
      record {
        count = at + 1;
        calls = called;
        all = λ a. absurd (unanswered (absent (name_at names at)).status ABSENT p.answers (eqb-false ABSENT DONE refl) (eqb-false ABSENT REFUSED refl) (eqb-false ABSENT LIST_REFUSED refl) a);
        absent_last = λ _. (at, within, refl, refl);
        read_fault_last = λ e. absurd (eqb-false ABSENT READ_FAULT refl (sym p.answers ∙ e));
        done = λ e. absurd (eqb-false ABSENT DONE refl (sym p.answers ∙ e));
        alone = λ _. p.alone;
        named = unnamed (IsWritten (asks.Command command)) (absent (name_at names at)).stored p.alone;
      }

  failed_for : (at : ℕ) → at < length names → Loads (at + 1) → Goal (read_fault (name_at names at))
  failed_for at within called =
      let p = prints_read_fault (name_at names at) in
      record {
        count = at + 1;
        calls = called;
        all = λ a. absurd (unanswered (read_fault (name_at names at)).status READ_FAULT p.answers (eqb-false READ_FAULT DONE refl) (eqb-false READ_FAULT REFUSED refl) (eqb-false READ_FAULT LIST_REFUSED refl) a);
        absent_last = λ e. absurd (eqb-false READ_FAULT ABSENT refl (sym p.answers ∙ e));
        read_fault_last = λ _. (at, within, refl, refl);
        done = λ e. absurd (eqb-false READ_FAULT DONE refl (sym p.answers ∙ e));
        alone = λ _. p.alone;
        named = unnamed (IsWritten (asks.Command command)) (read_fault (name_at names at)).stored p.alone;
      }

  all_for : (o : Outcome) → IsPlain (IsWritten (asks.Command command)) o → (o.status ≡ DONE → option_map (λ content. content.name) o.stored ≡ output_of command)
      → Loads (length names) → Goal o
  all_for o p done called = record {
    count = length names;
    calls = called;
    all = λ _. refl;
    absent_last = λ e. absurd (p.not_absent e);
    read_fault_last = λ e. absurd (p.not_read e);
    done = done;
    alone = p.stored_alone;
    named = p.stored_name;
  }

  by_inputs : (inputs : Inputs) → HasCalled (most_of command) (loaded_names names inputs) before after → IsPlaced names inputs → (o : Outcome) → RepliesTo command inputs o → Goal o
  by_inputs (All texts) called placed o r = all_for o (answers_plain command texts o r) (answers_store command texts o r) (whole called)
  by_inputs (Faulty at cause.Absent) called placed o r = subst Goal (sym r) (absent_for at placed called)
  by_inputs (Faulty at cause.Long) called placed o r = subst Goal (sym r) (limit_for (at + 1) (most_of command) called)
  by_inputs (Faulty at cause.Failed) called placed o r = subst Goal (sym r) (failed_for at placed called)
  by_inputs TooMuch called placed o r = subst Goal (sym r) (limit_for (length names) FILE_LIMIT (whole called))
  by_inputs TooMany called placed o r = subst Goal (sym r) (limit_for 0 MOST_NAMES called)

  -- out of memory after loading
  by_none : (inputs : Inputs) → HasCalled (most_of command) (loaded_names names inputs) before after → (count : ℕ) × Loads count
  by_none (All texts) called = (length names, whole called)
  by_none (Faulty at why) called = (at + 1, called)
  by_none TooMuch called = (length names, whole called)
  by_none TooMany called = (0, called)

  by_reply : {E : Type 0} (inputs : Inputs) (res : Result Outcome E) → HasCalled (most_of command) (loaded_names names inputs) before after → IsPlaced names inputs
      → IfOk res (RepliesTo command inputs) → DecidesCalls (asks.Command command) before after res
  by_reply inputs (Ok o) called placed r = by_inputs inputs called placed o r
  by_reply inputs (Err e) called placed r = by_none inputs called

  module _ (loaded : List (List ℕ)) (most : ℕ) (same : loaded ≡ names) (size : most ≡ most_of command) where
    called_of : (inputs : Inputs) → HasCalled most (loaded_names loaded inputs) before after → HasCalled (most_of command) (loaded_names names inputs) before after
    called_of inputs called =
        subst (λ (z : ℕ). HasCalled z (loaded_names names inputs) before after) size
        (subst (λ (z : List (List ℕ)). HasCalled most (loaded_names z inputs) before after) same called)

    -- the names that were loaded are the command's, and so is the most that each of them may have
    pub decides_of : {E : Type 0} (inputs : Inputs) (res : Result Outcome E) → HasCalled most (loaded_names loaded inputs) before after → IsPlaced loaded inputs
        → IfOk res (RepliesTo command inputs) → DecidesCalls (asks.Command command) before after res
    decides_of inputs res called placed r =
        by_reply inputs res (called_of inputs called) (subst (λ (z : List (List ℕ)). IsPlaced z inputs) same placed) r

    -- out of memory while they were loaded
    pub stops_of : (count : ℕ) → HasCalled most (take count loaded) before after → Loads count
    stops_of count called =
        subst (λ (z : ℕ). HasCalled z (take count names) before after) size
        (subst (λ (z : List (List ℕ)). HasCalled most (take count z) before after) same called)

-- out of memory before anything was called
pub decides_nothing : {E : Type 0} (asked : Asked) (calls : List Call) (e : E) → DecidesCalls {E = E} asked calls calls (Err e)
decides_nothing (asks.Wrong at) calls e = refl
decides_nothing (asks.Command command) calls e = (0, sym (append-nil calls))

-- the same of what a `?` hands on
pub decides_memory : {E : Type 0} (asked : Asked) (calls : List Call) (res : Result Outcome E) → IsErr res → DecidesCalls {E = E} asked calls calls res
decides_memory {E} asked calls (Ok o) is = absurd (IfOk-from_err {T = Outcome} {E = E} (Ok o) (λ _. ⊥) is)
decides_memory {E} asked calls (Err e) is = decides_nothing {E = E} asked calls e

-- words that are no command
pub decides_wrong : {E : Type 0} (asked : Asked) (at : ℕ) (calls : List Call) (res : Result Outcome E) → asks.Wrong at ≡ asked → IfOk res (λ o. o ≡ usage at)
    → DecidesCalls asked calls calls res
decides_wrong {E} asked at calls res is said = subst (λ (a : Asked). DecidesCalls a calls calls res) is (by_words res said) where
  by_words : (res : Result Outcome E) → IfOk res (λ o. o ≡ usage at) → DecidesCalls (asks.Wrong at) calls calls res
  by_words (Ok o) said = (refl, ap (λ (z : Outcome). z.stored) said ∙ (prints_usage at).alone)
  by_words (Err e) said = refl

-- ---- a run

abbrev name_in : Option Content → Option (List ℕ)
name_in stored = option_map (λ content. content.name) stored

-- the store that was called, as the calls behind those before it
store_calls : (stored : Option Content) (before after : List Call) → CallsStore stored before after → after ≡ before ++ stores_of (name_in stored)
store_calls None before after called = called ∙ sym (append-nil before)
store_calls (Some content) before after called = called

no_store : (stored : Option Content) (before after : List Call) → stored ≡ None → CallsStore stored before after → after ≡ before
no_store stored before after is called = let c : CallsStore None before after = subst (λ (z : Option Content). CallsStore z before after) is called in c

named_of : (P : List ℕ → Type 0) (stored : Option Content) → IfSome stored (λ content. P content.name) → IfSome (name_in stored) P
named_of P None named = tt
named_of P (Some content) named = named

module _ (old new : Option (List ℕ)) where
  -- out of memory before an outcome was decided on
  none_of : (command : Command) (before after : List Call) → (count : ℕ) × HasCalled (most_of command) (take count (inputs_of command)) before after
      → CommandCalls command before after old new NO_MEMORY
  none_of command before after d = record {
    count = d.0;
    stored = None;
    calls = d.1 ∙ sym (append-nil (before ++ loads_of (most_of command) (take d.0 (inputs_of command))));
    named = tt;
    loaded_first = λ some. absurd (some refl);
    not_stored = λ n0 n7 n8. refl;
    done = λ e. absurd (eqb-false NO_MEMORY DONE refl e);
    loaded_all = λ a. absurd (no_answer NO_MEMORY refl a);
    absent_last = λ e. absurd (eqb-false NO_MEMORY ABSENT refl e);
    read_fault_last = λ e. absurd (eqb-false NO_MEMORY READ_FAULT refl e);
  }

  pub calls_of_nothing : {E : Type 0} (asked : Asked) (before after : List Call) (e : E) → DecidesCalls asked before after (Err e)
      → Calls asked before after old new NO_MEMORY
  calls_of_nothing asked before after e d = record {
    wrong = λ at is. subst (λ (a : Asked). DecidesCalls a before after (Err e)) is d;
    called = λ command is. none_of command before after (subst (λ (a : Asked). DecidesCalls a before after (Err e)) is d);
  }

  module _ (start now result : ℕ) (o : Outcome) (s : Stored) (follows : Follows o old new start now result s) where
    -- a status that is neither 7 nor 8 is the outcome's, and its text was printed
    ends_by : (s : Stored) → Follows o old new start now result s → result ≢ WRITE_FAULT → result ≢ NO_MEMORY → Gained old new o.text × (result ≡ o.status)
    ends_by answers.Done a n7 n8 = print_good old new start now o.text o.status result a.0 a.1 a.3 n7 n8
    ends_by answers.Failed a n7 n8 = absurd (n7 (print_good old new start now write_fault_text WRITE_FAULT result a.0 a.1 a.3 n7 n8).1)
    ends_by answers.Memory a n7 n8 = absurd (n8 a.2)

    ends_as : (status : ℕ) → status ≢ WRITE_FAULT → status ≢ NO_MEMORY → result ≡ status → Gained old new o.text × (result ≡ o.status)
    ends_as status n7 n8 is = ends_by s follows (λ e. n7 (sym is ∙ e)) (λ e. n8 (sym is ∙ e))

    -- the line of the last input was printed
    last_of : (line : List ℕ → Outcome) (inputs : List (List ℕ)) (count : ℕ) → Gained old new o.text → IsLast line inputs count o → IsReportedLast line inputs count old new
    last_of line inputs count gained (at, within, is, same) = (at, within, is, subst (λ (z : Outcome). Gained old new z.text) same gained)

    module _ (command : Command) (before middle after : List Call) (l : LoadedFor command before middle o) (called : CallsStore o.stored middle after) where
      first_all : name_in o.stored ≢ None → l.count ≡ length (inputs_of command)
      first_all some =
          elim (cases_eq o.status DONE) [
            | inl e ↦ l.all (inl e)
            | inr n ↦ absurd (some (ap name_in (l.alone n)))
          ]

      outcome_calls : CommandCalls command before after old new result
      outcome_calls = record {
        count = l.count;
        stored = name_in o.stored;
        calls = store_calls o.stored middle after called ∙ ap (λ (z : List Call). z ++ stores_of (name_in o.stored)) l.calls;
        named = named_of (IsWritten (asks.Command command)) o.stored l.named;
        loaded_first = first_all;
        not_stored = λ n0 n7 n8. ap name_in (l.alone (λ e. n0 ((ends_by s follows n7 n8).1 ∙ e)));
        done = λ e. l.done (sym (ends_as DONE (eqb-false DONE WRITE_FAULT refl) (eqb-false DONE NO_MEMORY refl) e).1 ∙ e);
        loaded_all = λ a. l.all (subst IsAnswered (ends_by s follows (λ e. no_write result e a) (λ e. no_answer result e a)).1 a);
        absent_last = λ e.
            let w = ends_as ABSENT (eqb-false ABSENT WRITE_FAULT refl) (eqb-false ABSENT NO_MEMORY refl) e in
            last_of absent (inputs_of command) l.count w.0 (l.absent_last (sym w.1 ∙ e));
        read_fault_last = λ e.
            let w = ends_as READ_FAULT (eqb-false READ_FAULT WRITE_FAULT refl) (eqb-false READ_FAULT NO_MEMORY refl) e in
            last_of read_fault (inputs_of command) l.count w.0 (l.read_fault_last (sym w.1 ∙ e));
      }

    wrong_calls : (before middle after : List Call) → (middle ≡ before) × (o.stored ≡ None) → CallsStore o.stored middle after → after ≡ before
    wrong_calls before middle after d called = no_store o.stored middle after d.1 called ∙ d.0

    -- an outcome was decided on, and carried out
    pub calls_of : (E : Type 0) (asked : Asked) (before middle after : List Call) → DecidesCalls {E = E} asked before middle (Ok o) → CallsStore o.stored middle after
        → Calls asked before after old new result
    calls_of E asked before middle after d called = record {
      wrong = λ at is. wrong_calls before middle after (subst (λ (a : Asked). DecidesCalls {E = E} a before middle (Ok o)) is d) called;
      called = λ command is. outcome_calls command before middle after (subst (λ (a : Asked). DecidesCalls {E = E} a before middle (Ok o)) is d) called;
    }
