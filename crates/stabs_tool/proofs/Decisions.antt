-- What was replied is decided on, with its causes: for words that are no command, and for a command by what its inputs came to.
use Rattle.std.proofs.Common.{◌≡◌, ℕ, ◌⊎◌, inl, inr, List, Option, Some, Result, Ok, Err, refl, sym, ap, subst, ◌∙◌}
use Rattle.std.specs.Prelude.{IfOk}
use Rattle.std.proofs.lemmas.List.Elements.{Contains-get_or}
use Rattle.outside.specs.Causes.{Contents}
use Rattle.st_base.specs.declared.sizes.TheConstants.{FILE_LIMIT}
use Rattle.command_line.specs.declared.command.Command.{Command}
use Rattle.command_line.specs.declared.command.Asked.{Asked}
use Rattle.command_line.specs.declared.command.Asked.TheVariants as asks
use Rattle.file_commands.specs.declared.inputs.Cause.TheVariants as cause
use Rattle.file_commands.specs.declared.inputs.Inputs.{Inputs}
use Rattle.file_commands.specs.declared.inputs.Inputs.TheVariants.{All, Fault as Faulty, TooMuch, TooMany}
use Rattle.command_line.specs.declared.limits.TheConstants.{MOST_NAMES}
use Rattle.file_commands.specs.declared.outcome.Outcome.{Outcome}
use Rattle.command_line.specs.Commands.{inputs_of, most_of, IsRead, IsWritten, IsWrong}
use Rattle.file_commands.specs.Outcomes.{usage, absent, read_fault, limit, is_status}
use Rattle.file_commands.specs.RunCauses.{FilesSeen}
use Rattle.file_commands.specs.Inputs.{loaded_inputs, HasCause, IsFailed, IsPlaced, name_at}
use Rattle.stabs_tool.specs.Deciding.{Decided}
use Rattle.file_commands.specs.QueryOutcomes.{RepliesTo, Means}
use Rattle.file_commands.proofs.LineLemmas.{prints_usage, prints_absent, prints_read_fault, prints_limit}
use Rattle.file_commands.proofs.PlainLemmas.{IsPlain, unnamed, plain_limit, answers_plain}

-- what is decided on, the files being f before and g after it
abbrev pub IsDecided : Asked → FilesSeen → FilesSeen → Outcome → Type 0
IsDecided asked f g o = Decided (Means asked) (IsRead asked) (IsWritten asked) (IsWrong asked) f g o

-- ---- words that are no command

usage_decided : (f g : FilesSeen) (at : ℕ) → IsDecided (asks.Wrong at) f g (usage at)
usage_decided f g at =
    let p = prints_usage at in
    record {
      defined = λ _ m told. refl;
      read = λ e. let k = sym p.answers ∙ e in absurd cc;
      lacks = λ e. let k = sym p.answers ∙ e in absurd cc;
      usage_alone = λ e. (at, refl, refl);
      wrong = λ other w. p.answers;
      status = ap is_status p.answers;
      not_write = λ e. let k = sym p.answers ∙ e in absurd cc;
      not_memory = λ e. let k = sym p.answers ∙ e in absurd cc;
      stored_alone = λ _. p.alone;
      stored_name = unnamed (IsWritten (asks.Wrong at)) (usage at).stored p.alone;
    }

pub by_usage : {E : Type 0} (f g : FilesSeen) (asked : Asked) (at : ℕ) (res : Result Outcome E) → asks.Wrong at ≡ asked → IfOk res (λ o. o ≡ usage at) → IfOk res (IsDecided asked f g)
by_usage f g asked at (Err e) is said = tt
by_usage f g asked at (Ok o) is said = subst (λ (a : Asked). IsDecided a f g o) is (subst (IsDecided (asks.Wrong at) f g) (sym said) (usage_decided f g at))

-- ---- a command

module _ (command : Command) where
  abbrev names : List (List ℕ)
  names = inputs_of command

  abbrev wanted : Contents → Inputs
  wanted m = loaded_inputs m (most_of command) FILE_LIMIT names

  abbrev Told : FilesSeen → Inputs → Type 0
  Told f inputs = (m : Contents) → f.held ≡ Some m → IsFailed inputs ⊎ (inputs ≡ wanted m)

  module _ (f g : FilesSeen) where
    abbrev Goal : Outcome → Type 0
    Goal o = IsDecided (asks.Command command) f g o

    -- what was replied on the inputs is defined, where no load failed
    means : (inputs : Inputs) (o : Outcome) → Told f inputs → ¬ (IsFailed inputs) → RepliesTo command inputs o → (m : Contents) → f.held ≡ Some m → Means (asks.Command command) m o
    means inputs o t well r m told = by_told (t m told) where
      by_told : IsFailed inputs ⊎ (inputs ≡ wanted m) → Means (asks.Command command) m o
      by_told (inl failed) = absurd (well failed)
      by_told (inr e) = subst (λ (z : Inputs). RepliesTo command z o) e r

    plain : (inputs : Inputs) (o : Outcome) → IsPlain (IsWritten (asks.Command command)) o → Told f inputs → ¬ (IsFailed inputs) → RepliesTo command inputs o → Goal o
    plain inputs o p t well r = record {
      defined = λ _. means inputs o t well r;
      read = λ e. absurd (p.not_read e);
      lacks = λ e. absurd (p.not_absent e);
      usage_alone = λ e. absurd (p.not_usage e);
      wrong = λ at w. absurd w;
      status = p.status;
      not_write = p.not_write;
      not_memory = p.not_memory;
      stored_alone = p.stored_alone;
      stored_name = p.stored_name;
    }

    absent_decided : (at : ℕ) → Told f (Faulty at cause.Absent) → HasCause f.held f.loads g.loads g.last names (Faulty at cause.Absent) → Goal (absent (name_at names at))
    absent_decided at t h =
        let p = prints_absent (name_at names at) in
        record {
          defined = λ _. means (Faulty at cause.Absent) (absent (name_at names at)) t (λ x. x) refl;
          read = λ e. let k = sym p.answers ∙ e in absurd cc;
          lacks = λ e. (name_at names at, Contains-get_or names at _ h.0, refl, h.1);
          usage_alone = λ e. let k = sym p.answers ∙ e in absurd cc;
          wrong = λ at w. absurd w;
          status = ap is_status p.answers;
          not_write = λ e. let k = sym p.answers ∙ e in absurd cc;
          not_memory = λ e. let k = sym p.answers ∙ e in absurd cc;
          stored_alone = λ _. p.alone;
          stored_name = unnamed (IsWritten (asks.Command command)) (absent (name_at names at)).stored p.alone;
        }

    failed_decided : (at : ℕ) → HasCause f.held f.loads g.loads g.last names (Faulty at cause.Failed) → Goal (read_fault (name_at names at))
    failed_decided at h =
        let p = prints_read_fault (name_at names at) in
        record {
          defined = λ other. absurd (other p.answers);
          read = λ e. (h.1, (name_at names at, h.2, Contains-get_or names at _ h.0, refl));
          lacks = λ e. let k = sym p.answers ∙ e in absurd cc;
          usage_alone = λ e. let k = sym p.answers ∙ e in absurd cc;
          wrong = λ at w. absurd w;
          status = ap is_status p.answers;
          not_write = λ e. let k = sym p.answers ∙ e in absurd cc;
          not_memory = λ e. let k = sym p.answers ∙ e in absurd cc;
          stored_alone = λ _. p.alone;
          stored_name = unnamed (IsWritten (asks.Command command)) (read_fault (name_at names at)).stored p.alone;
        }

    by_inputs : (inputs : Inputs) → Told f inputs → HasCause f.held f.loads g.loads g.last names inputs → (o : Outcome) → RepliesTo command inputs o → Goal o
    by_inputs (All texts) t h o r = plain (All texts) o (answers_plain command texts o r) t (λ x. x) r
    by_inputs (Faulty at cause.Absent) t h o r = subst Goal (sym r) (absent_decided at t h)
    by_inputs (Faulty at cause.Long) t h o r = plain (Faulty at cause.Long) o (subst (IsPlain (IsWritten (asks.Command command))) (sym r) (plain_limit _ (limit (most_of command)) (prints_limit (most_of command)))) t (λ x. x) r
    by_inputs (Faulty at cause.Failed) t h o r = subst Goal (sym r) (failed_decided at h)
    by_inputs TooMuch t h o r = plain TooMuch o (subst (IsPlain (IsWritten (asks.Command command))) (sym r) (plain_limit _ (limit FILE_LIMIT) (prints_limit FILE_LIMIT))) t (λ x. x) r
    by_inputs TooMany t h o r = plain TooMany o (subst (IsPlain (IsWritten (asks.Command command))) (sym r) (plain_limit _ (limit MOST_NAMES) (prints_limit MOST_NAMES))) t (λ x. x) r

    by_result : {E : Type 0} (inputs : Inputs) (res : Result Outcome E) → Told f inputs → HasCause f.held f.loads g.loads g.last names inputs → IfOk res (RepliesTo command inputs) → IfOk res Goal
    by_result inputs (Err e) t h r = tt
    by_result inputs (Ok o) t h r = by_inputs inputs t h o r

    -- the names that were loaded are the command's, and so is the most that each of them may have
    pub decided_of : {E : Type 0} (loaded : List (List ℕ)) (most : ℕ) → loaded ≡ names → most ≡ most_of command → (inputs : Inputs) (res : Result Outcome E)
        → ((m : Contents) → f.held ≡ Some m → IsFailed inputs ⊎ (inputs ≡ loaded_inputs m most FILE_LIMIT loaded))
        → HasCause f.held f.loads g.loads g.last loaded inputs → IfOk res (RepliesTo command inputs) → IfOk res Goal
    decided_of loaded most same size inputs res t h r = by_result inputs res
        (λ m told. subst (λ (z : ℕ). IsFailed inputs ⊎ (inputs ≡ loaded_inputs m z FILE_LIMIT names)) size
        (subst (λ (z : List (List ℕ)). IsFailed inputs ⊎ (inputs ≡ loaded_inputs m most FILE_LIMIT z)) same (t m told)))
        (subst (λ (z : List (List ℕ)). HasCause f.held f.loads g.loads g.last z inputs) same h)
        r

-- the place of a fault is that of a name
pub placed_of : (held : Option Contents) (before now : ℕ) (last : Option (List ℕ)) (loaded : List (List ℕ)) (inputs : Inputs) → HasCause held before now last loaded inputs → IsPlaced loaded inputs
placed_of held before now last loaded (All texts) h = tt
placed_of held before now last loaded (Faulty at cause.Absent) h = h.0
placed_of held before now last loaded (Faulty at cause.Long) h = h
placed_of held before now last loaded (Faulty at cause.Failed) h = h.0
placed_of held before now last loaded TooMuch h = tt
placed_of held before now last loaded TooMany h = tt
