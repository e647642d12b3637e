-- Worked values of what a run calls, by hand: `as little a.s a.o` is asked, and the sink tells nothing.
use Rattle.std.proofs.Common.{◌≡◌, ◌≢◌, ℕ, List, [], ◌∷◌, ◌++◌, take, Option, Some, None, inl, inr, refl, ap, ◌∙◌}
use Rattle.std.specs.Prelude.{codes}
use Rattle.st_base.specs.declared.order.Order.TheVariants.{Little}
use Rattle.outside.specs.Calls.{Call, load_of, store_of, loads_of, stores_of}
use Rattle.command_line.specs.declared.command.Command.{Command}
use Rattle.command_line.specs.declared.command.Command.TheVariants as commands
use Rattle.file_commands.specs.declared.outcome.TheConstants.{DONE, REFUSED, ABSENT, READ_FAULT}
use Rattle.command_line.specs.Commands.{inputs_of, most_of}
use Rattle.stabs_tool.specs.RunCalls.{CommandCalls}
use Rattle.std.proofs.lemmas.Bool.{eqb-false}

abbrev a : List ℕ
a = codes "a.s"

abbrev out : List ℕ
out = codes "a.o"

abbrev command : Command
command = commands.As Little a out

-- a run that called these, and its status
abbrev Called : List Call → ℕ → Type 0
Called calls status = CommandCalls command [] calls None None status

-- the source is loaded, and then the object stored
load_store : Called (load_of a (most_of command) ∷ store_of out ∷ []) DONE
load_store = record {
  count = 1;
  stored = Some out;
  calls = refl;
  named = refl;
  loaded_first = λ _. refl;
  not_stored = λ n0. absurd (n0 refl);
  done = λ _. refl;
  loaded_all = λ _. refl;
  absent_last = λ e. absurd (eqb-false DONE ABSENT refl e);
  read_fault_last = λ e. absurd (eqb-false DONE READ_FAULT refl e);
}

-- the calls of so many inputs, and of this store
abbrev made : ℕ → Option (List ℕ) → List Call
made count stored = ([] ++ loads_of (most_of command) (take count (inputs_of command))) ++ stores_of stored

-- a refused source is not stored
not_refused : Called (load_of a (most_of command) ∷ store_of out ∷ []) REFUSED → ⊥
not_refused c =
    let none = c.not_stored (eqb-false REFUSED DONE refl) (λ e. absurd cc) (λ e. absurd cc) in
    let all = c.loaded_all (inr (inl refl)) in
    let e : (load_of a (most_of command) ∷ store_of out ∷ []) ≡ made 1 None = c.calls ∙ ap (λ (n : ℕ). made n c.stored) all ∙ ap (λ (s : Option (List ℕ)). made 1 s) none in
    absurd cc

-- and no source is stored twice
not_twice : Called (load_of a (most_of command) ∷ store_of out ∷ store_of out ∷ []) DONE → ⊥
not_twice c =
    let all = c.loaded_all (inl refl) in
    let once = c.done refl in
    let e : (load_of a (most_of command) ∷ store_of out ∷ store_of out ∷ []) ≡ made 1 (Some out) = c.calls ∙ ap (λ (n : ℕ). made n c.stored) all ∙ ap (λ (s : Option (List ℕ)). made 1 s) once in
    absurd cc
