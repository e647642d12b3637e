-- What loading the inputs of a command comes to: too many of them, the first that fails, or the contents of all in order. This is this project's own.
use Rattle.std.specs.Prelude.{◌≡◌, ◌<◌, ◌≤◌, ◌⊎◌, ◌+◌, ℕ, nat_lt, if◌then◌else◌, List, [], ◌∷◌, ◌++◌, length, take, slice_index_or, Option, Some, None, Result, Ok, Err, IfOk}
use Rattle.std.specs.List.{sum_by}
use Rattle.std.specs.FinMap.{get}
use Rattle.outside.specs.Calls.{Call, loads_of}
use Rattle.outside.specs.Causes.{Contents, Rose}
use Rattle.file_commands.specs.declared.inputs.Cause.TheVariants as cause
use Rattle.file_commands.specs.declared.inputs.Inputs.{Inputs}
use Rattle.file_commands.specs.declared.inputs.Inputs.TheVariants.{All, Fault, TooMuch, TooMany}
use Rattle.command_line.specs.declared.limits.TheConstants.{MOST_NAMES}
use Rattle.file_commands.specs.RunCauses.{FilesSeen, Lacks}

-- ---- over files that tell their contents and do not fail

-- the contents, where they have at most `total` bytes together
abbrev pub within_total : ℕ → List (List ℕ) → Inputs
within_total total texts = if nat_lt total (sum_by length texts) then TooMuch else All texts

-- what the content of the input at a place leads to: its fault, or what follows
abbrev pub after_content : ℕ → ℕ → (List ℕ → Inputs) → Option (List ℕ) → Inputs
after_content most at next None = Fault at cause.Absent
after_content most at next (Some text) = if nat_lt most (length text) then Fault at cause.Long else next text

-- what the names from a place on come to, behind the contents of those before
abbrev pub inputs_from : Contents → ℕ → ℕ → List (List ℕ) → ℕ → List (List ℕ) → Inputs
inputs_from m most total texts at [] = within_total total texts
inputs_from m most total texts at (name ∷ names) =
    after_content most at (λ text. inputs_from m most total (texts ++ text ∷ []) (at + 1) names) (get m name)

-- what names come to that are not too many: the first that is absent or has more than `most` bytes, else all contents, if they are
-- within the total
abbrev pub few_inputs : Contents → ℕ → ℕ → List (List ℕ) → Inputs
few_inputs m most total names = inputs_from m most total [] 0 names

-- what all names come to, unless they are too many
abbrev pub loaded_inputs : Contents → ℕ → ℕ → List (List ℕ) → Inputs
loaded_inputs m most total names = if nat_lt MOST_NAMES (length names) then TooMany else few_inputs m most total names

-- ---- causes

-- a load failed
abbrev pub IsFailed : Inputs → Type 0
IsFailed (Fault at cause.Failed) = Unit {0}
IsFailed other = ⊥

-- the name at a place
abbrev pub name_at : List (List ℕ) → ℕ → List ℕ
name_at names at = slice_index_or names at []

-- why loading comes to this: the fault is that of a name; one is absent as the files tell, or failed last; a load fails where the
-- count rose, last at this name; else there is a content for each name
abbrev pub HasCause : Option Contents → ℕ → ℕ → Option (List ℕ) → List (List ℕ) → Inputs → Type 0
HasCause held before now last names (Fault at cause.Absent) = (at < length names) × Lacks held before now last (name_at names at)
HasCause held before now last names (Fault at cause.Long) = at < length names
HasCause held before now last names (Fault at cause.Failed) = (at < length names) × Rose before now × (last ≡ Some (name_at names at))
HasCause held before now last names (All texts) = length texts ≡ length names
HasCause held before now last names TooMuch = Unit {0}
HasCause held before now last names TooMany = Unit {0}

-- names were loaded, the files being f before it and g after it: it came to what `comes` says of their contents where they tell them and no
-- load failed, and it has its cause; and whatever it came to, no content changed, no store failed and no count went down
pub record HasLoaded {E : Type 0} (comes : Contents → Inputs) (f g : FilesSeen) (names : List (List ℕ)) (result : Result Inputs E) : Type 0 where
  pub told : (m : Contents) → f.held ≡ Some m → IfOk result (λ inputs. IsFailed inputs ⊎ (inputs ≡ comes m))
  pub causes : IfOk result (HasCause f.held f.loads g.loads g.last names)
  pub held : g.held ≡ f.held
  pub stores : g.stores ≡ f.stores
  pub later : f.loads ≤ g.loads

-- ---- calls

-- the names that were loaded where loading comes to this: all; those up to and with the one that was not loaded; of too many none
abbrev pub loaded_names : List (List ℕ) → Inputs → List (List ℕ)
loaded_names names (All texts) = names
loaded_names names (Fault at why) = take (at + 1) names
loaded_names names TooMuch = names
loaded_names names TooMany = []

-- exactly these names were called, in order, each once: each was loaded for at most `most` bytes
abbrev pub HasCalled : ℕ → List (List ℕ) → List Call → List Call → Type 0
HasCalled most names before after = after ≡ before ++ loads_of most names

-- what loading names calls: those that were loaded, and out of memory a front of the names
abbrev pub LoadsNames : {E : Type 0} → ℕ → List (List ℕ) → List Call → List Call → Result Inputs E → Type 0
LoadsNames most names before after (Ok inputs) = HasCalled most (loaded_names names inputs) before after
LoadsNames most names before after (Err e) = (count : ℕ) × HasCalled most (take count names) before after

-- ---- places

-- the place of a fault is that of a name
abbrev pub IsPlaced : List (List ℕ) → Inputs → Type 0
IsPlaced names (Fault at why) = at < length names
IsPlaced names other = Unit {0}
