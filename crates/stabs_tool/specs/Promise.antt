-- What a run promises, whatever the command: the outcome of the words over files that tell their contents, what each status says,
-- what the sink has gained, and which contents have changed. This is the file to read first; it is this project's own.
use Rattle.std.specs.Prelude.{◌≡◌, ◌≢◌, ◌⊎◌, ℕ, List, Option, Some, None, true}
use Rattle.std.specs.FinMap.{get}
use Rattle.outside.specs.Causes.{Contents, Rose}
use Rattle.file_commands.specs.declared.outcome.Outcome.{Outcome}
use Rattle.file_commands.specs.declared.outcome.TheConstants.{DONE, USAGE, ABSENT, READ_FAULT, WRITE_FAULT, NO_MEMORY}
use Rattle.file_commands.specs.Outcomes.{usage, absent, read_fault, write_fault_text, contents_after, is_status}
use Rattle.file_commands.specs.RunCauses.{FilesSeen, Lacks, Gained, GainedFront, GainedOneFront}

-- an outcome was carried out: its status was answered, its text printed, and its content stored over the contents `m`
abbrev pub IsDone : (Contents → Outcome → Type 0) → Contents → FilesSeen → Option (List ℕ) → Option (List ℕ) → ℕ → Type 0
IsDone Means m h old new result = (o : Outcome) × Means m o × (result ≡ o.status) × Gained old new o.text × (h.held ≡ Some (contents_after m o.stored))

-- `Means m` is the outcome of the words over contents m, `Reads` their inputs, `Writes` the name that they store, `Wrong` the place
-- of their wrong word. The files are f before the run and h after it; the sink has `old` bytes and `before` failed puts before it,
-- `new` and `now` after it; `result` is the status
pub record Promise (Means : Contents → Outcome → Type 0) (Reads Writes : List ℕ → Type 0) (Wrong : ℕ → Type 0) (f h : FilesSeen) (old new : Option (List ℕ)) (before now result : ℕ) : Type 0 where
  -- the status is one of the table
  pub listed : is_status result ≡ true
  -- ---- the outcome, where the files tell their contents

  -- where nothing failed, the outcome was carried out, or the run was out of memory
  pub complete : (m : Contents) → f.held ≡ Some m → ¬ (Rose f.loads h.loads) → ¬ (Rose f.stores h.stores) → ¬ (Rose before now)
      → (result ≡ NO_MEMORY) ⊎ IsDone Means m h old new result
  -- every status but those of failures and of memory is the outcome's, whatever failed
  pub defined : (m : Contents) → f.held ≡ Some m → result ≢ READ_FAULT → result ≢ WRITE_FAULT → result ≢ NO_MEMORY → IsDone Means m h old new result
  -- and where the outcome has a status other than 0, that one is answered, unless a read failed, the sink did, or memory ran out
  pub exact : (m : Contents) (o : Outcome) → f.held ≡ Some m → Means m o → o.status ≢ DONE → result ≢ READ_FAULT → result ≢ NO_MEMORY
      → ¬ (Rose before now) → result ≡ o.status
  -- ---- causes, also over files that do not tell

  -- words that are no command are told by their place, and get no other answer
  pub usage_told : result ≡ USAGE → (at : ℕ) × Wrong at × Gained old new (usage at).text
  pub wrong : (at : ℕ) → Wrong at → ¬ (Rose before now) → (result ≡ NO_MEMORY) ⊎ (result ≡ USAGE)
  -- an input is absent only where the files lack it, or do not tell and failed last at it in this run
  pub absent_told : result ≡ ABSENT → (name : List ℕ) × Reads name × Lacks f.held f.loads h.loads h.last name × Gained old new (absent name).text
  -- reading fails only where the count of failed loads rose in this run, last at an input
  pub read_fault_told : result ≡ READ_FAULT → Rose f.loads h.loads
      × ((name : List ℕ) × (h.last ≡ Some name) × Reads name × Gained old new (read_fault name).text)
  -- writing fails only where the sink's count rose, or that of failed stores and the words store a file
  pub write_fault : result ≡ WRITE_FAULT → Rose before now ⊎ (Rose f.stores h.stores × ((name : List ℕ) × Writes name))
  -- ---- what the sink has gained

  -- where a store failed and the sink did not, exactly the line of a write fault
  pub write_line : result ≡ WRITE_FAULT → ¬ (Rose before now) → Gained old new write_fault_text
  -- where the files did not fail, a front of the outcome's text, at any status
  pub front : (m : Contents) (o : Outcome) → f.held ≡ Some m → Means m o → ¬ (Rose f.loads h.loads) → ¬ (Rose f.stores h.stores) → GainedFront old new o.text
  -- whatever failed, a front of one of three texts, at any status
  pub one_front : (m : Contents) (o : Outcome) → f.held ≡ Some m → Means m o → GainedOneFront h.last old new o.text
  -- ---- contents

  -- with every status but 0 and those of a failed write and of memory, no content has changed
  pub unchanged : result ≢ DONE → result ≢ WRITE_FAULT → result ≢ NO_MEMORY → h.held ≡ f.held
  -- no content has changed but that of the name which is stored
  pub others : (m : Contents) → f.held ≡ Some m → (end : Contents) × (h.held ≡ Some end) × ((other : List ℕ) → ¬ (Writes other) → get end other ≡ get m other)
  -- where only printing failed, the outcome's content was stored
  pub stored : (m : Contents) (o : Outcome) → f.held ≡ Some m → Means m o → result ≡ WRITE_FAULT → ¬ (Rose f.loads h.loads) → ¬ (Rose f.stores h.stores)
      → h.held ≡ Some (contents_after m o.stored)
  -- where no store failed, all contents are as before, or the outcome's is stored
  pub whole : (m : Contents) (o : Outcome) → f.held ≡ Some m → Means m o → ¬ (Rose f.stores h.stores) → (h.held ≡ Some m) ⊎ (h.held ≡ Some (contents_after m o.stored))
  -- files that do not tell their contents do not tell them afterwards
  pub untold : f.held ≡ None → h.held ≡ None
