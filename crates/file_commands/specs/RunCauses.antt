-- What a run sees of the files and of the sink, and what each failure is told by. This is this project's own.
use Rattle.std.specs.Prelude.{◌≡◌, ℕ, List, ◌++◌, Option, Some, None, ◌⊎◌, ⊤}
use Rattle.std.specs.FinMap.{get}
use Rattle.outside.specs.Causes.{Contents, Rose}
use Rattle.file_commands.specs.Outcomes.{read_fault, write_fault_text}

-- ---- files

-- what files show: their contents where they tell them, how many loads and stores failed, the name of the last failed load
pub record FilesSeen : Type 0 where
  pub held : Option Contents
  pub loads : ℕ
  pub stores : ℕ
  pub last : Option (List ℕ)

abbrev pub seen : Option Contents → ℕ → ℕ → Option (List ℕ) → FilesSeen
seen held loads stores last = record { held = held; loads = loads; stores = stores; last = last }

-- why a name is told to be absent: the files lack it, or they do not tell, and failed last at it between these two counts
abbrev pub Lacks : Option Contents → ℕ → ℕ → Option (List ℕ) → List ℕ → Type 0
Lacks (Some m) before now last name = get m name ≡ None
Lacks None before now last name = Rose before now × (last ≡ Some name)

-- ---- the sink

-- a sink that tells its bytes has gained exactly these
abbrev pub Gained : Option (List ℕ) → Option (List ℕ) → List ℕ → Type 0
Gained None new text = ⊤
Gained (Some old) new text = new ≡ Some (old ++ text)

-- a sink that tells its bytes has gained a front of these
abbrev pub GainedFront : Option (List ℕ) → Option (List ℕ) → List ℕ → Type 0
GainedFront None new text = ⊤
GainedFront (Some old) new text = (front : List ℕ) × (rest : List ℕ) × (text ≡ front ++ rest) × (new ≡ Some (old ++ front))

-- a front of one of three texts: the read fault of the last failed load, the write fault, this text
abbrev pub GainedOneFront : Option (List ℕ) → Option (List ℕ) → Option (List ℕ) → List ℕ → Type 0
GainedOneFront last old new text = ((name : List ℕ) × (last ≡ Some name) × GainedFront old new (read_fault name).text)
    ⊎ (GainedFront old new write_fault_text ⊎ GainedFront old new text)
