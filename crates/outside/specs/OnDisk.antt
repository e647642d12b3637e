-- What the files of a runtime and a sink over a writer show, and how each call changes it: their counts, and
-- of the sink the writer. This is this project's own.
use Rattle.std.specs.Prelude.{ℕ, List, Option, Some, refl}
use Rattle.std.specs.Coded.{Coded, code_by, coded×, coded_ℕ}
use Rattle.outside.specs.Calls.{Call, load_of, store_of, then_call}
use Rattle.outside.specs.Causes.{next_count}
use Rattle.outside.specs.declared.files.Loaded.{Loaded}
use Rattle.outside.specs.declared.files.Loaded.TheVariants as loaded
use Rattle.outside.specs.declared.files.Stored.{Stored}
use Rattle.outside.specs.declared.files.Stored.TheVariants as stored
use Rattle.outside.specs.declared.sink.Put.{Put}
use Rattle.outside.specs.declared.sink.Put.TheVariants as put

-- how many loads and how many stores failed, the name of the last failed load, and the calls so far
pub record FilesOnDisk : Type 0 where
  pub load_faults : ℕ
  pub store_faults : ℕ
  pub last_failed : Option (List ℕ)
  pub calls : List Call

-- one more call
abbrev pub called : FilesOnDisk → Call → FilesOnDisk
called files call = record files { calls = then_call files.calls call }

-- one more failed load, of this name
abbrev pub failed_load : FilesOnDisk → List ℕ → FilesOnDisk
failed_load files name = record files { load_faults = next_count files.load_faults; last_failed = Some name }

-- the files after a load of this name for at most `most` bytes that answers so: a file that is not found counts as a failed load
abbrev pub after_load : FilesOnDisk → List ℕ → ℕ → Loaded → FilesOnDisk
after_load files name most (loaded.Bytes text) = called files (load_of name most)
after_load files name most loaded.Absent = called (failed_load files name) (load_of name most)
after_load files name most loaded.Long = called files (load_of name most)
after_load files name most loaded.Failed = called (failed_load files name) (load_of name most)
after_load files name most loaded.Memory = called files (load_of name most)

-- the files after a store of this name that answers so
abbrev pub after_store : FilesOnDisk → List ℕ → Stored → FilesOnDisk
after_store files name stored.Failed = called (record files { store_faults = next_count files.store_faults }) (store_of name)
after_store files name answer = called files (store_of name)

-- the writer, and how many puts failed
pub record OverWriter (W : Type 0) : Type 0 where
  pub writer : W
  pub faults : ℕ

-- they are stored as a pair
abbrev pub over_writer_code : {W : Type 0} → Coded W → Coded (OverWriter W)
over_writer_code {W} code = code_by (W × ℕ) (coded× code coded_ℕ) (λ sink. (sink.writer, sink.faults)) (λ p. record { writer = p.0; faults = p.1 }) (λ _. refl)

-- the count of failed puts after a put that answers so
abbrev pub count_after : ℕ → Put → ℕ
count_after faults put.Failed = next_count faults
count_after faults answer = faults
