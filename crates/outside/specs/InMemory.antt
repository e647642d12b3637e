-- What files and a sink in memory show, and how each call changes it. They fail exactly at the calls whose
-- numbers they were given, so that a test can have any call fail. Calls count from 0. This is this project's
-- own.
use Rattle.std.specs.Prelude.{ℕ, List, ◌++◌, Option, Some, refl}
use Rattle.std.specs.Coded.{Coded, code_by, coded×, coded_ℕ, coded_list, coded_option}
use Rattle.std.specs.FinMap.{insert}
use Rattle.std.specs.FinMap as map
use Rattle.outside.specs.contracts.call.Access as access
use Rattle.outside.specs.Calls.{Call, load_of, store_of, then_call}
use Rattle.outside.specs.Causes.{Contents, next_count}
use Rattle.outside.specs.declared.files.Loaded.{Loaded}
use Rattle.outside.specs.declared.files.Loaded.TheVariants as loaded
use Rattle.outside.specs.declared.files.Stored.{Stored}
use Rattle.outside.specs.declared.files.Stored.TheVariants as stored
use Rattle.outside.specs.declared.sink.Put.{Put}
use Rattle.outside.specs.declared.sink.Put.TheVariants as put

-- ---- how they are stored

abbrev contents_code : Coded Contents
contents_code = map.code (coded_list coded_ℕ) (coded_list coded_ℕ)

abbrev calls_code : Coded (List Call)
calls_code = coded_list (coded× (coded_list coded_ℕ) access.the_row.coded)

-- ---- files

-- the contents by their names, the numbers of the calls that are to fail, how many loads and stores there
-- were, how many of each failed, the name of the last failed load, and the calls so far
pub record FilesInMemory : Type 0 where
  pub contents : Contents
  pub failing : List ℕ
  pub count : ℕ
  pub load_faults : ℕ
  pub store_faults : ℕ
  pub last_failed : Option (List ℕ)
  pub calls : List Call

-- they are stored as the tuple of these
abbrev pub files_code : Coded FilesInMemory
files_code =
    code_by (Contents × (List ℕ × (ℕ × (ℕ × (ℕ × (Option (List ℕ) × List Call))))))
    (coded× contents_code (coded× (coded_list coded_ℕ) (coded× coded_ℕ (coded× coded_ℕ (coded× coded_ℕ (coded× (coded_option (coded_list coded_ℕ)) calls_code))))))
    (λ files. (files.contents, (files.failing, (files.count, (files.load_faults, (files.store_faults, (files.last_failed, files.calls)))))))
    (λ t. record { contents = t.0; failing = t.1.0; count = t.1.1.0; load_faults = t.1.1.1.0; store_faults = t.1.1.1.1.0; last_failed = t.1.1.1.1.1.0; calls = t.1.1.1.1.1.1 }) (λ _. refl)

-- one more call
abbrev pub called : FilesInMemory → Call → FilesInMemory
called files call = record files { count = next_count files.count; calls = then_call files.calls call }

-- the files after a load of this name for at most `most` bytes that answers so
abbrev pub after_load : FilesInMemory → List ℕ → ℕ → Loaded → FilesInMemory
after_load files name most loaded.Failed = called (record files { load_faults = next_count files.load_faults; last_failed = Some name }) (load_of name most)
after_load files name most answer = called files (load_of name most)

-- the files after a store of these bytes under this name that answers so: a failed one changes no content
abbrev pub after_store : FilesInMemory → List ℕ → List ℕ → Stored → FilesInMemory
after_store files name bytes stored.Done = called (record files { contents = insert files.contents name bytes }) (store_of name)
after_store files name bytes stored.Failed = called (record files { store_faults = next_count files.store_faults }) (store_of name)
after_store files name bytes stored.Memory = called files (store_of name)

-- ---- files that never fail

-- the contents by their names, and the calls so far
pub record SureContents : Type 0 where
  pub contents : Contents
  pub calls : List Call

abbrev pub sure_code : Coded SureContents
sure_code = code_by (Contents × List Call) (coded× contents_code calls_code) (λ files. (files.contents, files.calls)) (λ t. record { contents = t.0; calls = t.1 }) (λ _. refl)

-- ---- a sink

-- the bytes written, the numbers of the puts that are to fail, how many puts there were, and how many failed
pub record SinkInMemory : Type 0 where
  pub written : List ℕ
  pub failing : List ℕ
  pub calls : ℕ
  pub faults : ℕ

-- the sink after a put of these bytes that answers so: a failed one appends nothing
abbrev pub after_put : SinkInMemory → List ℕ → Put → SinkInMemory
after_put sink bytes put.Done = record sink { calls = next_count sink.calls; written = sink.written ++ bytes }
after_put sink bytes put.Failed = record sink { calls = next_count sink.calls; faults = next_count sink.faults }
after_put sink bytes put.Memory = record sink { calls = next_count sink.calls }
