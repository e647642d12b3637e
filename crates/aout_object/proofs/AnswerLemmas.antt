-- A file is spelled by one object or has one fault, and an answer that is either of them is the right one.
use Rattle.std.proofs.Common.{◌≡◌, ℕ, List, refl, sym, ap, subst, ◌∙◌, inl, inr}
use Rattle.std.specs.Prelude.{Option, Some, None, Result, Ok, Err, ◌⊎◌}
use Rattle.st_base.specs.ByteOrder.{is_big}
use Rattle.st_base.specs.Faults.{first_fault, unless}
use Rattle.st_base.specs.Number.{IsBytes}
use Rattle.nlist_codec.specs.declared.entry.Entry.{Entry}
use Rattle.nlist_codec.specs.Entries.{entries_in}
use Rattle.aout_object.specs.declared.parts.Parts.{Parts}
use Rattle.st_base.specs.declared.fault.Fault.{Fault}
use Rattle.st_base.specs.declared.fault.Refused.{Refused}
use Rattle.st_base.specs.declared.fault.Refused.TheVariants as refused
use Rattle.aout_layout.specs.declared.header.Header.{Header}
use Rattle.aout_object.specs.Objects.{Contents, header_for, ObjectSpells}
use Rattle.aout_object.specs.Checks.{entries_part, strings_part, place_checks, FileFault}
use Rattle.aout_object.specs.Decoding.{fault_or, contents_in, all_relocs_fault, entries_fault, records_fault, header_in, fault_behind, Answers, Decodes, Gives}
use Rattle.aout_object.proofs.FileLemmas.{contents-spell}
use Rattle.aout_object.proofs.FaultLemmas.{none-fault_or}
use Rattle.aout_object.proofs.RecordLemmas.{fault_or-none}
use Rattle.aout_object.proofs.StepLemmas.{file_checks-fault, FileFault-steps}
use Rattle.aout_object.proofs.SpelledLemmas.{spelled-header, spelled-contents, spelled-passes}

-- ---- one object, or one fault

-- a file spells one object
pub one_object : (first other : Contents) (bytes : List ℕ) → IsBytes bytes → ObjectSpells first bytes → ObjectSpells other bytes → first ≡ other
one_object first other bytes are_bytes spells spells_other =
    let headers : Ok (header_for first) ≡ Ok (header_for other) = sym (spelled-header first bytes are_bytes spells) ∙ spelled-header other bytes are_bytes spells_other in
    let same : header_for first ≡ header_for other = cc in
    sym (spelled-contents first bytes are_bytes spells) ∙ ap (λ (h : Header). contents_in h bytes) same ∙ spelled-contents other bytes are_bytes spells_other

-- an object has one file
pub one_file : (object : Contents) (first other : List ℕ) → ObjectSpells object first → ObjectSpells object other → first ≡ other
one_file object first other spells spells_other = spells.sequence ∙ sym spells_other.sequence

-- a file has one fault
pub one_fault : (bytes : List ℕ) (first other : Fault) → FileFault bytes first → FileFault bytes other → first ≡ other
one_fault bytes first other is is_other = let same : Some first ≡ Some other = sym is.first ∙ is_other.first in cc

-- it does not have both
pub not_both : (bytes : List ℕ) (object : Contents) (fault : Fault) → IsBytes bytes → ObjectSpells object bytes → FileFault bytes fault → ⊥
not_both bytes object fault are_bytes spells is = let same : Some fault ≡ None = sym is.first ∙ file_checks-fault bytes ∙ spelled-passes object bytes are_bytes spells in absurd cc

-- it has one of them
pub object_or_fault : (bytes : List ℕ) → IsBytes bytes → ((object : Contents) × ObjectSpells object bytes) ⊎ ((fault : Fault) × FileFault bytes fault)
object_or_fault bytes are_bytes = by_header (header_in bytes) refl where
  by_header : (header : Result Header Fault) → header_in bytes ≡ header → ((object : Contents) × ObjectSpells object bytes) ⊎ ((fault : Fault) × FileFault bytes fault)
  by_header (Err fault) is = inr (fault, FileFault-steps bytes fault (ap (λ (r : Result Header Fault). fault_behind r bytes) is))
  by_header (Ok h) is = by_fault (fault_or (first_fault (place_checks h bytes)) (records_fault h bytes)) refl where
    by_fault : (found : Option Fault) → fault_or (first_fault (place_checks h bytes)) (records_fault h bytes) ≡ found
        → ((object : Contents) × ObjectSpells object bytes) ⊎ ((fault : Fault) × FileFault bytes fault)
    by_fault None none =
        let parts = fault_or-none (first_fault (place_checks h bytes)) (records_fault h bytes) none in
        inl (contents_in h bytes, contents-spell bytes h are_bytes is parts.0 parts.1)
    by_fault (Some fault) found = inr (fault, FileFault-steps bytes fault (ap (λ (r : Result Header Fault). fault_behind r bytes) is ∙ found))

-- ---- answers

-- a check that answers its value finds no fault
pub unless-ok : {A : Type 0} (fault : Option Fault) (value found : A) → Ok found ≡ unless fault value → fault ≡ None
unless-ok None value found told = refl
unless-ok (Some fault) value found told = absurd cc

-- and one that answers a fault finds it
pub unless-err : {A : Type 0} (fault : Option Fault) (value : A) (why : Fault) → Err why ≡ unless fault value → fault ≡ Some why
unless-err None value why told = absurd cc
unless-err (Some fault) value why told = cc

-- parts, entries and a string table that were read without a fault are what lies at the places
pub read-whole : (bytes : List ℕ) (h : Header) (parts : Parts) (entries : List Entry) (strings : List ℕ)
    → (all_relocs_fault h bytes ≡ None) × (parts ≡ (contents_in h bytes).parts) → entries ≡ entries_in (is_big h.order) (entries_part h bytes) → strings ≡ strings_part h bytes
    → entries_fault strings 0 entries ≡ None
    → (records_fault h bytes ≡ None) × (record { parts = parts; entries = entries; strings = strings } ≡ contents_in h bytes)
read-whole bytes h parts entries strings relocs is_entries is_strings passes = (
  none-fault_or _ _ relocs.0 (ap (λ (x : List ℕ). entries_fault x 0 (entries_in (is_big h.order) (entries_part h bytes))) (sym is_strings)
      ∙ ap (entries_fault strings 0) (sym is_entries) ∙ passes),
  ap (λ (x : Parts). record { parts = x; entries = entries; strings = strings }) relocs.1
      ∙ ap (λ (x : List Entry). record { parts = (contents_in h bytes).parts; entries = x; strings = strings }) is_entries
      ∙ ap (λ (x : List ℕ). record { parts = (contents_in h bytes).parts; entries = entries_in (is_big h.order) (entries_part h bytes); strings = x }) is_strings,
)

-- a header with a fault is the file's fault
pub decodes-header : (bytes : List ℕ) (fault : Fault) → header_in bytes ≡ Err fault → FileFault bytes fault
decodes-header bytes fault is = FileFault-steps bytes fault (ap (λ (r : Result Header Fault). fault_behind r bytes) is)

-- a fault of the sizes is the file's fault
pub decodes-sizes : (bytes : List ℕ) (h : Header) (fault : Fault) → header_in bytes ≡ Ok h → first_fault (place_checks h bytes) ≡ Some fault → FileFault bytes fault
decodes-sizes bytes h fault is found =
    FileFault-steps bytes fault (ap (λ (r : Result Header Fault). fault_behind r bytes) is ∙ ap (λ (f : Option Fault). fault_or f (records_fault h bytes)) found)

-- where the sizes pass, what the reading of the parts answers is what decoding answers
pub decodes-parts : (bytes : List ℕ) (h : Header) (answer : Result Contents Refused) → IsBytes bytes → header_in bytes ≡ Ok h → first_fault (place_checks h bytes) ≡ None
    → Answers answer (records_fault h bytes) (contents_in h bytes) → Decodes answer bytes
decodes-parts bytes h (Ok o) are_bytes is sizes told = subst (λ (x : Contents). ObjectSpells x bytes) (sym told.1) (contents-spell bytes h are_bytes is sizes told.0)
decodes-parts bytes h (Err refused.Memory) are_bytes is sizes told = tt
decodes-parts bytes h (Err (refused.At fault)) are_bytes is sizes told =
    FileFault-steps bytes fault (ap (λ (r : Result Header Fault). fault_behind r bytes) is ∙ ap (λ (f : Option Fault). fault_or f (records_fault h bytes)) sizes ∙ told)

-- an object that spells the file is answered
pub decodes-only : (bytes : List ℕ) (answer : Result Contents Refused) → IsBytes bytes → Decodes answer bytes → (o : Contents) → ObjectSpells o bytes → Gives answer (Ok o)
decodes-only bytes (Ok found) are_bytes told o spells = ap (λ (x : Contents). Ok x) (one_object o found bytes are_bytes spells told)
decodes-only bytes (Err refused.Memory) are_bytes told o spells = tt
decodes-only bytes (Err (refused.At fault)) are_bytes told o spells = absurd (not_both bytes o fault are_bytes spells told)

-- the fault of the file is answered
pub decodes-first : (bytes : List ℕ) (answer : Result Contents Refused) → IsBytes bytes → Decodes answer bytes → (fault : Fault) → FileFault bytes fault → Gives answer (Err fault)
decodes-first bytes (Ok found) are_bytes told fault is = absurd (not_both bytes found fault are_bytes told is)
decodes-first bytes (Err refused.Memory) are_bytes told fault is = tt
decodes-first bytes (Err (refused.At why)) are_bytes told fault is = ap (λ (x : Fault). Err x) (one_fault bytes fault why is told)
