-- The first faults of the steps of decoding, one after another, are those of the checks of a file in their order.
use Rattle.std.proofs.Common.{◌≡◌, ℕ, ◌+◌, Bool, true, false, List, [], ◌∷◌, ◌++◌, length, take, drop, refl, sym, ap, ◌∙◌}
use Rattle.std.specs.Option.{is_some}
use Rattle.std.specs.Prelude.{Option, Some, None, Err, if◌then◌else◌, ◌/◌, ◌&&◌, ◌||◌, ◌==◌, nat_le, nat_lt, map, position, option_map}
use Rattle.st_base.specs.ByteOrder.{is_big}
use Rattle.st_base.specs.Faults.{Check, check, fault_at, first_fault, unless}
use Rattle.st_base.specs.declared.fault.Fault.{Fault}
use Rattle.st_base.specs.declared.fault.TheConstants.{TRUNCATED, KIND, INSIDE, PAST, NO_END}
use Rattle.st_base.specs.declared.sizes.TheConstants.{HEADER_SIZE, RELOC_SIZE}
use Rattle.aout_layout.specs.declared.header.Header.{Header}
use Rattle.aout_layout.specs.Headers.{header_checks, read}
use Rattle.nlist_codec.specs.declared.entry.Entry.{Entry}
use Rattle.nlist_codec.specs.Entries.{entries_in}
use Rattle.reloc.specs.Relocs.{reloc_checks, reloc_of}
use Rattle.reloc.specs.Relocs.{read as read_reloc}
use Rattle.strtab.specs.StringTable.{is_zero}
use Rattle.aout_object.specs.Objects.{is_accepted_kind}
use Rattle.aout_object.specs.Checks.{reloc_pieces, text_relocs_part, data_relocs_part, entries_part, strings_part, at_place, relocs_checks, entry_checks, entries_checks, place_checks, record_checks, header_at_front, file_checks, FileFault}
use Rattle.aout_object.specs.Decoding.{fault_or, fault_unless, fault_of, relocs_fault, end_fault, entry_fault, entries_fault, all_relocs_fault, records_fault, fault_behind, file_fault}

-- ---- one check after another

-- a check before others
before : (test : Bool) (fault : Fault) (whole first later : Option Fault) → whole ≡ fault_or first later
    → (if test then whole else Some fault) ≡ fault_or (if test then first else Some fault) later
before true fault whole first later is = is
before false fault whole first later is = refl

-- the fault of checks after others is the fault of those, else of these
pub first_fault-append : (front back : List Check) → first_fault (front ++ back) ≡ fault_or (first_fault front) (first_fault back)
first_fault-append [] back = refl
first_fault-append (c ∷ front) back =
    before c.holds c.fault (first_fault (front ++ back)) (first_fault front) (first_fault back) (first_fault-append front back)

-- which fault is first does not hang on how they are taken together
fault_or-assoc : (first second third : Option Fault) → fault_or (fault_or first second) third ≡ fault_or first (fault_or second third)
fault_or-assoc None second third = refl
fault_or-assoc (Some fault) second third = refl

-- ---- relocations

-- the fault of a reading, by the test of its first check
moved : {A : Type 0} (test : Bool) (place : ℕ) (fault : Fault) (later found : Option Fault) (value : A) → found ≡ fault_of place (unless later value)
    → (if test then found else Some (fault_at fault.number place)) ≡ fault_of place (unless (if test then later else Some fault) value)
moved true place fault later found value is = is
moved false place fault later found value is = refl

-- checks at a place have the fault of a reading by these checks there
at_place-fault : {A : Type 0} (place : ℕ) (checks : List Check) (value : A) → first_fault (map (at_place place) checks) ≡ fault_of place (unless (first_fault checks) value)
at_place-fault place [] value = refl
at_place-fault place (c ∷ checks) value =
    moved c.holds place c.fault (first_fault checks) (first_fault (map (at_place place) checks)) value (at_place-fault place checks value)

-- relocations in a row
relocs_checks-fault : (big : Bool) (place : ℕ) (pieces : List (List ℕ)) → first_fault (relocs_checks big place pieces) ≡ relocs_fault big place pieces
relocs_checks-fault big place [] = refl
relocs_checks-fault big place (piece ∷ pieces) =
    first_fault-append (map (at_place place) (reloc_checks big piece)) (relocs_checks big (place + 1) pieces)
    ∙ ap (λ (f : Option Fault). fault_or f (first_fault (relocs_checks big (place + 1) pieces))) (at_place-fault place (reloc_checks big piece) (reloc_of big piece))
    ∙ ap (fault_or (fault_of place (read_reloc big piece))) (relocs_checks-fault big (place + 1) pieces)

-- ---- entries

-- the four checks of an entry, by what the tests say
entry_by : (kind none long within : Bool) (end : Option ℕ) (front : ℕ → List ℕ) (place : ℕ)
    → first_fault (check kind KIND place ∷ check (none || long) INSIDE place ∷ check (none || within) PAST place
    ∷ check (is_some (if none then Some [] else (if long && within then option_map front end else None))) NO_END place ∷ [])
    ≡ fault_or (fault_unless kind KIND place) (if none then None else fault_or (fault_unless long INSIDE place) (fault_or (fault_unless within PAST place) (end_fault place end)))
entry_by false none long within end front place = refl
entry_by true true long within end front place = refl
entry_by true false false within end front place = refl
entry_by true false true false end front place = refl
entry_by true false true true None front place = refl
entry_by true false true true (Some at) front place = refl

-- an entry
entry_checks-fault : (strings : List ℕ) (place : ℕ) (e : Entry) → first_fault (entry_checks strings place e) ≡ entry_fault strings place e
entry_checks-fault strings place e =
    entry_by (is_accepted_kind e.kind) (e.strx == 0) (nat_le 4 e.strx) (nat_lt e.strx (length strings)) (position is_zero (drop e.strx strings)) (λ at. take at (drop e.strx strings)) place

-- entries in a row
entries_checks-fault : (strings : List ℕ) (place : ℕ) (entries : List Entry) → first_fault (entries_checks strings place entries) ≡ entries_fault strings place entries
entries_checks-fault strings place [] = refl
entries_checks-fault strings place (e ∷ entries) =
    first_fault-append (entry_checks strings place e) (entries_checks strings (place + 1) entries)
    ∙ ap (λ (f : Option Fault). fault_or f (first_fault (entries_checks strings (place + 1) entries))) (entry_checks-fault strings place e)
    ∙ ap (fault_or (entry_fault strings place e)) (entries_checks-fault strings (place + 1) entries)

-- ---- a file

module _ (h : Header) (bytes : List ℕ) where
  -- the checks of each relocation and of each entry
  abbrev text_checks : List Check
  text_checks = relocs_checks (is_big h.order) 0 (reloc_pieces (text_relocs_part h bytes))

  abbrev data_checks : List Check
  data_checks = relocs_checks (is_big h.order) (h.text_relocs / RELOC_SIZE) (reloc_pieces (data_relocs_part h bytes))

  abbrev name_checks : List Check
  name_checks = entries_checks (strings_part h bytes) 0 (entries_in (is_big h.order) (entries_part h bytes))

  -- the records of a file
  records_fault-is : first_fault (record_checks h bytes) ≡ records_fault h bytes
  records_fault-is =
      first_fault-append text_checks (data_checks ++ name_checks)
      ∙ ap (fault_or (first_fault text_checks)) (first_fault-append data_checks name_checks)
      ∙ sym (fault_or-assoc (first_fault text_checks) (first_fault data_checks) (first_fault name_checks))
      ∙ ap (λ (f : Option Fault). fault_or (fault_or f (first_fault data_checks)) (first_fault name_checks)) (relocs_checks-fault (is_big h.order) 0 (reloc_pieces (text_relocs_part h bytes)))
      ∙ ap (λ (f : Option Fault). fault_or (fault_or (relocs_fault (is_big h.order) 0 (reloc_pieces (text_relocs_part h bytes))) f) (first_fault name_checks))
      (relocs_checks-fault (is_big h.order) (h.text_relocs / RELOC_SIZE) (reloc_pieces (data_relocs_part h bytes)))
      ∙ ap (fault_or (all_relocs_fault h bytes)) (entries_checks-fault (strings_part h bytes) 0 (entries_in (is_big h.order) (entries_part h bytes)))

  -- what stands after its header
  behind-fault : first_fault (place_checks h bytes ++ record_checks h bytes) ≡ fault_or (first_fault (place_checks h bytes)) (records_fault h bytes)
  behind-fault = first_fault-append (place_checks h bytes) (record_checks h bytes) ∙ ap (fault_or (first_fault (place_checks h bytes))) records_fault-is

-- the fault of a header that was read by its checks, else the later one
header_by : (found : Option Fault) (h : Header) (bytes : List ℕ) (later : Option Fault) → later ≡ fault_or (first_fault (place_checks h bytes)) (records_fault h bytes)
    → fault_or found later ≡ fault_behind (unless found h) bytes
header_by None h bytes later is = is
header_by (Some fault) h bytes later is = refl

-- a file that is long enough for a header, or not
size_by : (long : Bool) (size : ℕ) (front bytes : List ℕ) (later : Option Fault) → later ≡ fault_behind (read front) bytes
    → (if long then later else Some (fault_at TRUNCATED size)) ≡ fault_behind (if long then read front else Err (fault_at TRUNCATED size)) bytes
size_by true size front bytes later is = is
size_by false size front bytes later is = refl

-- the fault of a file by its steps is that of its checks
pub file_checks-fault : (bytes : List ℕ) → first_fault (file_checks bytes) ≡ file_fault bytes
file_checks-fault bytes =
    let front : List ℕ = take HEADER_SIZE bytes in
    size_by (nat_le HEADER_SIZE (length bytes)) (length bytes) front bytes _
    (first_fault-append (header_checks front) (place_checks (header_at_front bytes) bytes ++ record_checks (header_at_front bytes) bytes)
    ∙ header_by (first_fault (header_checks front)) (header_at_front bytes) bytes _ (behind-fault (header_at_front bytes) bytes))

-- so a fault by the steps is that of the file
pub FileFault-steps : (bytes : List ℕ) (fault : Fault) → file_fault bytes ≡ Some fault → FileFault bytes fault
FileFault-steps bytes fault found = record { first = file_checks-fault bytes ∙ found }
