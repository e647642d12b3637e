-- What it means that a check finds no fault: the test holds, the name is in the table, the entries are accepted, and the string
-- table stands as it must.
use Rattle.std.proofs.Common.{◌≡◌, ℕ, ◌+◌, ◌≤◌, Bool, true, false, List, [], ◌∷◌, length, take, drop, refl, arith, inl, inr, length-drop}
use Rattle.std.specs.Prelude.{Option, Some, None, if◌then◌else◌, ◌&&◌, ◌==◌, nat_le, nat_lt, IsSome, position, option_map, ◌⊎◌}
use Rattle.std.specs.List.{AllByRecursion}
use Rattle.std.proofs.lemmas.Bool.{cases_Bool, leb-true, le-leb}
use Rattle.st_base.specs.ByteOrder.{is_big}
use Rattle.st_base.specs.declared.fault.Fault.{Fault}
use Rattle.st_base.specs.declared.fault.TheConstants.{KIND, INSIDE, PAST}
use Rattle.st_base.proofs.CheckLemmas.{AllHold}
use Rattle.aout_layout.specs.declared.header.Header.{Header}
use Rattle.nlist_codec.specs.declared.entry.Entry.{Entry}
use Rattle.strtab.specs.StringTable.{HasOwnLength, name_in, is_zero}
use Rattle.aout_object.specs.Objects.{IsAccepted}
use Rattle.aout_object.specs.Checks.{table_at, is_absent, word_in, table_checks}
use Rattle.aout_object.specs.Decoding.{fault_or, fault_unless, end_fault, name_fault, entries_fault}
use Rattle.aout_object.proofs.RecordLemmas.{fault_or-none}

-- ---- one test

-- without a fault the test holds
pub fault_unless-none : (test : Bool) (number place : ℕ) → fault_unless test number place ≡ None → test ≡ true
fault_unless-none true number place none = refl
fault_unless-none false number place none = absurd cc

-- where it holds there is no fault
pub none-fault_unless : (test : Bool) (number place : ℕ) → test ≡ true → fault_unless test number place ≡ None
none-fault_unless test number place holds = rw holds refl

-- where neither is a fault there is none
pub none-fault_or : (first later : Option Fault) → first ≡ None → later ≡ None → fault_or first later ≡ None
none-fault_or first later none other = rw (none, other) refl

-- ---- names

-- a name without a fault is in the table, by what the tests say
named_by : (none long within : Bool) (end : Option ℕ) (front : ℕ → List ℕ) (place : ℕ)
    → (if none then None else fault_or (fault_unless long INSIDE place) (fault_or (fault_unless within PAST place) (end_fault place end))) ≡ None
    → IsSome (if none then Some [] else (if long && within then option_map front end else None))
named_by true long within end front place no_fault = refl
named_by false true true (Some at) front place no_fault = refl
named_by false true true None front place no_fault = absurd cc
named_by false true false end front place no_fault = absurd cc
named_by false false within end front place no_fault = absurd cc

-- and a name that is in the table has no fault
unnamed_by : (none long within : Bool) (end : Option ℕ) (front : ℕ → List ℕ) (place : ℕ)
    → IsSome (if none then Some [] else (if long && within then option_map front end else None))
    → (if none then None else fault_or (fault_unless long INSIDE place) (fault_or (fault_unless within PAST place) (end_fault place end))) ≡ None
unnamed_by true long within end front place named = refl
unnamed_by false true true (Some at) front place named = refl
unnamed_by false true true None front place named = absurd cc
unnamed_by false true false end front place named = absurd cc
unnamed_by false false within end front place named = absurd cc

-- a name without a fault is in the table
name_fault-none : (strings : List ℕ) (place strx : ℕ) → name_fault strings place strx ≡ None → IsSome (name_in strings strx)
name_fault-none strings place strx none =
    named_by (strx == 0) (nat_le 4 strx) (nat_lt strx (length strings)) (position is_zero (drop strx strings)) (λ at. take at (drop strx strings)) place none

-- a name that is in the table has no fault
none-name_fault : (strings : List ℕ) (place strx : ℕ) → IsSome (name_in strings strx) → name_fault strings place strx ≡ None
none-name_fault strings place strx named =
    unnamed_by (strx == 0) (nat_le 4 strx) (nat_lt strx (length strings)) (position is_zero (drop strx strings)) (λ at. take at (drop strx strings)) place named

-- ---- entries

-- entries without a fault are accepted
pub entries_fault-none : (strings : List ℕ) (place : ℕ) (entries : List Entry) → entries_fault strings place entries ≡ None → AllByRecursion (IsAccepted strings) entries
entries_fault-none strings place [] none = tt
entries_fault-none strings place (e ∷ entries) none =
    let parts = fault_or-none _ _ none in
    let first = fault_or-none _ _ parts.0 in
    (record { kind = fault_unless-none _ _ _ first.0; name = name_fault-none strings place e.strx first.1 }, entries_fault-none strings (place + 1) entries parts.1)

-- entries that are accepted have no fault
pub none-entries_fault : (strings : List ℕ) (place : ℕ) (entries : List Entry) → AllByRecursion (IsAccepted strings) entries → entries_fault strings place entries ≡ None
none-entries_fault strings place [] all = refl
none-entries_fault strings place (e ∷ entries) all =
    none-fault_or _ _
    (none-fault_or _ _ (none-fault_unless _ KIND place all.0.kind) (none-name_fault strings place e.strx all.0.name))
    (none-entries_fault strings (place + 1) entries all.1)

-- ---- the string table

-- the string table that passes its checks: it is absent, or begins with its own length and nothing follows it
pub table-stands : (h : Header) (bytes : List ℕ) → table_at h ≤ length bytes → AllHold (table_checks h bytes)
    → (is_absent h bytes ≡ true) ⊎ HasOwnLength (is_big h.order) (drop (table_at h) bytes)
table-stands h bytes within all = elim (cases_Bool (is_absent h bytes)) [ inl absent ↦ inl absent | inr there ↦ inr (stands there) ] where
  stands : is_absent h bytes ≡ false → HasOwnLength (is_big h.order) (drop (table_at h) bytes)
  stands there =
      let each = rw there at all in
      let word = leb-true (table_at h + 4) (length bytes) each.0 in
      let whole = leb-true (table_at h + word_in h bytes) (length bytes) each.1.1.0 in
      let last = leb-true (length bytes) (table_at h + word_in h bytes) each.1.1.1.0 in
      let long = length-drop (table_at h) bytes in
      record { word = omega (arith, word, long); counts = omega (arith, whole, last, long) }

-- where it stands so, it passes them
pub table-passes : (h : Header) (bytes : List ℕ) → table_at h ≤ length bytes → (is_absent h bytes ≡ true) ⊎ HasOwnLength (is_big h.order) (drop (table_at h) bytes)
    → AllHold (table_checks h bytes)
table-passes h bytes within stands = elim (cases_Bool (is_absent h bytes)) [ inl absent ↦ rw absent tt | inr there ↦ passes there stands ] where
  passes : is_absent h bytes ≡ false → (is_absent h bytes ≡ true) ⊎ HasOwnLength (is_big h.order) (drop (table_at h) bytes) → AllHold (table_checks h bytes)
  passes there (inl absent) = absurd cc
  passes there (inr own) =
      let long = length-drop (table_at h) bytes in
      let word = own.word in
      let counts : word_in h bytes ≡ length (drop (table_at h) bytes) = own.counts in
      let first = le-leb (table_at h + 4) (length bytes) (omega (arith, long, word)) in
      let four = le-leb 4 (word_in h bytes) (omega (arith, counts, word)) in
      let whole = le-leb (table_at h + word_in h bytes) (length bytes) (omega (arith, counts, long, within)) in
      let nothing = le-leb (length bytes) (table_at h + word_in h bytes) (omega (arith, counts, long, within)) in
      rw there (first, (four, (whole, (nothing, tt))))
