-- Relocations and entries in a row: what is read without a fault is written as the same bytes, and what is written is read again
-- without a fault.
use Rattle.std.proofs.Common.{◌≡◌, ℕ, zero, suc, ◌+◌, ◌*◌, ◌^◌, ◌<◌, ◌≤◌, Bool, List, [], ◌∷◌, ◌++◌, length, take, drop, refl, sym, ap, subst, ◌∙◌, arith, length-append, length-drop, take-append-drop}
use Rattle.std.specs.Prelude.{Option, Some, None, Ok, map, flat_map}
use Rattle.std.specs.List.{AllByRecursion}
use Rattle.std.specs.Simd.{first_chunks}
use Rattle.std.proofs.lemmas.List.{length-take-le, take_at, drop_at}
use Rattle.st_base.specs.declared.fault.Fault.{Fault}
use Rattle.st_base.specs.Faults.{first_fault, unless}
use Rattle.st_base.specs.Number.{number_at, IsBytes}
use Rattle.st_base.proofs.BytesLemmas.{IsBytes-take, IsBytes-drop, number-bytes_of, number-lt}
use Rattle.st_base.specs.declared.sizes.TheConstants.{ENTRY_SIZE, RELOC_SIZE}
use Rattle.nlist_codec.specs.declared.entry.Entry.{Entry}
use Rattle.nlist_codec.specs.Entries.{EntryFits, entry_of, entry_bytes}
use Rattle.nlist_codec.proofs.EntryLemmas.{read-write}
use Rattle.reloc.specs.declared.reloc.Reloc.{Reloc}
use Rattle.reloc.specs.Relocs.{Spells, reloc_of, reloc_bytes, reloc_checks, read}
use Rattle.reloc.proofs.RelocLemmas.{read-spelled, spelled-read, write-spelled, spelled-write}
use Rattle.aout_object.specs.Objects.{IsReloc, relocs_bytes, entries_bytes}
use Rattle.aout_object.specs.Decoding.{fault_or, fault_of, relocs_fault}

-- ---- lists cut into pieces

-- there are as many pieces as asked for
pub length-first_chunks : {A : Type 0} (n k : ℕ) (xs : List A) → length (first_chunks n k xs) ≡ k
length-first_chunks n zero xs = refl
length-first_chunks n (suc k) xs = ap suc (length-first_chunks n k (drop n xs))

-- as many items have so many bytes
pub length-flat_map_each : {X : Type 0} (write : X → List ℕ) (n : ℕ) → ((x : X) → length (write x) ≡ n) → (xs : List X) → length (flat_map write xs) ≡ length xs * n
length-flat_map_each write n each [] = omega arith
length-flat_map_each write n each (x ∷ xs) =
    let first = each x in
    let rest = length-flat_map_each write n each xs in
    let both = length-append (write x) (flat_map write xs) in
    omega (arith, first, rest, both)

-- what was written item by item is cut into the items' bytes
pub chunks-flat_map : {X : Type 0} (write : X → List ℕ) (n : ℕ) → ((x : X) → length (write x) ≡ n) → (xs : List X) → first_chunks n (length xs) (flat_map write xs) ≡ map write xs
chunks-flat_map write n each [] = refl
chunks-flat_map write n each (x ∷ xs) =
    rw (take_at (write x) (flat_map write xs) n (each x), drop_at (write x) (flat_map write xs) n (each x), chunks-flat_map write n each xs) refl

-- a list of no items
pub no_items : {A : Type 0} (xs : List A) → length xs ≡ 0 → xs ≡ []
no_items [] none = refl
no_items (x ∷ xs) none = absurd (omega arith)

-- a field of bytes is below its bound
pub number_at-lt : (big : Bool) (bytes : List ℕ) (at size : ℕ) → IsBytes bytes → at + size ≤ length bytes → number_at big bytes at size < 256 ^ size
number_at-lt big bytes at size are_bytes within =
    let behind = length-drop at bytes in
    let long : length (take size (drop at bytes)) ≡ size = length-take-le size (drop at bytes) (omega (arith, behind, within)) in
    subst (λ (n : ℕ). number_at big bytes at size < 256 ^ n) long (number-lt big (take size (drop at bytes)) (IsBytes-take size (drop at bytes) (IsBytes-drop at bytes are_bytes)))

-- ---- the first of two faults

-- where neither is a fault there is none
pub fault_or-none : (first later : Option Fault) → fault_or first later ≡ None → (first ≡ None) × (later ≡ None)
fault_or-none None later none = (refl, none)
fault_or-none (Some fault) later none = absurd cc

-- ---- relocations

-- a reading without a fault answers its value
read_value : {A : Type 0} (fault : Option Fault) (place : ℕ) (value : A) → fault_of place (unless fault value) ≡ None → unless fault value ≡ Ok value
read_value None place value none = refl
read_value (Some fault) place value none = absurd cc

-- a relocation has eight bytes
pub length-reloc_bytes : (big : Bool) (r : Reloc) → length (reloc_bytes big r) ≡ RELOC_SIZE
length-reloc_bytes big r = refl

-- the first piece of bytes that hold one more
first_piece : (n k : ℕ) (bytes : List ℕ) → length bytes ≡ suc k * n → length (take n bytes) ≡ n
first_piece n k bytes whole = length-take-le n bytes (omega (arith, whole))

-- and those after it
other_pieces : (n k : ℕ) (bytes : List ℕ) → length bytes ≡ suc k * n → length (drop n bytes) ≡ k * n
other_pieces n k bytes whole = let behind = length-drop n bytes in omega (arith, behind, whole)

-- relocations that are read without a fault are written as the bytes, and can be written
pub relocs-read : (big : Bool) (place k : ℕ) (bytes : List ℕ) → IsBytes bytes → length bytes ≡ k * RELOC_SIZE
    → relocs_fault big place (first_chunks RELOC_SIZE k bytes) ≡ None
    → (relocs_bytes big (map (reloc_of big) (first_chunks RELOC_SIZE k bytes)) ≡ bytes)
    × AllByRecursion IsReloc (map (reloc_of big) (first_chunks RELOC_SIZE k bytes))
relocs-read big place zero bytes are_bytes whole none = (sym (no_items bytes (omega (arith, whole))), tt)
relocs-read big place (suc k) bytes are_bytes whole none =
    let piece : List ℕ = take RELOC_SIZE bytes in
    let parts = fault_or-none _ _ none in
    let length_is : length piece ≡ RELOC_SIZE = first_piece RELOC_SIZE k bytes whole in
    let piece_bytes : IsBytes piece = IsBytes-take RELOC_SIZE bytes are_bytes in
    let answer : read big piece ≡ Ok (reloc_of big piece) = read_value (first_fault (reloc_checks big piece)) place (reloc_of big piece) parts.0 in
    let spells : Spells big (reloc_of big piece) piece = read-spelled big piece (reloc_of big piece) piece_bytes length_is answer in
    let rest = relocs-read big (place + 1) k (drop RELOC_SIZE bytes) (IsBytes-drop RELOC_SIZE bytes are_bytes) (other_pieces RELOC_SIZE k bytes whole) parts.1 in
    let address = number_at-lt big piece 0 4 piece_bytes (omega (arith, length_is)) in
    let others : List ℕ = relocs_bytes big (map (reloc_of big) (first_chunks RELOC_SIZE k (drop RELOC_SIZE bytes))) in (
      ap (λ (x : List ℕ). x ++ others) (spelled-write big (reloc_of big piece) piece piece_bytes length_is spells)
          ∙ ap (λ (x : List ℕ). piece ++ x) rest.0 ∙ take-append-drop RELOC_SIZE bytes,
      (record { address = address; fits = spells.fits }, rest.1),
    )

-- relocations that were written are read again, without a fault
pub relocs-written : (big : Bool) (place : ℕ) (relocs : List Reloc) → AllByRecursion IsReloc relocs
    → (map (reloc_of big) (map (reloc_bytes big) relocs) ≡ relocs) × (relocs_fault big place (map (reloc_bytes big) relocs) ≡ None)
relocs-written big place [] all = (refl, refl)
relocs-written big place (r ∷ relocs) all =
    let spells : Spells big r (reloc_bytes big r) = write-spelled big r all.0.address all.0.fits in
    let rest = relocs-written big (place + 1) relocs all.1 in
    let first : fault_of place (read big (reloc_bytes big r)) ≡ None = ap (fault_of place) (spelled-read big (reloc_bytes big r) r spells) in (
      ap (λ (x : Reloc). x ∷ map (reloc_of big) (map (reloc_bytes big) relocs)) spells.fields ∙ ap (λ (l : List Reloc). r ∷ l) rest.0,
      ap (λ (f : Option Fault). fault_or f (relocs_fault big (place + 1) (map (reloc_bytes big) relocs))) first ∙ rest.1,
    )

-- ---- entries

-- an entry has twelve bytes
pub length-entry_bytes : (big : Bool) (e : Entry) → length (entry_bytes big e) ≡ ENTRY_SIZE
length-entry_bytes big e = refl

-- the numbers of an entry that was read fit their fields
entry-fits : (big : Bool) (piece : List ℕ) → IsBytes piece → length piece ≡ ENTRY_SIZE → EntryFits (entry_of big piece)
entry-fits big piece are_bytes whole = record {
  strx = number_at-lt big piece 0 4 are_bytes (omega (arith, whole));
  kind = number_at-lt big piece 4 1 are_bytes (omega (arith, whole));
  other = number_at-lt big piece 5 1 are_bytes (omega (arith, whole));
  desc = number_at-lt big piece 6 2 are_bytes (omega (arith, whole));
  value = number_at-lt big piece 8 4 are_bytes (omega (arith, whole));
}

-- an entry made of the fields of an entry is that entry
same_entry : (e : Entry) (strx kind other desc value : ℕ) → strx ≡ e.strx → kind ≡ e.kind → other ≡ e.other → desc ≡ e.desc → value ≡ e.value
    → record { strx = strx; kind = kind; other = other; desc = desc; value = value } ≡ e
same_entry e strx kind other desc value is_strx is_kind is_other is_desc is_value = rw (is_strx, is_kind, is_other, is_desc, is_value) refl

-- an entry that was written is read again
entry-written : (big : Bool) (e : Entry) → EntryFits e → entry_of big (entry_bytes big e) ≡ e
entry-written big e fits =
    same_entry e _ _ _ _ _ (number-bytes_of big 4 e.strx fits.strx) (number-bytes_of big 1 e.kind fits.kind) (number-bytes_of big 1 e.other fits.other)
    (number-bytes_of big 2 e.desc fits.desc) (number-bytes_of big 4 e.value fits.value)

-- entries that are read are written as the bytes, and can be written
pub entries-read : (big : Bool) (k : ℕ) (bytes : List ℕ) → IsBytes bytes → length bytes ≡ k * ENTRY_SIZE
    → (entries_bytes big (map (entry_of big) (first_chunks ENTRY_SIZE k bytes)) ≡ bytes)
    × AllByRecursion EntryFits (map (entry_of big) (first_chunks ENTRY_SIZE k bytes))
entries-read big zero bytes are_bytes whole = (sym (no_items bytes (omega (arith, whole))), tt)
entries-read big (suc k) bytes are_bytes whole =
    let piece : List ℕ = take ENTRY_SIZE bytes in
    let length_is : length piece ≡ ENTRY_SIZE = first_piece ENTRY_SIZE k bytes whole in
    let piece_bytes : IsBytes piece = IsBytes-take ENTRY_SIZE bytes are_bytes in
    let rest = entries-read big k (drop ENTRY_SIZE bytes) (IsBytes-drop ENTRY_SIZE bytes are_bytes) (other_pieces ENTRY_SIZE k bytes whole) in
    let others : List ℕ = entries_bytes big (map (entry_of big) (first_chunks ENTRY_SIZE k (drop ENTRY_SIZE bytes))) in (
      ap (λ (x : List ℕ). x ++ others) (read-write big piece piece_bytes length_is)
          ∙ ap (λ (x : List ℕ). piece ++ x) rest.0 ∙ take-append-drop ENTRY_SIZE bytes,
      (entry-fits big piece piece_bytes length_is, rest.1),
    )

-- entries that were written are read again
pub entries-written : (big : Bool) (entries : List Entry) → AllByRecursion EntryFits entries → map (entry_of big) (map (entry_bytes big) entries) ≡ entries
entries-written big [] all = refl
entries-written big (e ∷ entries) all =
    ap (λ (x : Entry). x ∷ map (entry_of big) (map (entry_bytes big) entries)) (entry-written big e all.0)
    ∙ ap (λ (l : List Entry). e ∷ l) (entries-written big entries all.1)
