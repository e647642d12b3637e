-- Where the checks of a file find no fault, what lies at the places that its header gives is an object that the file spells.
use Rattle.std.proofs.Common.{◌≡◌, ℕ, ◌*◌, ◌/◌, ◌%◌, ◌≤◌, Bool, true, false, List, ◌++◌, length, take, drop, refl, sym, ap, subst, ◌∙◌, arith, inl, inr, take-append-drop}
use Rattle.std.specs.Prelude.{None, Ok, Err, if◌then◌else◌, ◌==◌, nat_le, ◌⊎◌}
use Rattle.std.specs.List.{AllByRecursion}
use Rattle.std.specs.Simd.{first_chunks}
use Rattle.std.proofs.lemmas.Bool.{and_parts, eqb-true, leb-true}
use Rattle.std.proofs.lemmas.List.{length-map, length-take-le, drop_all}
use Rattle.st_base.specs.ByteOrder.{is_big}
use Rattle.st_base.specs.Faults.{fault_at, first_fault}
use Rattle.st_base.specs.Number.{IsBytes}
use Rattle.st_base.specs.declared.fault.TheConstants.{TRUNCATED}
use Rattle.st_base.proofs.BytesLemmas.{IsBytes-take, IsBytes-drop}
use Rattle.st_base.proofs.CheckLemmas.{AllHold-first_fault}
use Rattle.st_base.specs.declared.sizes.TheConstants.{HEADER_SIZE, ENTRY_SIZE, RELOC_SIZE}
use Rattle.aout_layout.specs.declared.header.Header.{Header}
use Rattle.aout_layout.specs.Headers.{header_of, header_bytes, HeaderFits, NumbersFit, Spells, read}
use Rattle.aout_layout.proofs.HeaderLemmas.{read-spelled, spelled-write}
use Rattle.nlist_codec.specs.Entries.{EntryFits, entry_of, entries_in}
use Rattle.reloc.specs.Relocs.{reloc_of}
use Rattle.strtab.specs.StringTable.{HasOwnLength}
use Rattle.aout_object.specs.Objects.{header_for, relocs_bytes, entries_bytes, behind_header, IsReloc, HasTable, ObjectFits, ObjectSpells}
use Rattle.aout_object.specs.Checks.{data_at, text_relocs_at, data_relocs_at, entries_at, table_at, part, reloc_pieces, text_relocs_part, data_relocs_part, entries_part, strings_part, is_absent, place_checks}
use Rattle.aout_object.specs.Decoding.{relocs_in, contents_in, relocs_fault, entries_fault, records_fault, header_in}
use Rattle.aout_object.proofs.FaultLemmas.{entries_fault-none, table-stands}
use Rattle.aout_object.proofs.PlaceLemmas.{length-part, part-then}
use Rattle.aout_object.proofs.RecordLemmas.{number_at-lt, length-first_chunks, fault_or-none, relocs-read, entries-read}

-- ---- the header

-- a file with a header is long enough, and its first bytes are read as it
header_in-ok : (bytes : List ℕ) (h : Header) → header_in bytes ≡ Ok h → (HEADER_SIZE ≤ length bytes) × (read (take HEADER_SIZE bytes) ≡ Ok h)
header_in-ok bytes h has = by_size (nat_le HEADER_SIZE (length bytes)) refl has where
  by_size : (long : Bool) → nat_le HEADER_SIZE (length bytes) ≡ long
      → (if long then read (take HEADER_SIZE bytes) else Err (fault_at TRUNCATED (length bytes))) ≡ Ok h
      → (HEADER_SIZE ≤ length bytes) × (read (take HEADER_SIZE bytes) ≡ Ok h)
  by_size true long answer = (leb-true HEADER_SIZE (length bytes) long, answer)
  by_size false long answer = absurd cc

-- the numbers of a header that was read fit their fields
numbers-read : (big : Bool) (front : List ℕ) → IsBytes front → length front ≡ HEADER_SIZE → NumbersFit (header_of big front)
numbers-read big front are_bytes whole =
    let word = number_at-lt big front 0 4 are_bytes (omega (arith, whole)) in
    record {
      machine = omega (arith, word);
      text = number_at-lt big front 4 4 are_bytes (omega (arith, whole));
      data_part = number_at-lt big front 8 4 are_bytes (omega (arith, whole));
      bss = number_at-lt big front 12 4 are_bytes (omega (arith, whole));
      symbols = number_at-lt big front 16 4 are_bytes (omega (arith, whole));
      entry = number_at-lt big front 20 4 are_bytes (omega (arith, whole));
      text_relocs = number_at-lt big front 24 4 are_bytes (omega (arith, whole));
      data_relocs = number_at-lt big front 28 4 are_bytes (omega (arith, whole));
    }

-- a header with these sizes in place of its own
abbrev sized : Header → ℕ → ℕ → ℕ → ℕ → ℕ → Header
sized h text data_part symbols text_relocs data_relocs = record {
  order = h.order;
  machine = h.machine;
  text = text;
  data_part = data_part;
  bss = h.bss;
  symbols = symbols;
  entry = h.entry;
  text_relocs = text_relocs;
  data_relocs = data_relocs;
}

-- where they are its own it is the same
sized-same : (h : Header) (text data_part symbols text_relocs data_relocs : ℕ) → text ≡ h.text → data_part ≡ h.data_part → symbols ≡ h.symbols
    → text_relocs ≡ h.text_relocs → data_relocs ≡ h.data_relocs → sized h text data_part symbols text_relocs data_relocs ≡ h
sized-same h text data_part symbols text_relocs data_relocs is_text is_data is_symbols is_trs is_drs =
    rw (is_text, is_data, is_symbols, is_trs, is_drs) refl

-- ---- whole pieces

-- bytes of a multiple of a size are so many pieces
pieces_whole : (bytes : List ℕ) (n : ℕ) → length bytes ≡ n → n % RELOC_SIZE ≡ 0 → length bytes ≡ length bytes / RELOC_SIZE * RELOC_SIZE
pieces_whole bytes n is whole = omega (arith, is, whole)

-- the relocations of a part, counted
length-relocs_in : (big : Bool) (bytes : List ℕ) (n : ℕ) → length bytes ≡ n → n % RELOC_SIZE ≡ 0 → length (relocs_in big bytes) * RELOC_SIZE ≡ n
length-relocs_in big bytes n is whole =
    let count : length (relocs_in big bytes) ≡ length bytes / RELOC_SIZE =
    length-map (reloc_pieces bytes) (reloc_of big) ∙ length-first_chunks RELOC_SIZE (length bytes / RELOC_SIZE) bytes in
    omega (arith, count, is, whole)

-- the entries of a part, counted
length-entries_in : (big : Bool) (bytes : List ℕ) (n : ℕ) → length bytes ≡ n → n % ENTRY_SIZE ≡ 0 → length (entries_in big bytes) * ENTRY_SIZE ≡ n
length-entries_in big bytes n is whole =
    let count : length (entries_in big bytes) ≡ length bytes / ENTRY_SIZE =
    length-map (first_chunks ENTRY_SIZE (length bytes / ENTRY_SIZE) bytes) (entry_of big) ∙ length-first_chunks ENTRY_SIZE (length bytes / ENTRY_SIZE) bytes in
    omega (arith, count, is, whole)

-- ---- without a fault, what lies at the places spells the file

-- the parts of a file in which all are there
module _ (bytes : List ℕ) (h : Header) (are_bytes : IsBytes bytes) (has : header_in bytes ≡ Ok h) (sizes : first_fault (place_checks h bytes) ≡ None) (records : records_fault h bytes ≡ None) where
  -- the first bytes
  abbrev front : List ℕ
  front = take HEADER_SIZE bytes

  -- they are 32
  length-front : length front ≡ HEADER_SIZE
  length-front = length-take-le HEADER_SIZE bytes (header_in-ok bytes h has).0

  -- they are bytes
  front_bytes : IsBytes front
  front_bytes = IsBytes-take HEADER_SIZE bytes are_bytes

  -- they spell the header
  spells : Spells h front
  spells = read-spelled front h front_bytes (let whole = length-front in omega (arith, whole)) (header_in-ok bytes h has).1

  -- the numbers of the header fit
  numbers : NumbersFit h
  numbers = subst NumbersFit spells.fields (numbers-read (is_big h.order) front front_bytes length-front)

  -- all parts are there
  there : table_at h ≤ length bytes
  there = leb-true (table_at h) (length bytes) (AllHold-first_fault (place_checks h bytes) sizes).0

  -- the sizes of the parts
  text_size : length (part bytes HEADER_SIZE h.text) ≡ h.text
  text_size = length-part bytes HEADER_SIZE h.text (let all = there in omega (arith, all))

  data_size : length (part bytes (data_at h) h.data_part) ≡ h.data_part
  data_size = length-part bytes (data_at h) h.data_part (let all = there in omega (arith, all))

  text_relocs_size : length (text_relocs_part h bytes) ≡ h.text_relocs
  text_relocs_size = length-part bytes (text_relocs_at h) h.text_relocs (let all = there in omega (arith, all))

  data_relocs_size : length (data_relocs_part h bytes) ≡ h.data_relocs
  data_relocs_size = length-part bytes (data_relocs_at h) h.data_relocs (let all = there in omega (arith, all))

  entries_size : length (entries_part h bytes) ≡ h.symbols
  entries_size = length-part bytes (entries_at h) h.symbols (let all = there in omega (arith, all))

  -- a part is bytes
  part_bytes : (at size : ℕ) → IsBytes (part bytes at size)
  part_bytes at size = IsBytes-take size (drop at bytes) (IsBytes-drop at bytes are_bytes)

  -- no relocation and no entry has a fault
  text_relocs_pass : relocs_fault (is_big h.order) 0 (reloc_pieces (text_relocs_part h bytes)) ≡ None
  text_relocs_pass = (fault_or-none _ _ (fault_or-none _ _ records).0).0

  data_relocs_pass : relocs_fault (is_big h.order) (h.text_relocs / RELOC_SIZE) (reloc_pieces (data_relocs_part h bytes)) ≡ None
  data_relocs_pass = (fault_or-none _ _ (fault_or-none _ _ records).0).1

  entries_pass : entries_fault (strings_part h bytes) 0 (entries_in (is_big h.order) (entries_part h bytes)) ≡ None
  entries_pass = (fault_or-none _ _ records).1

  -- the records, written again
  text_relocs_again : (relocs_bytes (is_big h.order) (relocs_in (is_big h.order) (text_relocs_part h bytes)) ≡ text_relocs_part h bytes)
      × AllByRecursion IsReloc (relocs_in (is_big h.order) (text_relocs_part h bytes))
  text_relocs_again =
      relocs-read (is_big h.order) 0 (length (text_relocs_part h bytes) / RELOC_SIZE) (text_relocs_part h bytes) (part_bytes (text_relocs_at h) h.text_relocs)
      (pieces_whole (text_relocs_part h bytes) h.text_relocs text_relocs_size spells.fits.whole_text_relocs) text_relocs_pass

  data_relocs_again : (relocs_bytes (is_big h.order) (relocs_in (is_big h.order) (data_relocs_part h bytes)) ≡ data_relocs_part h bytes)
      × AllByRecursion IsReloc (relocs_in (is_big h.order) (data_relocs_part h bytes))
  data_relocs_again =
      relocs-read (is_big h.order) (h.text_relocs / RELOC_SIZE) (length (data_relocs_part h bytes) / RELOC_SIZE) (data_relocs_part h bytes) (part_bytes (data_relocs_at h) h.data_relocs)
      (pieces_whole (data_relocs_part h bytes) h.data_relocs data_relocs_size spells.fits.whole_data_relocs) data_relocs_pass

  entries_again : (entries_bytes (is_big h.order) (entries_in (is_big h.order) (entries_part h bytes)) ≡ entries_part h bytes)
      × AllByRecursion EntryFits (entries_in (is_big h.order) (entries_part h bytes))
  entries_again =
      let size = entries_size in
      let whole = spells.fits.whole_entries in
      entries-read (is_big h.order) (length (entries_part h bytes) / ENTRY_SIZE) (entries_part h bytes) (part_bytes (entries_at h) h.symbols) (omega (arith, size, whole))

  -- the header of what lies at the places is the header
  header_for-contents_in : header_for (contents_in h bytes) ≡ h
  header_for-contents_in =
      sized-same h _ _ _ _ _ text_size data_size (length-entries_in (is_big h.order) (entries_part h bytes) h.symbols entries_size spells.fits.whole_entries)
      (length-relocs_in (is_big h.order) (text_relocs_part h bytes) h.text_relocs text_relocs_size spells.fits.whole_text_relocs)
      (length-relocs_in (is_big h.order) (data_relocs_part h bytes) h.data_relocs data_relocs_size spells.fits.whole_data_relocs)

  -- its string table stands as it must
  table_stands : HasTable (contents_in h bytes)
  table_stands = by_table (table-stands h bytes there (AllHold-first_fault (place_checks h bytes) sizes).1) where
    by_table : (is_absent h bytes ≡ true) ⊎ HasOwnLength (is_big h.order) (drop (table_at h) bytes) → HasTable (contents_in h bytes)
    by_table (inl absent) =
        let both = and_parts (h.symbols == 0) (length bytes == table_at h) absent in
        let none : h.symbols ≡ 0 = eqb-true h.symbols 0 both.0 in
        let ends : length bytes ≡ table_at h = eqb-true (length bytes) (table_at h) both.1 in
        inl (drop_all (table_at h) bytes (omega (arith, ends)), ap (λ (n : ℕ). entries_in (is_big h.order) (part bytes (entries_at h) n)) none)
    by_table (inr own) = inr own

  -- it can be written
  pub contents-fit : ObjectFits (contents_in h bytes)
  contents-fit = record {
    header = subst HeaderFits (sym header_for-contents_in) spells.fits;
    numbers = subst NumbersFit (sym header_for-contents_in) numbers;
    text_relocs = text_relocs_again.1;
    data_relocs = data_relocs_again.1;
    entries = entries_again.1;
    accepted = entries_fault-none (strings_part h bytes) 0 (entries_in (is_big h.order) (entries_part h bytes)) entries_pass;
    table = table_stands;
  }

  -- what stands after the header, in sequence
  in_sequence : drop HEADER_SIZE bytes ≡ behind_header (is_big h.order) (contents_in h bytes)
  in_sequence =
      part-then bytes HEADER_SIZE h.text _ _ refl
      (part-then bytes (data_at h) h.data_part _ _ refl
      (part-then bytes (text_relocs_at h) h.text_relocs _ _ text_relocs_again.0
      (part-then bytes (data_relocs_at h) h.data_relocs _ _ data_relocs_again.0
      (part-then bytes (entries_at h) h.symbols _ _ entries_again.0 refl))))

  -- it spells the file
  pub contents-spell : ObjectSpells (contents_in h bytes) bytes
  contents-spell = record {
    fits = contents-fit;
    sequence =
        sym (take-append-drop HEADER_SIZE bytes)
        ∙ ap (λ (x : List ℕ). front ++ x) in_sequence
        ∙ ap (λ (x : List ℕ). x ++ behind_header (is_big h.order) (contents_in h bytes)) (sym (spelled-write h front front_bytes length-front spells))
        ∙ ap (λ (x : Header). header_bytes x ++ behind_header (is_big h.order) (contents_in h bytes)) (sym header_for-contents_in);
  }
