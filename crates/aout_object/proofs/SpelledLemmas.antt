-- A file that spells an object passes all checks, and what lies at the places of its parts is that object.
use Rattle.std.proofs.Common.{◌≡◌, ℕ, ◌+◌, ◌/◌, ◌≤◌, Bool, true, List, ◌++◌, length, take, drop, refl, sym, ap, subst, ◌∙◌, arith, inl, inr, length-append}
use Rattle.std.specs.Prelude.{None, Result, Ok, Err, if◌then◌else◌, ◌==◌, map, ◌⊎◌}
use Rattle.std.specs.List.{AllByRecursion}
use Rattle.std.specs.Simd.{first_chunks}
use Rattle.std.proofs.lemmas.Bool.{and_from, eq-eqb, le-leb}
use Rattle.std.proofs.lemmas.List.{take_at, drop_at}
use Rattle.st_base.specs.ByteOrder.{is_big}
use Rattle.st_base.specs.Faults.{fault_at, first_fault}
use Rattle.st_base.specs.Number.{IsBytes}
use Rattle.st_base.specs.declared.fault.Fault.{Fault}
use Rattle.st_base.specs.declared.fault.TheConstants.{TRUNCATED}
use Rattle.st_base.proofs.BytesLemmas.{IsBytes-take}
use Rattle.st_base.proofs.CheckLemmas.{first_fault-AllHold}
use Rattle.st_base.specs.declared.sizes.TheConstants.{HEADER_SIZE, ENTRY_SIZE, RELOC_SIZE}
use Rattle.aout_layout.specs.declared.header.Header.{Header}
use Rattle.aout_layout.specs.Headers.{header_bytes, read}
use Rattle.aout_layout.proofs.HeaderLemmas.{spelled-read, write-spelled}
use Rattle.nlist_codec.specs.declared.entry.Entry.{Entry}
use Rattle.nlist_codec.specs.Entries.{EntryFits, entry_of, entry_bytes, entries_in}
use Rattle.reloc.specs.declared.reloc.Reloc.{Reloc}
use Rattle.reloc.specs.Relocs.{reloc_of, reloc_bytes}
use Rattle.strtab.specs.StringTable.{HasOwnLength}
use Rattle.aout_object.specs.Objects.{Contents, header_for, relocs_bytes, entries_bytes, behind_header, HasTable, ObjectSpells}
use Rattle.aout_object.specs.Checks.{data_at, text_relocs_at, data_relocs_at, entries_at, table_at, part, reloc_pieces, text_relocs_part, data_relocs_part, entries_part, is_absent, place_checks}
use Rattle.aout_object.specs.Decoding.{relocs_in, contents_in, relocs_fault, entries_fault, records_fault, header_in, fault_behind, file_fault}
use Rattle.aout_object.proofs.FaultLemmas.{none-fault_or, none-entries_fault, table-passes}
use Rattle.aout_object.proofs.PlaceLemmas.{part-here, drop-part}
use Rattle.aout_object.proofs.RecordLemmas.{length-flat_map_each, chunks-flat_map, length-reloc_bytes, relocs-written, length-entry_bytes, entries-written}

-- ---- records in a row

-- the relocations that were written in a row, read
relocs_in-bytes : (big : Bool) (relocs : List Reloc) → reloc_pieces (relocs_bytes big relocs) ≡ map (reloc_bytes big) relocs
relocs_in-bytes big relocs =
    let size = length-flat_map_each (reloc_bytes big) RELOC_SIZE (length-reloc_bytes big) relocs in
    let count : length (relocs_bytes big relocs) / RELOC_SIZE ≡ length relocs = omega (arith, size) in
    ap (λ (k : ℕ). first_chunks RELOC_SIZE k (relocs_bytes big relocs)) count ∙ chunks-flat_map (reloc_bytes big) RELOC_SIZE (length-reloc_bytes big) relocs

-- the entries that were written in a row, read
entries_in-bytes : (big : Bool) (entries : List Entry) → AllByRecursion EntryFits entries → entries_in big (entries_bytes big entries) ≡ entries
entries_in-bytes big entries all =
    let size = length-flat_map_each (entry_bytes big) ENTRY_SIZE (length-entry_bytes big) entries in
    let count : length (entries_bytes big entries) / ENTRY_SIZE ≡ length entries = omega (arith, size) in
    ap (λ (k : ℕ). map (entry_of big) (first_chunks ENTRY_SIZE k (entries_bytes big entries))) count
    ∙ ap (map (entry_of big)) (chunks-flat_map (entry_bytes big) ENTRY_SIZE (length-entry_bytes big) entries)
    ∙ entries-written big entries all

-- ---- an object made of parts

-- where the parts are those of an object, it is that object
filled : (o : Contents) (text data_part strings : List ℕ) (text_relocs data_relocs : List Reloc) (entries : List Entry)
    → text ≡ o.parts.text → data_part ≡ o.parts.data_part → text_relocs ≡ o.parts.text_relocs → data_relocs ≡ o.parts.data_relocs → entries ≡ o.entries → strings ≡ o.strings
    → record {
      parts = record {
        order = o.parts.order;
        machine = o.parts.machine;
        bss = o.parts.bss;
        entry = o.parts.entry;
        text = text;
        data_part = data_part;
        text_relocs = text_relocs;
        data_relocs = data_relocs;
      };
      entries = entries;
      strings = strings;
    } ≡ o
filled o text data_part strings text_relocs data_relocs entries is_text is_data is_trs is_drs is_entries is_strings =
    rw (is_text, is_data, is_trs, is_drs, is_entries, is_strings) refl

-- ---- a spelled file

module _ (o : Contents) (bytes : List ℕ) (are_bytes : IsBytes bytes) (spells : ObjectSpells o bytes) where
  -- its header, and whether the most significant byte comes first
  abbrev h : Header
  h = header_for o

  abbrev big : Bool
  big = is_big o.parts.order

  -- the first bytes are the header's
  front_is : take HEADER_SIZE bytes ≡ header_bytes h
  front_is = ap (take HEADER_SIZE) spells.sequence ∙ take_at (header_bytes h) (behind_header big o) HEADER_SIZE refl

  -- the parts stand after it
  text_behind : drop HEADER_SIZE bytes ≡ behind_header big o
  text_behind = ap (drop HEADER_SIZE) spells.sequence ∙ drop_at (header_bytes h) (behind_header big o) HEADER_SIZE refl

  -- the sizes of relocations and entries
  text_relocs_size : length (relocs_bytes big o.parts.text_relocs) ≡ h.text_relocs
  text_relocs_size = length-flat_map_each (reloc_bytes big) RELOC_SIZE (length-reloc_bytes big) o.parts.text_relocs

  data_relocs_size : length (relocs_bytes big o.parts.data_relocs) ≡ h.data_relocs
  data_relocs_size = length-flat_map_each (reloc_bytes big) RELOC_SIZE (length-reloc_bytes big) o.parts.data_relocs

  entries_size : length (entries_bytes big o.entries) ≡ h.symbols
  entries_size = length-flat_map_each (entry_bytes big) ENTRY_SIZE (length-entry_bytes big) o.entries

  -- what stands from each part on
  data_behind : drop (data_at h) bytes ≡ o.parts.data_part ++ (relocs_bytes big o.parts.text_relocs ++ (relocs_bytes big o.parts.data_relocs ++ (entries_bytes big o.entries ++ o.strings)))
  data_behind = drop-part bytes HEADER_SIZE h.text o.parts.text _ text_behind refl

  text_relocs_behind : drop (text_relocs_at h) bytes ≡ relocs_bytes big o.parts.text_relocs ++ (relocs_bytes big o.parts.data_relocs ++ (entries_bytes big o.entries ++ o.strings))
  text_relocs_behind = drop-part bytes (data_at h) h.data_part o.parts.data_part _ data_behind refl

  data_relocs_behind : drop (data_relocs_at h) bytes ≡ relocs_bytes big o.parts.data_relocs ++ (entries_bytes big o.entries ++ o.strings)
  data_relocs_behind = drop-part bytes (text_relocs_at h) h.text_relocs (relocs_bytes big o.parts.text_relocs) _ text_relocs_behind text_relocs_size

  entries_behind : drop (entries_at h) bytes ≡ entries_bytes big o.entries ++ o.strings
  entries_behind = drop-part bytes (data_relocs_at h) h.data_relocs (relocs_bytes big o.parts.data_relocs) _ data_relocs_behind data_relocs_size

  strings_behind : drop (table_at h) bytes ≡ o.strings
  strings_behind = drop-part bytes (entries_at h) h.symbols (entries_bytes big o.entries) o.strings entries_behind entries_size

  -- each part lies at its place
  text_is : part bytes HEADER_SIZE h.text ≡ o.parts.text
  text_is = part-here bytes HEADER_SIZE h.text o.parts.text _ text_behind refl

  data_is : part bytes (data_at h) h.data_part ≡ o.parts.data_part
  data_is = part-here bytes (data_at h) h.data_part o.parts.data_part _ data_behind refl

  text_relocs_are : text_relocs_part h bytes ≡ relocs_bytes big o.parts.text_relocs
  text_relocs_are = part-here bytes (text_relocs_at h) h.text_relocs (relocs_bytes big o.parts.text_relocs) _ text_relocs_behind text_relocs_size

  data_relocs_are : data_relocs_part h bytes ≡ relocs_bytes big o.parts.data_relocs
  data_relocs_are = part-here bytes (data_relocs_at h) h.data_relocs (relocs_bytes big o.parts.data_relocs) _ data_relocs_behind data_relocs_size

  entries_are : entries_part h bytes ≡ entries_bytes big o.entries
  entries_are = part-here bytes (entries_at h) h.symbols (entries_bytes big o.entries) o.strings entries_behind entries_size

  -- the length of the file
  length_is : length bytes ≡ table_at h + length o.strings
  length_is =
      let whole = ap (λ (x : List ℕ). length x) spells.sequence in
      let front = length-append (header_bytes h) (behind_header big o) in
      let text = length-append o.parts.text (o.parts.data_part ++ (relocs_bytes big o.parts.text_relocs ++ (relocs_bytes big o.parts.data_relocs ++ (entries_bytes big o.entries ++ o.strings)))) in
      let data_part = length-append o.parts.data_part (relocs_bytes big o.parts.text_relocs ++ (relocs_bytes big o.parts.data_relocs ++ (entries_bytes big o.entries ++ o.strings))) in
      let text_relocs = length-append (relocs_bytes big o.parts.text_relocs) (relocs_bytes big o.parts.data_relocs ++ (entries_bytes big o.entries ++ o.strings)) in
      let data_relocs = length-append (relocs_bytes big o.parts.data_relocs) (entries_bytes big o.entries ++ o.strings) in
      let entries = length-append (entries_bytes big o.entries) o.strings in
      let a = text_relocs_size in
      let b = data_relocs_size in
      let c = entries_size in
      omega (arith, whole, front, text, data_part, text_relocs, data_relocs, entries, a, b, c)

  -- its header is read
  pub spelled-header : header_in bytes ≡ Ok h
  spelled-header =
      let size = length_is in
      let long : HEADER_SIZE ≤ length bytes = omega (arith, size) in
      let is_front : IsBytes (header_bytes h) = subst IsBytes front_is (IsBytes-take HEADER_SIZE bytes are_bytes) in
      let four : 4 ≤ length (header_bytes h) = omega arith in
      let answer : read (header_bytes h) ≡ Ok h = spelled-read (header_bytes h) h is_front four (write-spelled h spells.fits.numbers spells.fits.header) in
      ap (λ (test : Bool). if test then read (take HEADER_SIZE bytes) else Err (fault_at TRUNCATED (length bytes))) (le-leb HEADER_SIZE (length bytes) long)
      ∙ ap read front_is ∙ answer

  -- what lies at the places is the object
  pub spelled-contents : contents_in h bytes ≡ o
  spelled-contents =
      filled o _ _ _ _ _ _ text_is data_is
      (ap (relocs_in big) text_relocs_are ∙ ap (map (reloc_of big)) (relocs_in-bytes big o.parts.text_relocs) ∙ (relocs-written big 0 o.parts.text_relocs spells.fits.text_relocs).0)
      (ap (relocs_in big) data_relocs_are ∙ ap (map (reloc_of big)) (relocs_in-bytes big o.parts.data_relocs) ∙ (relocs-written big 0 o.parts.data_relocs spells.fits.data_relocs).0)
      (ap (entries_in big) entries_are ∙ entries_in-bytes big o.entries spells.fits.entries)
      strings_behind

  -- its string table stands as it must
  table_stands : HasTable o → (is_absent h bytes ≡ true) ⊎ HasOwnLength big (drop (table_at h) bytes)
  table_stands (inl none) =
      let size = length_is in
      let no_strings = ap (λ (x : List ℕ). length x) none.0 in
      let no_entries = ap (λ (x : List Entry). length x) none.1 in
      inl (and_from (h.symbols == 0) (length bytes == table_at h) (eq-eqb h.symbols 0 (omega (arith, no_entries))) (eq-eqb (length bytes) (table_at h) (omega (arith, size, no_strings))))
  table_stands (inr own) = inr (subst (HasOwnLength big) (sym strings_behind) own)

  -- its sizes pass
  sizes_pass : first_fault (place_checks h bytes) ≡ None
  sizes_pass =
      let size = length_is in
      let there : table_at h ≤ length bytes = omega (arith, size) in
      first_fault-AllHold (place_checks h bytes) (le-leb (table_at h) (length bytes) there, table-passes h bytes there (table_stands spells.fits.table))

  -- its relocations and entries pass
  records_pass : records_fault h bytes ≡ None
  records_pass =
      none-fault_or _ _
      (none-fault_or _ _ (ap (λ (x : List ℕ). relocs_fault big 0 (reloc_pieces x)) text_relocs_are
      ∙ ap (relocs_fault big 0) (relocs_in-bytes big o.parts.text_relocs) ∙ (relocs-written big 0 o.parts.text_relocs spells.fits.text_relocs).1)
      (ap (λ (x : List ℕ). relocs_fault big (h.text_relocs / RELOC_SIZE) (reloc_pieces x)) data_relocs_are
      ∙ ap (relocs_fault big (h.text_relocs / RELOC_SIZE)) (relocs_in-bytes big o.parts.data_relocs) ∙ (relocs-written big (h.text_relocs / RELOC_SIZE) o.parts.data_relocs spells.fits.data_relocs).1))
      (ap (λ (x : List ℕ). entries_fault x 0 (entries_in big (entries_part h bytes))) strings_behind
      ∙ ap (λ (x : List ℕ). entries_fault o.strings 0 (entries_in big x)) entries_are
      ∙ ap (entries_fault o.strings 0) (entries_in-bytes big o.entries spells.fits.entries)
      ∙ none-entries_fault o.strings 0 o.entries spells.fits.accepted)

  -- it has no fault
  pub spelled-passes : file_fault bytes ≡ None
  spelled-passes = ap (λ (r : Result Header Fault). fault_behind r bytes) spelled-header ∙ none-fault_or (first_fault (place_checks h bytes)) (records_fault h bytes) sizes_pass records_pass
