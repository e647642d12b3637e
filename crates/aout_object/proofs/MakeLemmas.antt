-- Names that are added to a string table one by one: the offsets that they get are those that they have in the end, and an object
-- made of parts and named entries can be written and has these named entries.
use Rattle.std.proofs.Common.{◌≡◌, ◌≢◌, ℕ, ◌+◌, ◌*◌, ◌^◌, ◌<◌, ◌≤◌, Bool, true, false, List, [], ◌∷◌, ◌++◌, length, take, drop, get_or, Contains, refl, sym, ap, subst, ◌∙◌, arith, inl, inr, length-append, take-append-drop}
use Rattle.std.specs.Option.{is_some}
use Rattle.std.specs.Prelude.{All, IfOk, if◌then◌else◌, nat_le, Option, Some, None, fold, Result, Ok, Err}
use Rattle.std.specs.List.{AllByRecursion, list_any}
use Rattle.std.specs.Str.{bytes_eq}
use Rattle.std.proofs.lemmas.Bool.{cases_Bool, leb-true, lt-leb}
use Rattle.std.proofs.lemmas.List.{take_more, map-append, length-map, get_or-map}
use Rattle.std.proofs.lemmas.List.Elements.{All-map, Contains-push, Contains-get_or, recursion_from_All}
use Rattle.std.proofs.lemmas.List.Sums.{fold-append}
use Rattle.st_base.specs.ByteOrder.{is_big}
use Rattle.st_base.specs.Faults.{Check, fault_at, first_fault}
use Rattle.st_base.specs.declared.fault.Fault.{Fault}
use Rattle.st_base.proofs.CheckLemmas.{AllHold, AllHold-first_fault}
use Rattle.st_base.specs.declared.fault.Refused.{Refused}
use Rattle.st_base.specs.declared.fault.Refused.TheVariants as refused
use Rattle.st_base.specs.declared.sizes.TheConstants.{HEADER_SIZE, ENTRY_SIZE, RELOC_SIZE, FILE_LIMIT, GREATEST_ADDRESS}
use Rattle.aout_layout.specs.Headers.{header_bytes}
use Rattle.aout_layout.specs.declared.header.TheConstants.{TWO_ORDERS}
use Rattle.nlist_codec.specs.declared.entry.Entry.{Entry}
use Rattle.nlist_codec.specs.declared.named.Named.{Named}
use Rattle.nlist_codec.specs.Entries.{EntryFits, entry_bytes}
use Rattle.reloc.specs.declared.reloc.Reloc.{Reloc}
use Rattle.reloc.specs.Relocs.{RelocFits, reloc_bytes}
use Rattle.strtab.specs.Names.{RefusesSize, size_of, spelled, offset_of, first_uses, added, table_of}
use Rattle.strtab.specs.StringTable.{HasNoZero}
use Rattle.strtab.proofs.AddedLemmas.{added-there, added-new}
use Rattle.strtab.proofs.NamesLemmas.{spelled-append}
use Rattle.strtab.proofs.UsesLemmas.{name_in-first_uses, offset_of-later}
use Rattle.strtab.proofs.WordLemmas.{HasOwnLength-table_of, length-table_of}
use Rattle.aout_object.specs.declared.parts.Parts.{Parts}
use Rattle.aout_object.specs.Objects.{Contents, header_for, relocs_bytes, entries_bytes, behind_header, file_of, IsReloc, IsAccepted, ObjectFits, name_of, named_entry, all_named, named_of}
use Rattle.aout_object.specs.Decoding.{Answers, fault_or}
use Rattle.aout_object.specs.Making.{names_of, HasWholeName, entry_at, entry_for, entries_for, made, kinds_checks, addresses_check, size_check, make_checks, size_with}
use Rattle.st_base.specs.declared.fault.TheConstants.{TOO_LARGE}
use Rattle.aout_object.proofs.RecordLemmas.{length-flat_map_each, length-reloc_bytes, length-entry_bytes}
use Rattle.aout_object.proofs.StepLemmas.{first_fault-append}

-- ---- names that are used one by one

-- the names after one more use
first_uses-push : (uses : List (List ℕ)) (name : List ℕ) → first_uses (uses ++ name ∷ []) ≡ added (first_uses uses) name
first_uses-push uses name = fold-append added [] uses (name ∷ [])

-- a use never makes the table smaller
size_of-added : (names : List (List ℕ)) (name : List ℕ) → size_of names ≤ size_of (added names name)
size_of-added names [] = omega arith
size_of-added names (b ∷ bytes) = elim (cases_Bool (list_any (bytes_eq (b ∷ bytes)) names)) [ inl there ↦ there_still there | inr new ↦ longer new ] where
  there_still : list_any (bytes_eq (b ∷ bytes)) names ≡ true → size_of names ≤ size_of (added names (b ∷ bytes))
  there_still there = let same = ap size_of (added-there names (b ∷ bytes) there) in omega (arith, same)

  longer : list_any (bytes_eq (b ∷ bytes)) names ≡ false → size_of names ≤ size_of (added names (b ∷ bytes))
  longer new =
      let more = ap size_of (added-new names (b ∷ bytes) (λ e. cc) new) in
      let both = ap (λ (x : List ℕ). length x) (spelled-append names ((b ∷ bytes) ∷ [])) in
      let sum = length-append (spelled names) (spelled ((b ∷ bytes) ∷ [])) in
      omega (arith, more, both, sum)

-- nor do more of them
size_of-uses : (uses names : List (List ℕ)) → size_of names ≤ size_of (fold added names uses)
size_of-uses [] names = omega arith
size_of-uses (name ∷ uses) names =
    let first = size_of-added names name in
    let rest = size_of-uses uses (added names name) in
    omega (arith, first, rest)

-- a list is what stands before an item, the item, and what stands after it
at_item : {X : Type 0} (xs : List X) (i : ℕ) (d : X) → i < length xs → xs ≡ (take i xs ++ get_or xs i d ∷ []) ++ drop (i + 1) xs
at_item xs i d within = sym (take-append-drop (i + 1) xs) ∙ ap (λ (x : List _). x ++ drop (i + 1) xs) (take_more xs i d within)

-- the names of entries, cut at an item
module _ (named : List Named) (i : ℕ) (item : Named) (within : i < length named) (is : item ≡ get_or named i item) where
  -- the entries up to the item
  take_is : take (i + 1) named ≡ take i named ++ item ∷ []
  take_is = take_more named i item within ∙ ap (λ (x : Named). take i named ++ x ∷ []) (sym is)

  -- their names
  names_up_to : names_of (take (i + 1) named) ≡ names_of (take i named) ++ item.name ∷ []
  names_up_to = ap names_of take_is ∙ map-append (λ n. n.name) (take i named) (item ∷ [])

  -- all names
  names_cut : names_of named ≡ (names_of (take i named) ++ item.name ∷ []) ++ names_of (drop (i + 1) named)
  names_cut =
      ap names_of (sym (take-append-drop (i + 1) named)) ∙ map-append (λ n. n.name) (take (i + 1) named) (drop (i + 1) named)
      ∙ ap (λ (x : List (List ℕ)). x ++ names_of (drop (i + 1) named)) names_up_to

  -- the names in the table after the item's is added
  pub names-step : (old new : List (List ℕ)) (bytes : List ℕ) → bytes ≡ item.name → old ≡ first_uses (names_of (take i named)) → new ≡ added old bytes
      → new ≡ first_uses (names_of (take (i + 1) named))
  names-step old new bytes is_name is_old is_new =
      is_new ∙ ap (added old) is_name ∙ ap (λ (x : List (List ℕ)). added x item.name) is_old ∙ sym (first_uses-push (names_of (take i named)) item.name) ∙ ap first_uses (sym names_up_to)

  -- the offset that the item's name gets is the one that it has in the end
  offset-step : offset_of (first_uses (names_of (take (i + 1) named))) item.name ≡ offset_of (first_uses (names_of named)) item.name
  offset-step =
      ap (λ (x : List (List ℕ)). offset_of (first_uses x) item.name) names_up_to
      ∙ sym (offset_of-later (names_of (take i named) ++ item.name ∷ []) (names_of (drop (i + 1) named)) item.name (Contains-push (names_of (take i named)) item.name))
      ∙ ap (λ (x : List (List ℕ)). offset_of (first_uses x) item.name) (sym names_cut)

  -- the entries up to the item
  pub entries-step : (new : List (List ℕ)) (bytes : List ℕ) (strx : ℕ) (e : Entry) (before after : List Entry)
      → bytes ≡ item.name → new ≡ first_uses (names_of (take (i + 1) named)) → strx ≡ offset_of new bytes → e ≡ entry_at item strx
      → before ≡ entries_for (first_uses (names_of named)) (take i named) → after ≡ before ++ e ∷ [] → after ≡ entries_for (first_uses (names_of named)) (take (i + 1) named)
  entries-step new bytes strx e before after is_name is_new is_strx is_e is_before is_after =
      let offset : strx ≡ offset_of (first_uses (names_of named)) item.name =
      is_strx ∙ ap (offset_of new) is_name ∙ ap (λ (x : List (List ℕ)). offset_of x item.name) is_new ∙ offset-step in
      is_after ∙ ap (λ (x : List Entry). x ++ e ∷ []) is_before
      ∙ ap (λ (x : Entry). entries_for (first_uses (names_of named)) (take i named) ++ x ∷ []) (is_e ∙ ap (entry_at item) offset)
      ∙ sym (map-append (entry_for (first_uses (names_of named))) (take i named) (item ∷ []))
      ∙ ap (entries_for (first_uses (names_of named))) (sym take_is)

  -- the table of all names is no smaller than that after the item's
  pub size-step : (old : List (List ℕ)) (bytes : List ℕ) → bytes ≡ item.name → old ≡ first_uses (names_of (take i named))
      → size_of (added old bytes) ≤ size_of (first_uses (names_of named))
  size-step old bytes is_name is_old =
      let rest = size_of-uses (names_of (drop (i + 1) named)) (first_uses (names_of (take i named) ++ item.name ∷ [])) in
      let whole = ap size_of (sym (fold-append added [] (names_of (take i named) ++ item.name ∷ []) (names_of (drop (i + 1) named))) ∙ ap first_uses (sym names_cut)) in
      let here = ap size_of (ap (added old) is_name ∙ ap (λ (x : List (List ℕ)). added x item.name) is_old ∙ sym (first_uses-push (names_of (take i named)) item.name)) in
      omega (arith, rest, whole, here)

-- what is refused at a size is refused at a greater one
pub RefusesSize-more : (less more : ℕ) (why : Refused) → less ≤ more → RefusesSize less why → RefusesSize more why
RefusesSize-more less more refused.Memory known refuses = tt
RefusesSize-more less more (refused.At why) known refuses = (omega (arith, known, refuses.0), refuses.1)

-- ---- the object that is made

-- the length of an object's file
pub length-file_of : (o : Contents) → length (file_of o) ≡ HEADER_SIZE + length o.parts.text + length o.parts.data_part + length o.parts.text_relocs * RELOC_SIZE
    + length o.parts.data_relocs * RELOC_SIZE + length o.entries * ENTRY_SIZE + length o.strings
length-file_of o =
    let big = is_big o.parts.order in
    let front = length-append (header_bytes (header_for o)) (behind_header big o) in
    let text = length-append o.parts.text (o.parts.data_part ++ (relocs_bytes big o.parts.text_relocs ++ (relocs_bytes big o.parts.data_relocs ++ (entries_bytes big o.entries ++ o.strings)))) in
    let data_part = length-append o.parts.data_part (relocs_bytes big o.parts.text_relocs ++ (relocs_bytes big o.parts.data_relocs ++ (entries_bytes big o.entries ++ o.strings))) in
    let text_relocs = length-append (relocs_bytes big o.parts.text_relocs) (relocs_bytes big o.parts.data_relocs ++ (entries_bytes big o.entries ++ o.strings)) in
    let data_relocs = length-append (relocs_bytes big o.parts.data_relocs) (entries_bytes big o.entries ++ o.strings) in
    let entries = length-append (entries_bytes big o.entries) o.strings in
    let a = length-flat_map_each (reloc_bytes big) RELOC_SIZE (length-reloc_bytes big) o.parts.text_relocs in
    let b = length-flat_map_each (reloc_bytes big) RELOC_SIZE (length-reloc_bytes big) o.parts.data_relocs in
    let c = length-flat_map_each (entry_bytes big) ENTRY_SIZE (length-entry_bytes big) o.entries in
    omega (arith, front, text, data_part, text_relocs, data_relocs, entries, a, b, c)

-- each name is among the names
names_there : (named : List Named) → AllByRecursion (λ n. Contains (names_of named) n.name) named
names_there named =
    recursion_from_All (λ n. Contains (names_of named) n.name) named
    (λ k d within. subst (Contains (names_of named)) (get_or-map (λ n. n.name) named k d d.name within)
    (Contains-get_or (names_of named) k d.name (let size = length-map named (λ (n : Named). n.name) in omega (arith, within, size))))

-- entries of accepted kinds whose names are in the table are accepted
accepted-made : (big : Bool) (uses : List (List ℕ)) (place : ℕ) (named : List Named) → All HasNoZero uses → AllByRecursion (λ n. Contains uses n.name) named → AllHold (kinds_checks place named)
    → AllByRecursion (IsAccepted (table_of big (first_uses uses))) (entries_for (first_uses uses) named)
accepted-made big uses place [] whole there kinds = tt
accepted-made big uses place (n ∷ named) whole there kinds = (
  record {
    kind = kinds.0;
    name = ap (λ (x : Option (List ℕ)). is_some x) (name_in-first_uses big uses whole n.name there.0);
  },
  accepted-made big uses (place + 1) named whole there.1 kinds.1,
)

-- their names are those that were handed in
named-made : (big : Bool) (uses : List (List ℕ)) (named : List Named) → All HasNoZero uses → AllByRecursion (λ n. Contains uses n.name) named
    → all_named (table_of big (first_uses uses)) (entries_for (first_uses uses) named) ≡ named
named-made big uses [] whole there = refl
named-made big uses (n ∷ named) whole there =
    let table = table_of big (first_uses uses) in
    let first : named_entry table (entry_for (first_uses uses) n) ≡ n =
    ap (λ (x : Option (List ℕ)). record { kind = n.kind; other = n.other; desc = n.desc; value = n.value; name = name_of x }) (name_in-first_uses big uses whole n.name there.0) in
    ap (λ (x : Named). x ∷ all_named table (entries_for (first_uses uses) named)) first ∙ ap (λ (l : List Named). n ∷ l) (named-made big uses named whole there.1)

-- the named entries of the object that is made are those handed in
pub named_of-made : (parts : Parts) (named : List Named) → All HasWholeName named → named_of (made parts named) ≡ named
named_of-made parts named whole = named-made (is_big parts.order) (names_of named) named (All-map HasNoZero (λ n. n.name) named whole) (names_there named)

-- relocations that can be written, whose addresses are words
pub relocs-fit : (relocs : List Reloc) → All RelocFits relocs → All (λ r. r.address < 2 ^ 32) relocs → AllByRecursion IsReloc relocs
relocs-fit relocs fits words = recursion_from_All IsReloc relocs (λ k d within. record { address = words k d within; fits = fits k d within })

-- the object can be written, where nothing is wrong with it
pub made-fits : (parts : Parts) (named : List Named) → All HasWholeName named → parts.machine ≢ TWO_ORDERS → parts.machine < 2 ^ 16
    → AllByRecursion IsReloc parts.text_relocs → AllByRecursion IsReloc parts.data_relocs → All EntryFits (made parts named).entries
    → first_fault (kinds_checks 0 named) ≡ None → first_fault (addresses_check parts ∷ []) ≡ None → first_fault (size_check (length (file_of (made parts named))) ∷ []) ≡ None → ObjectFits (made parts named)
made-fits parts named whole told machine text_relocs data_relocs entries kinds addresses size =
    let o : Contents = made parts named in
    let highest = leb-true (parts.entry + length parts.text + length parts.data_part + parts.bss) GREATEST_ADDRESS (AllHold-first_fault (addresses_check parts ∷ []) addresses).0 in
    let limit = leb-true (length (file_of o)) FILE_LIMIT (AllHold-first_fault (size_check (length (file_of o)) ∷ []) size).0 in
    let sum = length-file_of o in
    let table : length o.strings ≡ size_of (first_uses (names_of named)) = length-table_of (is_big parts.order) (first_uses (names_of named)) in
    record {
      header = record {
        order_told = told;
        whole_entries = omega arith;
        whole_text_relocs = omega arith;
        whole_data_relocs = omega arith;
        addresses = highest;
      };
      numbers = record {
        machine = machine;
        text = omega (arith, highest);
        data_part = omega (arith, highest);
        bss = omega (arith, highest);
        symbols = omega (arith, limit, sum);
        entry = omega (arith, highest);
        text_relocs = omega (arith, limit, sum);
        data_relocs = omega (arith, limit, sum);
      };
      text_relocs = text_relocs;
      data_relocs = data_relocs;
      entries = recursion_from_All EntryFits o.entries entries;
      accepted = accepted-made (is_big parts.order) (names_of named) 0 named (All-map HasNoZero (λ n. n.name) named whole) (names_there named) (AllHold-first_fault (kinds_checks 0 named) kinds);
      table = inr (HasOwnLength-table_of (is_big parts.order) (first_uses (names_of named)) (omega (arith, limit, sum, table)));
    }

-- ---- the size of the file

-- the length of the file of the object that is made, by the lengths that are counted
pub size-made : (parts : Parts) (named : List Named) (count table : ℕ) → count ≡ length named → table ≡ length (made parts named).strings
    → length (file_of (made parts named)) ≡ size_with parts count table
size-made parts named count table is_count is_table =
    let sum = length-file_of (made parts named) in
    let entries : length (made parts named).entries ≡ length named = length-map named (entry_for (first_uses (names_of named))) in
    omega (arith, sum, entries, is_count, is_table)

-- the fault of the size that is counted is that of the file
pub size-fault : (parts : Parts) (named : List Named) (count table : ℕ) (found : Option Fault) → count ≡ length named → table ≡ length (made parts named).strings
    → first_fault (size_check (size_with parts count table) ∷ []) ≡ found → first_fault (size_check (length (file_of (made parts named))) ∷ []) ≡ found
size-fault parts named count table found is_count is_table is =
    ap (λ (size : ℕ). first_fault (size_check size ∷ [])) (size-made parts named count table is_count is_table) ∙ is

-- where the string table alone is too large, the file is
pub table-refused : (parts : Parts) (named : List Named) (why : Refused) (value : Contents) → RefusesSize (size_of (first_uses (names_of named))) why
    → Answers (Err why) (first_fault (size_check (length (file_of (made parts named))) ∷ [])) value
table-refused parts named refused.Memory value refuses = tt
table-refused parts named (refused.At why) value refuses =
    let sum = length-file_of (made parts named) in
    let table : length (made parts named).strings ≡ size_of (first_uses (names_of named)) = length-table_of (is_big parts.order) (first_uses (names_of named)) in
    let over : nat_le (length (file_of (made parts named))) FILE_LIMIT ≡ false = lt-leb (length (file_of (made parts named))) FILE_LIMIT (omega (arith, sum, table, refuses.0)) in
    ap (λ (test : Bool). if test then None else Some (fault_at TOO_LARGE FILE_LIMIT)) over ∙ ap (λ (f : Fault). Some f) (sym refuses.1)

-- parts, entries and a table that are those of the object that is made make it
pub made-is : (parts : Parts) (named : List Named) (entries : List Entry) (strings : List ℕ) → entries ≡ (made parts named).entries → strings ≡ (made parts named).strings
    → record { parts = parts; entries = entries; strings = strings } ≡ made parts named
made-is parts named entries strings is_entries is_strings =
    ap (λ (x : List Entry). record { parts = parts; entries = x; strings = strings }) is_entries
    ∙ ap (λ (x : List ℕ). record { parts = parts; entries = (made parts named).entries; strings = x }) is_strings

-- an answer that is the object made has the named entries that were handed in
pub named-answered : (parts : Parts) (named : List Named) (answer : Result Contents Refused) (fault : Option Fault) → All HasWholeName named
    → Answers answer fault (made parts named) → IfOk answer (λ o. named_of o ≡ named)
named-answered parts named (Ok o) fault whole told = ap named_of told.1 ∙ named_of-made parts named whole
named-answered parts named (Err why) fault whole told = tt

-- ---- the checks in their order

module _ (parts : Parts) (named : List Named) where
  -- those after the kinds
  abbrev size_checks : List Check
  size_checks = size_check (length (file_of (made parts named))) ∷ []

  -- the fault is that of the kinds, else of the addresses, else of the size
  make_checks-fault : first_fault (make_checks parts named) ≡ fault_or (first_fault (kinds_checks 0 named)) (fault_or (first_fault (addresses_check parts ∷ [])) (first_fault size_checks))
  make_checks-fault =
      first_fault-append (kinds_checks 0 named) (addresses_check parts ∷ size_checks)
      ∙ ap (fault_or (first_fault (kinds_checks 0 named))) (first_fault-append (addresses_check parts ∷ []) size_checks)

  -- a kind that is not accepted is reported first
  pub make-kinds : (fault : Fault) → first_fault (kinds_checks 0 named) ≡ Some fault → first_fault (make_checks parts named) ≡ Some fault
  make-kinds fault found =
      make_checks-fault ∙ ap (λ (f : Option Fault). fault_or f (fault_or (first_fault (addresses_check parts ∷ [])) (first_fault size_checks))) found

  -- then addresses that do not fit
  pub make-addresses : (fault : Fault) → first_fault (kinds_checks 0 named) ≡ None → first_fault (addresses_check parts ∷ []) ≡ Some fault
      → first_fault (make_checks parts named) ≡ Some fault
  make-addresses fault kinds found =
      make_checks-fault ∙ ap (λ (f : Option Fault). fault_or f (fault_or (first_fault (addresses_check parts ∷ [])) (first_fault size_checks))) kinds
      ∙ ap (λ (f : Option Fault). fault_or f (first_fault size_checks)) found

  -- and then the size
  pub make-size : first_fault (kinds_checks 0 named) ≡ None → first_fault (addresses_check parts ∷ []) ≡ None
      → first_fault (make_checks parts named) ≡ first_fault size_checks
  make-size kinds addresses =
      make_checks-fault ∙ ap (λ (f : Option Fault). fault_or f (fault_or (first_fault (addresses_check parts ∷ [])) (first_fault size_checks))) kinds
      ∙ ap (λ (f : Option Fault). fault_or f (first_fault size_checks)) addresses
