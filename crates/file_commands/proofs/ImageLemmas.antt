-- What files hold are bytes, and numbers that fit their fields; placing and merging keep them so. So the image of objects that files
-- spell is an object that a file spells, and its file is bytes and within the limit of a file.
use Rattle.std.proofs.Common.{◌≡◌, ℕ, zero, suc, ◌+◌, ◌*◌, ◌<◌, ◌≤◌, ◌^◌, ◌%◌, Bool, true, false, cond, List, [], ◌∷◌, ◌++◌, length, map, take, drop, get_or, Option, Some, None, inl, inr, refl, sym, ap, subst, arith, length-append}
use Rattle.std.specs.Prelude.{filter, fold, replicate, position, option_map, unwrap_or, bytes_eq, nat_le, nat_lt, slice_get, slice_index, if◌then◌else◌, ◌&&◌, ◌==◌}
use Rattle.std.specs.List.{AllByRecursion, list_any, position_or_len}
use Rattle.std.proofs.lemmas.Bool.{le-leb, leb-true}
use Rattle.std.proofs.lemmas.List.Elements.{All-from_recursion}
use Rattle.std.proofs.lemmas.Option.{slice_get_within}
use Rattle.st_base.specs.ByteOrder.{is_big}
use Rattle.st_base.specs.Number.{IsBytes, bytes_of}
use Rattle.st_base.specs.Faults.{fault_at, first_fault}
use Rattle.st_base.specs.declared.fault.TheConstants.{TOO_LARGE}
use Rattle.st_base.specs.declared.sizes.TheConstants.{FILE_LIMIT, GREATEST_ADDRESS}
use Rattle.st_base.proofs.BytesLemmas.{IsBytes-take, IsBytes-drop, IsBytes-append, IsBytes-bytes_of}
use Rattle.aout_layout.specs.Headers.{header_bytes}
use Rattle.aout_layout.specs.declared.header.Header.{Header}
use Rattle.aout_layout.specs.declared.header.TheConstants.{OMAGIC}
use Rattle.nlist_codec.specs.declared.entry.Entry.{Entry}
use Rattle.nlist_codec.specs.declared.named.Named.{Named}
use Rattle.nlist_codec.specs.Entries.{EntryFits, entry_bytes}
use Rattle.reloc.specs.declared.reloc.Reloc.{Reloc}
use Rattle.reloc.specs.Sums.{applied, bytes_in, bits_in, low_bits, field_sum}
use Rattle.strtab.specs.Names.{spelled, size_of, offset_of, added, first_uses, table_of}
use Rattle.strtab.specs.StringTable.{is_zero, name_in}
use Rattle.strtab.proofs.WordLemmas.{length-table_of}
use Rattle.aout_object.specs.declared.parts.Parts.{Parts}
use Rattle.aout_object.specs.Objects.{header_for, entries_bytes, file_of, relocs_bytes, ObjectSpells, name_of, all_named, named_of}
use Rattle.aout_object.specs.Objects.{Contents as Object}
use Rattle.aout_object.specs.Making.{HasWholeName, names_of, entries_for, size_check}
use Rattle.aout_object.proofs.MakeLemmas.{made-fits, length-file_of}
use Rattle.stab_codes.specs.declared.code.TheConstants.{N_BINCL, N_EXCL}
use Rattle.stab_units.specs.Changing.{Change, mark_changed}
use Rattle.bincl_match.specs.declared.range.Grouping.{Grouping}
use Rattle.bincl_match.specs.declared.range.RangeOf.{RangeOf}
use Rattle.bincl_match.specs.Instances.{IsInstance}
use Rattle.bincl_match.specs.Matching.{AreClasses, InOneClass}
use Rattle.header_merge.specs.Merged.{change_of}
use Rattle.header_merge.proofs.FrontLemmas.{all_append}
use Rattle.aout_link.specs.Sources.{Source, IsLawful}
use Rattle.aout_link.specs.Linking.{IsGroupingOf, IsLinked, image_placed}
use Rattle.aout_link.specs.Moves.{all_moves, fronts}
use Rattle.nlist_codec.specs.Kinds.{defines_name}
use Rattle.aout_link.specs.NameTables.{known_of, known_by, definitions, moved_entry, moved_all, moved_value, common_at, placed_commons, common_sizes, bss_end, names_table}
use Rattle.aout_link.specs.Placing.{Frame, placed_entry, placed_all, with_known, amount, relocated, zeros_for, text_of, data_of, text_frame, data_frame, text_part, data_part, texts, datas, IsPlaced}
use Rattle.aout_link.specs.ImageMaking.{CanBeMade, parts_of, image_of, size_fault}
use Rattle.aout_link.specs.declared.definitions.Known.{Known}
use Rattle.aout_link.specs.declared.moves.Moves.{Moves}
use Rattle.aout_link.specs.declared.placed.Placed.{Placed}
use Rattle.aout_link.specs.declared.linking.Image.{Image}
use Rattle.bincl_match.specs.declared.mode.Mode.{Mode}
use Rattle.bincl_match.specs.declared.mode.Mode.TheVariants.{Keep, Merge}
use Rattle.aout_link.proofs.MergedLemmas.{all_changed, can_merged}
use Rattle.aout_link.proofs.MakingLemmas.{can_be_made, no_kind_fault}
use Rattle.file_commands.specs.InputObjects.{Each, Spells, IsSource}

-- ---- bytes

front_bytes : (xs ys : List ℕ) → IsBytes (xs ++ ys) → IsBytes xs
front_bytes [] ys are = tt
front_bytes (b ∷ xs) ys are = (are.0, front_bytes xs ys are.1)

back_bytes : (xs ys : List ℕ) → IsBytes (xs ++ ys) → IsBytes ys
back_bytes [] ys are = are
back_bytes (b ∷ xs) ys are = back_bytes xs ys are.1

zero_bytes : (n : ℕ) → IsBytes (replicate n 0)
zero_bytes zero = tt
zero_bytes (suc n) = (omega arith, zero_bytes n)

-- ---- what a source holds

-- the numbers of an entry fit their fields, and its name is bytes
record HasFields (n : Named) : Type 0 where
  kind : n.kind < 2 ^ 8
  other : n.other < 2 ^ 8
  desc : n.desc < 2 ^ 16
  value : n.value < 2 ^ 32
  name : IsBytes n.name

-- so do those of a source, and its segments are bytes
pub record HoldsFields (o : Source) : Type 0 where
  machine : o.parts.machine < 2 ^ 16
  text : IsBytes o.parts.text
  data_part : IsBytes o.parts.data_part
  named : AllByRecursion HasFields o.named

-- the bytes of a name are those of the string table
named_by : (none within : Bool) (bytes : List ℕ) (end : Option ℕ) → IsBytes bytes
    → IsBytes (name_of (if none then Some [] else (if within then option_map (λ at. take at bytes) end else None)))
named_by true within bytes end are = tt
named_by false false bytes end are = tt
named_by false true bytes None are = tt
named_by false true bytes (Some at) are = IsBytes-take at bytes are

name_bytes : (strings : List ℕ) (strx : ℕ) → IsBytes strings → IsBytes (name_of (name_in strings strx))
name_bytes strings strx are =
    named_by (strx == 0) (nat_le 4 strx && nat_lt strx (length strings)) (drop strx strings) (position is_zero (drop strx strings)) (IsBytes-drop strx strings are)

-- the entries of an object have fields
named_fields : (strings : List ℕ) (entries : List Entry) → IsBytes strings → AllByRecursion EntryFits entries → AllByRecursion HasFields (all_named strings entries)
named_fields strings [] are fit = tt
named_fields strings (e ∷ entries) are fit = (
  record { kind = fit.0.kind; other = fit.0.other; desc = fit.0.desc; value = fit.0.value; name = name_bytes strings e.strx are },
  named_fields strings entries are fit.1,
)

-- what the file of an object holds
object_fields : (object : Object) (bytes : List ℕ) → IsBytes bytes → ObjectSpells object bytes → HoldsFields (record { object = object; parts = object.parts; named = named_of object })
object_fields object bytes are spells =
    let big = is_big object.parts.order in
    let strings_behind = entries_bytes big object.entries ++ object.strings in
    let data_relocs_behind = relocs_bytes big object.parts.data_relocs ++ strings_behind in
    let relocs_behind = relocs_bytes big object.parts.text_relocs ++ data_relocs_behind in
    let data_behind = object.parts.data_part ++ relocs_behind in
    let text_behind = object.parts.text ++ data_behind in
    let whole : IsBytes (file_of object) = subst IsBytes spells.sequence are in
    let text : IsBytes text_behind = back_bytes (header_bytes (header_for object)) text_behind whole in
    let datum : IsBytes data_behind = back_bytes object.parts.text data_behind text in
    let relocs : IsBytes relocs_behind = back_bytes object.parts.data_part relocs_behind datum in
    let others : IsBytes data_relocs_behind = back_bytes (relocs_bytes big object.parts.text_relocs) data_relocs_behind relocs in
    let entries : IsBytes strings_behind = back_bytes (relocs_bytes big object.parts.data_relocs) strings_behind others in
    record {
      machine = spells.fits.numbers.machine;
      text = front_bytes object.parts.text data_behind text;
      data_part = front_bytes object.parts.data_part relocs_behind datum;
      named = named_fields object.strings object.entries (back_bytes (entries_bytes big object.entries) object.strings entries) spells.fits.entries;
    }

-- so does its source
source_fields : (text : List ℕ) (object : Object) (s : Source) → Spells text object → IsSource object s → HoldsFields s
source_fields text object s spells is =
    let fields = object_fields object text spells.0 spells.1 in
    record {
      machine = subst (λ (p : Parts). p.machine < 2 ^ 16) (sym is.parts) fields.machine;
      text = subst (λ (p : Parts). IsBytes p.text) (sym is.parts) fields.text;
      data_part = subst (λ (p : Parts). IsBytes p.data_part) (sym is.parts) fields.data_part;
      named = subst (AllByRecursion HasFields) (sym is.named) fields.named;
    }

-- and all sources
pub sources_fields : (contents : List (List ℕ)) (objects : List Object) (sources : List Source) → Each Spells contents objects → Each IsSource objects sources → AllByRecursion HoldsFields sources
sources_fields [] [] [] p q = tt
sources_fields [] [] (s ∷ sources) p q = absurd q
sources_fields [] (object ∷ objects) sources p q = absurd p
sources_fields (text ∷ contents) [] sources p q = absurd p
sources_fields (text ∷ contents) (object ∷ objects) [] p q = absurd q
sources_fields (text ∷ contents) (object ∷ objects) (s ∷ sources) p q = (source_fields text object s p.0 q.0, sources_fields contents objects sources p.1 q.1)

-- ---- what names stand for

-- a kind and a value that fit their fields
record KnownFits (k : Known) : Type 0 where
  kind : k.kind < 2 ^ 8
  value : k.value < 2 ^ 32

abbrev EntryKnown : List ℕ × Known → Type 0
EntryKnown e = KnownFits e.1

-- a remainder is below what is divided by
word : (n : ℕ) → n % 2 ^ 32 < 2 ^ 32
word n = omega arith

moved_fields : (m : Moves) (ns : List Named) → AllByRecursion HasFields ns → AllByRecursion HasFields (map (moved_entry m) ns)
moved_fields m [] h = tt
moved_fields m (n ∷ ns) h = (record { kind = h.0.kind; other = h.0.other; desc = h.0.desc; value = word _; name = h.0.name }, moved_fields m ns h.1)

all_moved_fields : (ms : List Moves) (os : List Source) → AllByRecursion HoldsFields os → AllByRecursion HasFields (moved_all ms os)
all_moved_fields [] os h = tt
all_moved_fields (m ∷ ms) [] h = tt
all_moved_fields (m ∷ ms) (o ∷ os) h = all_append HasFields (map (moved_entry m) o.named) (moved_all ms os) (moved_fields m o.named h.0.named) (all_moved_fields ms os h.1)

definitions_fit : (ns : List Named) → AllByRecursion HasFields ns → AllByRecursion EntryKnown (definitions ns)
definitions_fit [] h = tt
definitions_fit (n ∷ ns) h = by (defines_name n.kind) (definitions_fit ns h.1)
  where
    by : (b : Bool) → AllByRecursion EntryKnown (definitions ns) → AllByRecursion EntryKnown (map known_of (cond b (n ∷ filter (λ x. defines_name x.kind) ns) (filter (λ x. defines_name x.kind) ns)))
    by true rest = (record { kind = h.0.kind; value = h.0.value }, rest)
    by false rest = rest

commons_fit : (start : ℕ) (before ss : List (List ℕ × ℕ)) → AllByRecursion EntryKnown (map (λ p. (p.1.0, common_at start p.0)) (fronts before ss))
commons_fit start before [] = tt
commons_fit start before (e ∷ ss) = (record { kind = omega arith; value = word _ }, commons_fit start (before ++ e ∷ []) ss)

table_fits : (base : ℕ) (os : List Source) → AllByRecursion HoldsFields os → AllByRecursion EntryKnown (names_table base os)
table_fits base os h =
    all_append EntryKnown (definitions (moved_all (all_moves base os) os)) (placed_commons (bss_end base os) (common_sizes os))
    (definitions_fit (moved_all (all_moves base os) os) (all_moved_fields (all_moves base os) os h)) (commons_fit (bss_end base os) [] (common_sizes os))

found_fits : (table : List (List ℕ × Known)) (q : List ℕ) (other : Known) → AllByRecursion EntryKnown table → KnownFits other → KnownFits (unwrap_or (known_by q table) other)
found_fits [] q other a o = o
found_fits (e ∷ es) q other a o = by (bytes_eq q e.0) (found_fits es q other a.1 o)
  where
    by : (b : Bool) → KnownFits (unwrap_or (known_by q es) other) → KnownFits (unwrap_or (cond b (Some e.1) (known_by q es)) other)
    by true rest = a.0
    by false rest = rest

-- ---- what is placed

known_fields : (k : Known) (n : Named) → KnownFits k → HasFields n → HasFields (with_known k n)
known_fields k n fits h = record { kind = fits.kind; other = h.other; desc = h.desc; value = fits.value; name = h.name }

entry_fields : (table : List (List ℕ × Known)) (m : Moves) (n : Named) → AllByRecursion EntryKnown table → HasFields n → HasFields (placed_entry table m n)
entry_fields table m n a h = by (n.kind == 1)
  where
    by : (b : Bool) → HasFields (with_known (cond b (unwrap_or (known_by n.name table) (record { kind = n.kind; value = n.value })) (record { kind = n.kind; value = moved_value m n })) n)
    by true =
        let own : Known = record { kind = n.kind; value = n.value } in
        known_fields (unwrap_or (known_by n.name table) own) n (found_fits table n.name own a (record { kind = h.kind; value = h.value })) h
    by false = record { kind = h.kind; other = h.other; desc = h.desc; value = word _; name = h.name }

own_fields : (table : List (List ℕ × Known)) (m : Moves) (ns : List Named) → AllByRecursion EntryKnown table → AllByRecursion HasFields ns → AllByRecursion HasFields (map (placed_entry table m) ns)
own_fields table m [] a h = tt
own_fields table m (n ∷ ns) a h = (entry_fields table m n a h.0, own_fields table m ns a h.1)

placed_fields : (table : List (List ℕ × Known)) (ms : List Moves) (os : List Source) → AllByRecursion EntryKnown table → AllByRecursion HoldsFields os → AllByRecursion HasFields (placed_all table ms os)
placed_fields table [] os a h = tt
placed_fields table (m ∷ ms) [] a h = tt
placed_fields table (m ∷ ms) (o ∷ os) a h =
    all_append HasFields (map (placed_entry table m) o.named) (placed_all table ms os) (own_fields table m o.named a h.0.named) (placed_fields table ms os a h.1)

-- a relocated segment is bytes
relocated_bytes : (big : Bool) (f : Frame) (segment : List ℕ) (rs : List Reloc) → IsBytes segment → IsBytes (relocated big f segment rs)
relocated_bytes big f segment [] are = are
relocated_bytes big f segment (r ∷ rs) are =
    let size : ℕ = bytes_in r.length in
    let field : ℕ = low_bits (bits_in r.length) (field_sum big segment r (amount f r)) in
    relocated_bytes big f (applied big segment r (amount f r)) rs
    (IsBytes-append (take r.address segment) (bytes_of big size field ++ drop (r.address + size) segment) (IsBytes-take r.address segment are)
    (IsBytes-append (bytes_of big size field) (drop (r.address + size) segment) (IsBytes-bytes_of big size field) (IsBytes-drop (r.address + size) segment are)))

padded_bytes : (segment : List ℕ) (size : ℕ) → IsBytes segment → IsBytes (segment ++ zeros_for size)
padded_bytes segment size are = IsBytes-append segment (zeros_for size) are (zero_bytes _)

texts_bytes : (table : List (List ℕ × Known)) (ms : List Moves) (os : List Source) → AllByRecursion HoldsFields os → IsBytes (texts table ms os)
texts_bytes table [] os h = tt
texts_bytes table (m ∷ ms) [] h = tt
texts_bytes table (m ∷ ms) (o ∷ os) h =
    let ns : List Named = map (placed_entry table m) o.named in
    IsBytes-append (text_part m ns o) (texts table ms os)
    (padded_bytes (text_of m ns o) (length o.parts.text) (relocated_bytes (is_big o.parts.order) (text_frame m ns o) o.parts.text o.parts.text_relocs h.0.text))
    (texts_bytes table ms os h.1)

datas_bytes : (table : List (List ℕ × Known)) (ms : List Moves) (os : List Source) → AllByRecursion HoldsFields os → IsBytes (datas table ms os)
datas_bytes table [] os h = tt
datas_bytes table (m ∷ ms) [] h = tt
datas_bytes table (m ∷ ms) (o ∷ os) h =
    let ns : List Named = map (placed_entry table m) o.named in
    IsBytes-append (data_part m ns o) (datas table ms os)
    (padded_bytes (data_of m ns o) (length o.parts.data_part) (relocated_bytes (is_big o.parts.order) (data_frame m ns o) o.parts.data_part o.parts.data_relocs h.0.data_part))
    (datas_bytes table ms os h.1)

-- what is placed has fields, and its segments are bytes
record PlacedFields (p : Placed) : Type 0 where
  machine : p.machine < 2 ^ 16
  text : IsBytes p.text
  data_part : IsBytes p.data_part
  named : AllByRecursion HasFields p.named

machine_fits : (os : List Source) (machine : ℕ) → option_map (λ o. o.parts.machine) (slice_get os 0) ≡ Some machine → AllByRecursion HoldsFields os → machine < 2 ^ 16
machine_fits [] machine e h = absurd (let k : None ≡ Some machine = e in cc)
machine_fits (o ∷ os) machine e h = let same : o.parts.machine ≡ machine = cc in subst (λ (m : ℕ). m < 2 ^ 16) same h.0.machine

placed_holds : (base : ℕ) (os : List Source) (p : Placed) → AllByRecursion HoldsFields os → IsPlaced base os p → PlacedFields p
placed_holds base os p h placed = record {
  machine = machine_fits os p.machine placed.machine h;
  text = subst IsBytes (sym placed.text) (texts_bytes (names_table base os) (all_moves base os) os h);
  data_part = subst IsBytes (sym placed.data_part) (datas_bytes (names_table base os) (all_moves base os) os h);
  named = subst (AllByRecursion HasFields) (sym placed.named) (placed_fields (names_table base os) (all_moves base os) os (table_fits base os h) h);
}

-- ---- headers that are merged

-- numbers of four bytes
abbrev AreWords : List ℕ → Type 0
AreWords vs = AllByRecursion (λ v. v < 2 ^ 32) vs

words_of : (vs : List ℕ) → ((k : ℕ) → k < length vs → get_or vs k 0 < 2 ^ 32) → AreWords vs
words_of [] below = tt
words_of (v ∷ vs) below = (below 0 (omega arith), words_of vs (λ k lt. below (suc k) (omega arith)))

word_at : (vs : List ℕ) → AreWords vs → (k : ℕ) → get_or vs k 0 < 2 ^ 32
word_at [] w k = omega arith
word_at (v ∷ vs) w zero = w.0
word_at (v ∷ vs) w (suc k) = word_at vs w.1 k

-- an instance is a word
own_word : (ranges : List RangeOf) (kept instance : List ℕ) (i : ℕ) → IsInstance ranges kept instance i → get_or instance i 0 < 2 ^ 32
own_word ranges kept instance i own = subst (λ (n : ℕ). n < 2 ^ 32) (sym own.2.1) (word (own.0.sum + own.2.0))

-- the first range of a class is kept for itself, and so the instance of each range of the class is a word
class_word : (ranges : List RangeOf) (g : Grouping) → AreClasses ranges g → (i : ℕ) → i < length ranges → get_or g.instance i 0 < 2 ^ 32
class_word ranges g classes i within = by (classes.first i within).0
  where
    by : InOneClass ranges i (slice_index g.kept i) → get_or g.instance i 0 < 2 ^ 32
    by (inl same) = own_word ranges g.kept g.instance i (classes.own i within (sym same))
    by (inr p) =
        let first : ℕ = slice_index g.kept i in
        let fixed : first ≡ slice_index g.kept first = classes.greatest p.0 p.1 i first p.2 in
        let pair = p.1 i first p.2 in
        let inside : first < length ranges = slice_get_within ranges first pair.second pair.second_is in
        subst (λ (n : ℕ). n < 2 ^ 32) (sym (classes.shared i within)) (own_word ranges g.kept g.instance first (classes.own first inside (sym fixed)))

-- the instances of a grouping are words, in either mode
instances_fit : (mode : Mode) (ranges : List RangeOf) (g : Grouping) → IsGroupingOf mode ranges g → AreWords g.instance
instances_fit Keep ranges g alone = words_of g.instance (λ k lt. own_word ranges g.kept g.instance k (alone.own k (omega (arith, alone.count.1))))
instances_fit Merge ranges g classes = words_of g.instance (λ k lt. class_word ranges g classes k (omega (arith, classes.count.1)))

module _ (g : Grouping) (w : AreWords g.instance) where
  abbrev change : Change
  change = change_of g

  mark_fields : (place : ℕ) (e : Named) → HasFields e → HasFields (mark_changed change place e)
  mark_fields place e h = by ((e.kind == N_BINCL) && change.kept place)
    where
      by : (stays : Bool) → HasFields (record e { kind = cond stays N_BINCL N_EXCL; value = change.value place })
      by true = record { kind = omega arith; other = h.other; desc = h.desc; value = word_at g.instance w place; name = h.name }
      by false = record { kind = omega arith; other = h.other; desc = h.desc; value = word_at g.instance w place; name = h.name }

  -- what is placed has fields still, with the entries of the image
  merged_holds : (p : Placed) → PlacedFields p → PlacedFields (image_placed g p)
  merged_holds p h = record { machine = h.machine; text = h.text; data_part = h.data_part; named = all_changed HasFields change mark_fields [] p.named h.named }

-- ---- the file of an image

-- a front of names takes no more bytes than all of them
spelled_front : (n : ℕ) (names : List (List ℕ)) → length (spelled (take n names)) ≤ length (spelled names)
spelled_front zero names = omega arith
spelled_front (suc n) [] = omega arith
spelled_front (suc n) (name ∷ names) =
    let front = length-append name (0 ∷ spelled (take n names)) in
    let whole = length-append name (0 ∷ spelled names) in
    let rest = spelled_front n names in
    omega (arith, front, whole, rest)

-- an offset is within the table
offset_within : (names : List (List ℕ)) (name : List ℕ) → offset_of names name ≤ size_of names
offset_within names [] = omega arith
offset_within names (b ∷ bytes) = let front = spelled_front (position_or_len (bytes_eq (b ∷ bytes)) names) names in omega (arith, front)

entries_fit : (names : List (List ℕ)) (ns : List Named) → size_of names < 2 ^ 32 → AllByRecursion HasFields ns → AllByRecursion EntryFits (entries_for names ns)
entries_fit names [] small h = tt
entries_fit names (n ∷ ns) small h = (
  record { strx = (let within = offset_within names n.name in omega (arith, within, small)); kind = h.0.kind; other = h.0.other; desc = h.0.desc; value = h.0.value },
  entries_fit names ns small h.1,
)

names_bytes : (ns : List Named) → AllByRecursion HasFields ns → AllByRecursion IsBytes (names_of ns)
names_bytes [] h = tt
names_bytes (n ∷ ns) h = (h.0.name, names_bytes ns h.1)

added_bytes : (names : List (List ℕ)) (name : List ℕ) → AllByRecursion IsBytes names → IsBytes name → AllByRecursion IsBytes (added names name)
added_bytes names [] all one = all
added_bytes names (b ∷ bytes) all one = by (list_any (bytes_eq (b ∷ bytes)) names)
  where
    by : (there : Bool) → AllByRecursion IsBytes (cond there names (names ++ (b ∷ bytes) ∷ []))
    by true = all
    by false = all_append IsBytes names ((b ∷ bytes) ∷ []) all (one, tt)

uses_bytes : (names uses : List (List ℕ)) → AllByRecursion IsBytes names → AllByRecursion IsBytes uses → AllByRecursion IsBytes (fold added names uses)
uses_bytes names [] all some = all
uses_bytes names (name ∷ uses) all some = uses_bytes (added names name) uses (added_bytes names name all some.0) some.1

spelled_bytes : (names : List (List ℕ)) → AllByRecursion IsBytes names → IsBytes (spelled names)
spelled_bytes [] all = tt
spelled_bytes (name ∷ names) all = IsBytes-append name (0 ∷ spelled names) all.0 (omega arith, spelled_bytes names all.1)

table_bytes : (big : Bool) (names : List (List ℕ)) → AllByRecursion IsBytes names → IsBytes (table_of big names)
table_bytes big names all = IsBytes-append (bytes_of big 4 (size_of names)) (spelled names) (IsBytes-bytes_of big 4 (size_of names)) (spelled_bytes names all)

-- a number of so many bytes, and what stands behind it
behind_number : (big : Bool) (size value : ℕ) (rest : List ℕ) → IsBytes rest → IsBytes (bytes_of big size value ++ rest)
behind_number big size value rest are = IsBytes-append (bytes_of big size value) rest (IsBytes-bytes_of big size value) are

entry_is_bytes : (big : Bool) (e : Entry) → IsBytes (entry_bytes big e)
entry_is_bytes big e =
    let value = bytes_of big 4 e.value in
    let desc = bytes_of big 2 e.desc ++ value in
    let other = bytes_of big 1 e.other ++ desc in
    let kind = bytes_of big 1 e.kind ++ other in
    behind_number big 4 e.strx kind
    (behind_number big 1 e.kind other (behind_number big 1 e.other desc (behind_number big 2 e.desc value (IsBytes-bytes_of big 4 e.value))))

entries_are_bytes : (big : Bool) (es : List Entry) → IsBytes (entries_bytes big es)
entries_are_bytes big [] = tt
entries_are_bytes big (e ∷ es) = IsBytes-append (entry_bytes big e) (entries_bytes big es) (entry_is_bytes big e) (entries_are_bytes big es)

pub header_is_bytes : (h : Header) → IsBytes (header_bytes h)
header_is_bytes h =
    let big = is_big h.order in
    let data_relocs = bytes_of big 4 h.data_relocs in
    let text_relocs = bytes_of big 4 h.text_relocs ++ data_relocs in
    let entry = bytes_of big 4 h.entry ++ text_relocs in
    let symbols = bytes_of big 4 h.symbols ++ entry in
    let bss = bytes_of big 4 h.bss ++ symbols in
    let datum = bytes_of big 4 h.data_part ++ bss in
    let text = bytes_of big 4 h.text ++ datum in
    behind_number big 4 (h.machine * 65536 + OMAGIC) text
    (behind_number big 4 h.text datum (behind_number big 4 h.data_part bss (behind_number big 4 h.bss symbols
    (behind_number big 4 h.symbols entry (behind_number big 4 h.entry text_relocs (behind_number big 4 h.text_relocs data_relocs (IsBytes-bytes_of big 4 h.data_relocs)))))))

image_bytes : (p : Placed) → PlacedFields p → IsBytes (file_of (image_of p))
image_bytes p h =
    let o : Object = image_of p in
    let big = is_big p.order in
    let table : IsBytes o.strings = table_bytes big (first_uses (names_of p.named)) (uses_bytes [] (names_of p.named) tt (names_bytes p.named h.named)) in
    let strings = entries_bytes big o.entries ++ o.strings in
    let entries : IsBytes strings = IsBytes-append (entries_bytes big o.entries) o.strings (entries_are_bytes big o.entries) table in
    let datum : IsBytes (p.data_part ++ strings) = IsBytes-append p.data_part strings h.data_part entries in
    let text : IsBytes (p.text ++ (p.data_part ++ strings)) = IsBytes-append p.text (p.data_part ++ strings) h.text datum in
    IsBytes-append (header_bytes (header_for o)) (p.text ++ (p.data_part ++ strings)) (header_is_bytes (header_for o)) text

-- where the size has no fault, it is within the limit
size_within : (n : ℕ) → first_fault (size_check n ∷ []) ≡ None → n ≤ FILE_LIMIT
size_within n h = by (nat_le n FILE_LIMIT) refl h
  where
    by : (b : Bool) → nat_le n FILE_LIMIT ≡ b → cond b None (Some (fault_at TOO_LARGE FILE_LIMIT)) ≡ None → n ≤ FILE_LIMIT
    by true is g = leb-true n FILE_LIMIT is
    by false is g = absurd (let z : Some (fault_at TOO_LARGE FILE_LIMIT) ≡ None = g in cc)

-- an object that a file spells, whose file is bytes and within the limit
pub record IsFileObject (o : Object) : Type 0 where
  pub spells : ObjectSpells o (file_of o)
  pub bytes : IsBytes (file_of o)
  pub within : length (file_of o) ≤ FILE_LIMIT

-- so is the object of what is placed
image_is : (p : Placed) → CanBeMade p → PlacedFields p → size_fault p ≡ None → IsFileObject (image_of p)
image_is p can h fits =
    let o : Object = image_of p in
    let within = size_within (length (file_of o)) fits in
    let sum = length-file_of o in
    let table : length o.strings ≡ size_of (first_uses (names_of p.named)) = length-table_of (is_big p.order) (first_uses (names_of p.named)) in
    let small : size_of (first_uses (names_of p.named)) < 2 ^ 32 = omega (arith, within, sum, table) in
    let entries = All-from_recursion EntryFits o.entries (entries_fit (first_uses (names_of p.named)) p.named small h.named) in
    let addresses = ap (λ (b : Bool). cond b None (Some (fault_at TOO_LARGE GREATEST_ADDRESS))) (le-leb _ GREATEST_ADDRESS can.addresses) in
    record {
      spells = record {
        fits = made-fits (parts_of p) p.named (All-from_recursion HasWholeName p.named can.names) can.machine h.machine tt tt entries (no_kind_fault 0 p.named can.kinds) addresses fits;
        sequence = refl;
      };
      bytes = image_bytes p h;
      within = within;
    }

-- and so is the object of an image of lawful sources
pub linked_is : (mode : Mode) (base : ℕ) (os : List Source) (old new : ℕ) (image : Image) → AllByRecursion IsLawful os → AllByRecursion HoldsFields os → IsLinked mode base os old new image
    → IsFileObject image.object
linked_is mode base os old new image lawful h linked =
    let p : Placed = linked.placed in
    let g : Grouping = linked.grouping in
    let words = instances_fit mode linked.planned.ranges g linked.planned.grouped in
    let can = can_merged g p (can_be_made base os p lawful linked.planned.no_fault linked.planned.is_placed) in
    let holds = merged_holds g words p (placed_holds base os p h linked.planned.is_placed) in
    subst IsFileObject (sym linked.is.made) (image_is (image_placed g p) can holds linked.fits)
