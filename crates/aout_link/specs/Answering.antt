-- What the code keeps on its way, and in which words its private calls answer.
use Rattle.std.specs.Prelude.{◌≡◌, false, true, ℕ, ◌+◌, ◌%◌, ◌^◌, ◌≤◌, Bool, List, [], ◌∷◌, ◌++◌, length, map, take, drop, Option, None, Result, Ok, Err, bytes_eq, is_some}
use Rattle.std.specs.List.{list_any}
use Rattle.indexmap.specs.IndexMap.{IndexMap}
use denote.Ref.{Bor}
use Rattle.st_base.specs.declared.fault.Fault.{Fault}
use Rattle.st_base.specs.declared.fault.Refused.{Refused}
use Rattle.nlist_codec.specs.declared.named.Named.{Named}
use Rattle.reloc.specs.declared.reloc.Reloc.{Reloc}
use Rattle.aout_object.specs.Decoding.{fault_or}
use Rattle.aout_link.specs.Sources.{Source}
use Rattle.aout_link.specs.declared.moves.Moves.{Moves}
use Rattle.aout_link.specs.declared.moves.Starts.{Starts}
use Rattle.aout_link.specs.declared.moves.Totals.{Totals}
use Rattle.aout_link.specs.declared.definitions.Known.{Known}
use Rattle.aout_link.specs.declared.relocating.Segments.{Segments}
use Rattle.aout_link.specs.Moves.{text_size, data_size, bss_size}
use Rattle.aout_link.specs.NameTables.{entries_of, moved_entry, moved_all, defines, definitions, known_by, common_sizes, commons_total, names_table}
use Rattle.aout_link.specs.Placing.{Frame, placed_entry, placed_all, relocated, zeros_for, text_part, data_part}
use Rattle.aout_link.specs.Refusals.{twice_fault, twice_in, undefined_fault, undefined_in, relocs_fault, object_fault, Refuses}

-- ---- sizes and addresses

-- sizes of which a few fit any number
pub record AreSmall (t : Totals) : Type 0 where
  pub text : t.text ≤ 2 ^ 96
  pub datum : t.datum ≤ 2 ^ 96
  pub bss : t.bss ≤ 2 ^ 96

-- addresses modulo 2^32, moved on by the sizes of an object
abbrev pub wrapped_behind : Starts → Source → Starts
wrapped_behind at o = record {
  text = (at.text + text_size o % 2 ^ 32) % 2 ^ 32;
  datum = (at.datum + data_size o % 2 ^ 32) % 2 ^ 32;
  bss = (at.bss + bss_size o % 2 ^ 32) % 2 ^ 32;
}

-- ---- names

-- the entries of a map whose keys are borrowed, with the bytes that the keys show
abbrev pub listed : {X : Type 0} → List (Bor (List ℕ) × X) → List (List ℕ × X)
listed entries = map (λ e. (e.0.now, e.1)) entries

-- a table has the names that these entries define
abbrev pub Tells : List Named → List (List ℕ × Known) → Type 0
Tells before table = (q : List ℕ) → is_some (known_by q table) ≡ list_any (defines q) before

-- what a call answers that notes the definitions of the entries of object k
abbrev pub Defines : List Named → ℕ → Moves → List Named → Result (Unit {0}) Refused → List (List ℕ × Known) → List (List ℕ × Known) → Type 0
Defines before k m ns (Ok done) old new =
    (twice_fault before k 0 ns ≡ None) × (new ≡ old ++ definitions (map (moved_entry m) ns)) × Tells (before ++ ns) new
Defines before k m ns (Err why) old new = Refuses (twice_fault before k 0 ns) why

-- what a call answers that finds the definitions of all objects
abbrev pub FindsAll : {S : Type 0} → List Moves → List Source → Result (IndexMap (Bor (List ℕ)) Known S) Refused → Type 0
FindsAll ms os (Ok table) =
    (twice_in [] 0 os ≡ None) × (listed table.entries ≡ definitions (moved_all ms os)) × Tells (entries_of os) (listed table.entries)
FindsAll ms os (Err why) = Refuses (twice_in [] 0 os) why

-- a name stands among these once at most
abbrev pub AreDistinct : List (List ℕ) → Type 0
AreDistinct [] = Unit {0}
AreDistinct (u ∷ us) = (list_any (bytes_eq u) us ≡ false) × AreDistinct us

-- commons with distinct names, none of which stands in the table
pub record AreNew {X : Type 0} (table : List (List ℕ × X)) (sizes : List (List ℕ × ℕ)) : Type 0 where
  pub distinct : AreDistinct (map (λ e. e.0) sizes)
  pub absent : (q : List ℕ) → list_any (bytes_eq q) (map (λ e. e.0) sizes) ≡ true → is_some (known_by q table) ≡ false

-- what a call answers that finds what names stand for, and the padded sizes of the commons together
abbrev pub NamesFound : {S : Type 0} → ℕ → List Source → Result (IndexMap (Bor (List ℕ)) Known S × ℕ) Refused → Type 0
NamesFound base os (Ok found) =
    (twice_in [] 0 os ≡ None) × (listed found.0.entries ≡ names_table base os) × (found.1 ≡ commons_total (common_sizes os))
NamesFound base os (Err why) = Refuses (twice_in [] 0 os) why

-- ---- entries

-- what a call answers that places the entries of object k behind others
abbrev pub Places : List (List ℕ × Known) → ℕ → Moves → List Named → Result (Unit {0}) Refused → List Named → List Named → Type 0
Places table k m ns (Ok done) old new = (undefined_fault table k 0 ns ≡ None) × (new ≡ old ++ map (placed_entry table m) ns)
Places table k m ns (Err why) old new = Refuses (undefined_fault table k 0 ns) why

-- what a call answers that places all entries
abbrev pub PlacesAll : List (List ℕ × Known) → List Moves → List Source → Result (List Named) Refused → Type 0
PlacesAll table ms os (Ok out) = (undefined_in table 0 os ≡ None) × (out ≡ placed_all table ms os)
PlacesAll table ms os (Err why) = Refuses (undefined_in table 0 os) why

-- ---- segments

-- what a call answers that appends a relocated segment
abbrev pub Appends : Bool → ℕ → ℕ → Frame → List ℕ → List Reloc → Result (Unit {0}) Refused → List ℕ → List ℕ → Type 0
Appends big k i f segment rs (Ok done) old new =
    (relocs_fault big k i f segment rs ≡ None) × (new ≡ old ++ (relocated big f segment rs ++ zeros_for (length segment)))
Appends big k i f segment rs (Err why) old new = Refuses (relocs_fault big k i f segment rs) why

-- what a call answers that appends the segments of object k
abbrev pub AppendsObject : ℕ → Moves → List Named → Source → Result (Unit {0}) Refused → List ℕ → List ℕ → List ℕ → List ℕ → Type 0
AppendsObject k m placed o (Ok done) text new_text datum new_datum =
    (object_fault k m placed o ≡ None) × (new_text ≡ text ++ text_part m placed o) × (new_datum ≡ datum ++ data_part m placed o)
AppendsObject k m placed o (Err why) text new_text datum new_datum = Refuses (object_fault k m placed o) why

-- the text of all objects, the entries of each being the next of the placed ones
abbrev pub texts_from : List Named → List Moves → List Source → List ℕ
texts_from placed (m ∷ ms) (o ∷ os) = text_part m (take (length o.named) placed) o ++ texts_from (drop (length o.named) placed) ms os
texts_from placed ms os = []

-- their data
abbrev pub datas_from : List Named → List Moves → List Source → List ℕ
datas_from placed (m ∷ ms) (o ∷ os) = data_part m (take (length o.named) placed) o ++ datas_from (drop (length o.named) placed) ms os
datas_from placed ms os = []

-- the first fault of their relocations
abbrev pub relocs_from : List Named → ℕ → List Moves → List Source → Option Fault
relocs_from placed k (m ∷ ms) (o ∷ os) = fault_or (object_fault k m (take (length o.named) placed) o) (relocs_from (drop (length o.named) placed) (k + 1) ms os)
relocs_from placed k ms os = None

-- what a call answers that places all segments
abbrev pub PlacesSegments : List Named → List Moves → List Source → Result Segments Refused → Type 0
PlacesSegments placed ms os (Ok s) =
    (relocs_from placed 0 ms os ≡ None) × (s.text ≡ texts_from placed ms os) × (s.data_part ≡ datas_from placed ms os)
PlacesSegments placed ms os (Err why) = Refuses (relocs_from placed 0 ms os) why
