-- What is placed of a list of objects: entries with their new kinds and values, and segments with their relocations applied. After
-- a.out(5), `struct relocation_info`; that a relocation adds how far what it names moves is this project's own.
use Rattle.std.specs.Prelude.{◌≡◌, ℕ, ◌+◌, ◌-◌, ◌%◌, ◌^◌, ◌==◌, Bool, if◌then◌else◌, List, [], ◌∷◌, ◌++◌, length, map, fold, slice_get, replicate, Some, unwrap_or}
use Rattle.std.specs.Option.{option_map, option_map_or}
use Rattle.st_base.specs.ByteOrder.{is_big}
use Rattle.nlist_codec.specs.declared.named.Named.{Named}
use Rattle.reloc.specs.declared.reloc.Reloc.{Reloc}
use Rattle.reloc.specs.Sums.{applied}
use Rattle.stab_codes.specs.Segments.{segment_of_bits}
use Rattle.nlist_codec.specs.declared.kinds.TheConstants.{UNDEFINED_EXTERNAL}
use Rattle.aout_link.specs.Sources.{Source}
use Rattle.aout_link.specs.declared.moves.Moves.{Moves}
use Rattle.aout_link.specs.declared.definitions.Known.{Known}
use Rattle.aout_link.specs.declared.placed.Placed.{Placed}
use Rattle.st_base.specs.Multiples.{aligned}
use Rattle.aout_link.specs.Moves.{totals_of, all_moves}
use Rattle.aout_link.specs.NameTables.{move_with, moved_value, known_by, common_sizes, commons_total, names_table}

-- ---- entries

-- the kind and value of an entry in the image: an undefined one takes those that its name stands for, all others move
abbrev pub stands_for : List (List ℕ × Known) → Moves → Named → Known
stands_for table m n =
    if n.kind == UNDEFINED_EXTERNAL then unwrap_or (known_by n.name table) (record { kind = n.kind; value = n.value })
    else record { kind = n.kind; value = moved_value m n }

-- an entry with a kind and value
abbrev pub with_known : Known → Named → Named
with_known k n = record { kind = k.kind; other = n.other; desc = n.desc; value = k.value; name = n.name }

-- an entry as it is placed
abbrev pub placed_entry : List (List ℕ × Known) → Moves → Named → Named
placed_entry table m n = with_known (stands_for table m n) n

-- all entries as they are placed
abbrev pub placed_all : List (List ℕ × Known) → List Moves → List Source → List Named
placed_all table (m ∷ ms) (o ∷ os) = map (placed_entry table m) o.named ++ placed_all table ms os
placed_all table ms os = []

-- ---- relocations

-- the value of an entry of the image; 0 where there is none
abbrev pub value_at : List Named → ℕ → ℕ
value_at placed k = option_map_or (λ n. n.value) (slice_get placed k) 0

-- what the relocations of one segment of an object depend on: how far the object's segments move, how far this one does, and the
-- object's entries, as they were and as they stand in the image
pub record Frame : Type 0 where
  pub moves : Moves
  pub own : ℕ
  pub named : List Named
  pub placed : List Named

-- what a relocation adds to its field where it is not relative to its place: how far the segment that it names moves, or the whole value
-- in the image of the entry that it names
abbrev pub target_of : Frame → Reloc → ℕ
target_of f r = if r.external then value_at f.placed r.symbol else move_with f.moves (segment_of_bits r.symbol)

-- what a relocation adds to its field
abbrev pub amount : Frame → Reloc → ℕ
amount f r = (target_of f r + (2 ^ 32 - (if r.pcrel then f.own else 0))) % 2 ^ 32

-- a segment with its relocations applied in order
abbrev pub relocated : Bool → Frame → List ℕ → List Reloc → List ℕ
relocated big f segment rs = fold (λ bytes r. applied big bytes r (amount f r)) segment rs

-- ---- segments

-- the zero bytes behind so many, to a multiple of 4
abbrev pub zeros_for : ℕ → List ℕ
zeros_for size = replicate (aligned size - size) 0

-- what the relocations of an object's text depend on
abbrev pub text_frame : Moves → List Named → Source → Frame
text_frame m placed o = record { moves = m; own = m.text; named = o.named; placed = placed }

-- and those of its data
abbrev pub data_frame : Moves → List Named → Source → Frame
data_frame m placed o = record { moves = m; own = m.datum; named = o.named; placed = placed }

-- the text of an object, relocated
abbrev pub text_of : Moves → List Named → Source → List ℕ
text_of m placed o = relocated (is_big o.parts.order) (text_frame m placed o) o.parts.text o.parts.text_relocs

-- its data, relocated
abbrev pub data_of : Moves → List Named → Source → List ℕ
data_of m placed o = relocated (is_big o.parts.order) (data_frame m placed o) o.parts.data_part o.parts.data_relocs

-- its text in the image, padded
abbrev pub text_part : Moves → List Named → Source → List ℕ
text_part m placed o = text_of m placed o ++ zeros_for (length o.parts.text)

-- its data in the image, padded
abbrev pub data_part : Moves → List Named → Source → List ℕ
data_part m placed o = data_of m placed o ++ zeros_for (length o.parts.data_part)

-- the text of all objects in the image
abbrev pub texts : List (List ℕ × Known) → List Moves → List Source → List ℕ
texts table (m ∷ ms) (o ∷ os) = text_part m (map (placed_entry table m) o.named) o ++ texts table ms os
texts table ms os = []

-- their data
abbrev pub datas : List (List ℕ × Known) → List Moves → List Source → List ℕ
datas table (m ∷ ms) (o ∷ os) = data_part m (map (placed_entry table m) o.named) o ++ datas table ms os
datas table ms os = []

-- the size of bss in the image, commons included
abbrev pub bss_of : List Source → ℕ
bss_of os = (totals_of os).bss + commons_total (common_sizes os)

-- ---- the whole

-- what is placed of a list of objects from a base address on
pub record IsPlaced (base : ℕ) (os : List Source) (p : Placed) : Type 0 where
  pub order : option_map (λ o. o.parts.order) (slice_get os 0) ≡ Some p.order
  pub machine : option_map (λ o. o.parts.machine) (slice_get os 0) ≡ Some p.machine
  pub entry : p.entry ≡ base
  pub text : p.text ≡ texts (names_table base os) (all_moves base os) os
  pub data_part : p.data_part ≡ datas (names_table base os) (all_moves base os) os
  pub bss : p.bss ≡ bss_of os
  pub named : p.named ≡ placed_all (names_table base os) (all_moves base os) os
