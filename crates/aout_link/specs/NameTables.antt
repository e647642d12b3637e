-- What each name stands for in the image: its definition, else the place of its common. After a.out(5): an entry of kind 1 with a
-- value is a common, and the value is its size. That the greatest size counts, and that commons stand behind bss in order of first
-- appearance, is this project's own.
use Rattle.std.specs.Prelude.{ℕ, ◌+◌, ◌%◌, ◌^◌, ◌==◌, ◌&&◌, ◌||◌, not, max, if◌then◌else◌, Bool, List, [], ◌∷◌, ◌++◌, map, flat_map, filter, fold, Option, bytes_eq}
use Rattle.std.specs.List.{list_any, sum_by}
use Rattle.std.specs.Map.{lookup}
use Rattle.stab_codes.specs.declared.segment.Segment.{Segment}
use Rattle.stab_codes.specs.declared.segment.Segment.TheVariants.{Still, Text, Datum, Bss}
use Rattle.stab_codes.specs.Segments.{segment_of}
use Rattle.nlist_codec.specs.declared.named.Named.{Named}
use Rattle.aout_link.specs.Sources.{Source}
use Rattle.aout_link.specs.declared.moves.Moves.{Moves}
use Rattle.aout_link.specs.declared.definitions.Known.{Known}
use Rattle.st_base.specs.Multiples.{aligned}
use Rattle.st_base.specs.FirstUses.{used, first_uses as first_uses_by}
use Rattle.nlist_codec.specs.Kinds.{defines_name}
use Rattle.nlist_codec.specs.declared.kinds.TheConstants.{UNDEFINED_EXTERNAL, BSS_EXTERNAL}
use Rattle.aout_link.specs.Moves.{fronts, totals_of, starts_of, all_moves}

-- ---- entries

-- the entries of all objects
abbrev pub entries_of : List Source → List Named
entries_of os = flat_map (λ o. o.named) os

-- an entry defines a name
abbrev pub defines : List ℕ → Named → Bool
defines name n = defines_name n.kind && bytes_eq name n.name

-- an entry asks for a common
abbrev pub is_common : Named → Bool
is_common n = n.kind == UNDEFINED_EXTERNAL && not (n.value == 0)

-- ---- moved entries

-- how far what moves with a segment moves
abbrev pub move_with : Moves → Segment → ℕ
move_with m Still = 0
move_with m Text = m.text
move_with m Datum = m.datum
move_with m Bss = m.bss

-- an entry's value, moved with its segment
abbrev pub moved_value : Moves → Named → ℕ
moved_value m n = (n.value + move_with m (segment_of n.kind)) % 2 ^ 32

-- an entry, moved with its segment
abbrev pub moved_entry : Moves → Named → Named
moved_entry m n = record { kind = n.kind; other = n.other; desc = n.desc; value = moved_value m n; name = n.name }

-- the entries of all objects, each moved as its object does
abbrev pub moved_all : List Moves → List Source → List Named
moved_all (m ∷ ms) (o ∷ os) = map (moved_entry m) o.named ++ moved_all ms os
moved_all ms os = []

-- ---- definitions

-- the kind and value that a definition gives its name
abbrev pub known_of : Named → List ℕ × Known
known_of n = (n.name, record { kind = n.kind; value = n.value })

-- the definitions among entries, in order
abbrev pub definitions : List Named → List (List ℕ × Known)
definitions ns = map known_of (filter (λ n. defines_name n.kind) ns)

-- what a name stands for
abbrev pub known_by : {X : Type 0} → List ℕ → List (List ℕ × X) → Option X
known_by name table = lookup (bytes_eq name) table

-- ---- commons

-- the entries that ask for a common whose name none of `all` defines
abbrev pub commons_among : List Named → List Named → List Named
commons_among all ns = filter (λ n. is_common n && not (list_any (defines n.name) all)) ns

-- names after one is used, and the distinct names of uses, in order of first use
abbrev pub added : List (List ℕ) → List ℕ → List (List ℕ)
added names name = used bytes_eq names name

abbrev pub first_uses : List (List ℕ) → List (List ℕ)
first_uses uses = first_uses_by bytes_eq uses

-- the names of entries
abbrev pub names_of : List Named → List (List ℕ)
names_of ns = map (λ n. n.name) ns

-- the greatest value that entries give for a name
abbrev pub greatest : List ℕ → List Named → ℕ
greatest name [] = 0
greatest name (n ∷ ns) = max (if bytes_eq name n.name then n.value else 0) (greatest name ns)

-- each distinct name of entries with the greatest value given for it
abbrev pub sizes_of : List Named → List (List ℕ × ℕ)
sizes_of ns = map (λ name. (name, greatest name ns)) (first_uses (names_of ns))

-- the commons of objects, with their sizes
abbrev pub common_sizes : List Source → List (List ℕ × ℕ)
common_sizes os = sizes_of (commons_among (entries_of os) (entries_of os))

-- the padded sizes of commons together
abbrev pub commons_total : List (List ℕ × ℕ) → ℕ
commons_total sizes = sum_by (λ e. aligned e.1) sizes

-- the place of a common behind others, as a definition in bss
abbrev pub common_at : ℕ → List (List ℕ × ℕ) → Known
common_at start before = record { kind = BSS_EXTERNAL; value = (start + commons_total before) % 2 ^ 32 }

-- commons one behind the other, from an address on
abbrev pub placed_commons : ℕ → List (List ℕ × ℕ) → List (List ℕ × Known)
placed_commons start sizes = map (λ p. (p.1.0, common_at start p.0)) (fronts [] sizes)

-- ---- all names

-- where bss of all objects ends, and commons begin
abbrev pub bss_end : ℕ → List Source → ℕ
bss_end base os = (starts_of base os).bss + (totals_of os).bss

-- what each name stands for: its definition, else the place of its common
abbrev pub names_table : ℕ → List Source → List (List ℕ × Known)
names_table base os = definitions (moved_all (all_moves base os) os) ++ placed_commons (bss_end base os) (common_sizes os)
