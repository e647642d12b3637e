-- What a list of objects is refused for, and in which order: no objects, byte orders, machine words, names defined twice, names not
-- defined, addresses, and then the relocations of each object, those of text first. The numbers and their order are this project's own.
use Rattle.std.specs.Prelude.{◌≡◌, ℕ, ◌+◌, ◌==◌, ◌&&◌, ◌||◌, not, nat_le, Bool, false, if◌then◌else◌, List, [], ◌∷◌, ◌++◌, length, map, slice_get, Option, Some, None, Result, Ok, Err, is_some}
use Rattle.std.specs.Option.{option_map_or}
use Rattle.std.specs.List.{list_any}
use Rattle.st_base.specs.ByteOrder.{is_big}
use Rattle.st_base.specs.Faults.{Check, fault_at, first_fault}
use Rattle.st_base.specs.declared.fault.Fault.{Fault}
use Rattle.st_base.specs.declared.fault.Refused.{Refused}
use Rattle.st_base.specs.declared.fault.Refused.TheVariants as refused
use Rattle.st_base.specs.declared.fault.TheConstants.{EMPTY, ORDER_MIX, MACHINE_MIX, TWICE, UNDEFINED, TOO_LARGE, OUTSIDE, SYMBOL, OVERFLOW}
use Rattle.st_base.specs.declared.sizes.TheConstants.{GREATEST_ADDRESS}
use Rattle.st_base.specs.Stabs.{is_stab}
use Rattle.nlist_codec.specs.declared.named.Named.{Named}
use Rattle.reloc.specs.declared.reloc.Reloc.{Reloc}
use Rattle.reloc.specs.Sums.{bytes_in, bits_in, sum_fits, field_sum, applied}
use Rattle.aout_object.specs.Decoding.{fault_or}
use Rattle.nlist_codec.specs.declared.kinds.TheConstants.{UNDEFINED_EXTERNAL}
use Rattle.aout_link.specs.Sources.{Source}
use Rattle.aout_link.specs.declared.moves.Moves.{Moves}
use Rattle.aout_link.specs.declared.moves.Totals.{Totals}
use Rattle.aout_link.specs.declared.definitions.Known.{Known}
use Rattle.aout_link.specs.declared.placed.Placed.{Placed}
use Rattle.aout_link.specs.Moves.{totals_of, all_moves}
use Rattle.nlist_codec.specs.Kinds.{defines_name}
use Rattle.aout_link.specs.NameTables.{defines, known_by, common_sizes, commons_total, names_table}
use Rattle.aout_link.specs.Placing.{Frame, placed_entry, amount, text_frame, data_frame, IsPlaced}

-- the fault with this number at a part of an object: the object's number, and within it the part's
abbrev pub fault_in : ℕ → ℕ → ℕ → Fault
fault_in number object part = record { number = number; place = object; within = part }

-- ---- objects that are alike

-- there are no objects
abbrev pub empty_fault : List Source → Option Fault
empty_fault [] = Some (fault_at EMPTY 0)
empty_fault (o ∷ os) = None

-- the first object, from number k on, that differs
abbrev pub first_that : (Source → Bool) → ℕ → ℕ → List Source → Option Fault
first_that differs number k [] = None
first_that differs number k (o ∷ os) = if differs o then Some (fault_at number k) else first_that differs number (k + 1) os

-- an object's byte order is not that of another
abbrev pub has_other_order : Source → Source → Bool
has_other_order first o = if is_big first.parts.order then not (is_big o.parts.order) else is_big o.parts.order

-- the first object whose byte order is not that of the first
abbrev pub order_fault : List Source → Option Fault
order_fault [] = None
order_fault (o ∷ os) = first_that (has_other_order o) ORDER_MIX 0 (o ∷ os)

-- an object's machine word is not that of another
abbrev pub has_other_machine : Source → Source → Bool
has_other_machine first o = not (o.parts.machine == first.parts.machine)

-- the first object whose machine word is not that of the first
abbrev pub machine_fault : List Source → Option Fault
machine_fault [] = None
machine_fault (o ∷ os) = first_that (has_other_machine o) MACHINE_MIX 0 (o ∷ os)

-- ---- names

-- an entry defines a name that an earlier one defines
abbrev pub defines_again : List Named → Named → Bool
defines_again before n = defines_name n.kind && list_any (defines n.name) before

-- the first second definition among the entries of object k from entry j on, these entries standing before them
abbrev pub twice_fault : List Named → ℕ → ℕ → List Named → Option Fault
twice_fault before k j [] = None
twice_fault before k j (n ∷ ns) = if defines_again before n then Some (fault_in TWICE k j) else twice_fault (before ++ n ∷ []) k (j + 1) ns

-- the first second definition among objects, from object k on
abbrev pub twice_in : List Named → ℕ → List Source → Option Fault
twice_in before k [] = None
twice_in before k (o ∷ os) = fault_or (twice_fault before k 0 o.named) (twice_in (before ++ o.named) (k + 1) os)

-- an undefined entry whose name stands for nothing
abbrev pub is_lacking : List (List ℕ × Known) → Named → Bool
is_lacking table n = n.kind == UNDEFINED_EXTERNAL && n.value == 0 && not (is_some (known_by n.name table))

-- the first of them among the entries of object k from entry j on
abbrev pub undefined_fault : List (List ℕ × Known) → ℕ → ℕ → List Named → Option Fault
undefined_fault table k j [] = None
undefined_fault table k j (n ∷ ns) = if is_lacking table n then Some (fault_in UNDEFINED k j) else undefined_fault table k (j + 1) ns

-- the first of them among objects, from object k on
abbrev pub undefined_in : List (List ℕ × Known) → ℕ → List Source → Option Fault
undefined_in table k [] = None
undefined_in table k (o ∷ os) = fault_or (undefined_fault table k 0 o.named) (undefined_in table (k + 1) os)

-- ---- addresses

-- the end of bss passes the greatest address, bss having commons of so many bytes behind it
abbrev pub end_fault : ℕ → Totals → ℕ → Option Fault
end_fault base t commons =
    if nat_le (base + t.text + t.datum + (t.bss + commons)) GREATEST_ADDRESS then None else Some (fault_at TOO_LARGE GREATEST_ADDRESS)

-- the end of bss of all objects with their commons passes the greatest address
abbrev pub address_fault : ℕ → List Source → Option Fault
address_fault base os = end_fault base (totals_of os) (commons_total (common_sizes os))

-- ---- relocations

-- a kind that a relocation may name: that of no stab, and not 0
abbrev pub is_target : ℕ → Bool
is_target kind = not (is_stab kind) && not (kind == 0)

-- an external relocation names an entry of such a kind
abbrev pub is_lawful : List Named → Reloc → Bool
is_lawful named r = not r.external || option_map_or (λ n. is_target n.kind) (slice_get named r.symbol) false

-- the check of relocation i of object k
abbrev pub check_in : Bool → ℕ → ℕ → ℕ → Check
check_in holds number k i = record { holds = holds; fault = fault_in number k i }

-- the field lies in the segment, the symbol is lawful, the sum fits
abbrev pub reloc_checks : Bool → ℕ → ℕ → Frame → List ℕ → Reloc → List Check
reloc_checks big k i f segment r =
    check_in (nat_le (r.address + bytes_in r.length) (length segment)) OUTSIDE k i
    ∷ check_in (is_lawful f.named r) SYMBOL k i
    ∷ check_in (sum_fits (bits_in r.length) (field_sum big segment r (amount f r))) OVERFLOW k i
    ∷ []

-- the first fault of relocations from number i on; each finds what those before it left
abbrev pub relocs_fault : Bool → ℕ → ℕ → Frame → List ℕ → List Reloc → Option Fault
relocs_fault big k i f segment [] = None
relocs_fault big k i f segment (r ∷ rs) =
    fault_or (first_fault (reloc_checks big k i f segment r))
    (relocs_fault big k (i + 1) f (applied big segment r (amount f r)) rs)

-- the first fault of the relocations of an object's text
abbrev pub text_fault : ℕ → Moves → List Named → Source → Option Fault
text_fault k m placed o = relocs_fault (is_big o.parts.order) k 0 (text_frame m placed o) o.parts.text o.parts.text_relocs

-- of its data, which are numbered behind those of text
abbrev pub data_fault : ℕ → Moves → List Named → Source → Option Fault
data_fault k m placed o =
    relocs_fault (is_big o.parts.order) k (length o.parts.text_relocs) (data_frame m placed o) o.parts.data_part o.parts.data_relocs

-- the first fault of an object's relocations, those of text first
abbrev pub object_fault : ℕ → Moves → List Named → Source → Option Fault
object_fault k m placed o = fault_or (text_fault k m placed o) (data_fault k m placed o)

-- the first fault of the relocations of objects, from object k on
abbrev pub relocs_in : List (List ℕ × Known) → ℕ → List Moves → List Source → Option Fault
relocs_in table k (m ∷ ms) (o ∷ os) = fault_or (object_fault k m (map (placed_entry table m) o.named) o) (relocs_in table (k + 1) ms os)
relocs_in table k ms os = None

-- ---- the whole

-- the faults that the definitions, the undefined entries, the addresses and the relocations give, in this order
abbrev pub place_fault : ℕ → List Source → Option Fault
place_fault base os =
    fault_or (twice_in [] 0 os)
    (fault_or (undefined_in (names_table base os) 0 os)
    (fault_or (address_fault base os)
    (relocs_in (names_table base os) 0 (all_moves base os) os)))

-- the first fault of a list of objects
abbrev pub list_fault : ℕ → List Source → Option Fault
list_fault base os = fault_or (empty_fault os) (fault_or (order_fault os) (fault_or (machine_fault os) (place_fault base os)))

-- a refusal for what has this first fault; out of memory is free
abbrev pub Refuses : Option Fault → Refused → Type 0
Refuses fault refused.Memory = Unit {0}
Refuses fault (refused.At why) = fault ≡ Some why

-- what a call answers that places objects, whose first fault this is
abbrev pub PlacesTo : Option Fault → ℕ → List Source → Result Placed Refused → Type 0
PlacesTo fault base os (Ok p) = (fault ≡ None) × IsPlaced base os p
PlacesTo fault base os (Err why) = Refuses fault why
