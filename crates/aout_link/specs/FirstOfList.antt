-- The first fault of a list, told by where it stands: which items stand before the one that has it. The list is that of the stages of
-- placing, of the objects, of the entries of an object, or of the relocations of a segment.
use Rattle.std.specs.Prelude.{◌≡◌, ℕ, ◌+◌, Bool, if◌then◌else◌, List, [], ◌∷◌, ◌++◌, length, map, Option, Some, None}
use Rattle.st_base.specs.Faults.{fault_at, first_fault}
use Rattle.st_base.specs.declared.fault.Fault.{Fault}
use Rattle.st_base.specs.declared.fault.TheConstants.{TWICE, UNDEFINED}
use Rattle.nlist_codec.specs.declared.named.Named.{Named}
use Rattle.reloc.specs.declared.reloc.Reloc.{Reloc}
use Rattle.aout_link.specs.Sources.{Source}
use Rattle.aout_link.specs.declared.moves.Starts.{Starts}
use Rattle.aout_link.specs.declared.definitions.Known.{Known}
use Rattle.aout_link.specs.Moves.{moves_of, all_moves}
use Rattle.aout_link.specs.NameTables.{entries_of, names_table}
use Rattle.aout_link.specs.Placing.{Frame, placed_entry, relocated}
use Rattle.aout_link.specs.Refusals.{fault_in, empty_fault, order_fault, machine_fault, defines_again, twice_fault, twice_in, is_lacking, undefined_fault, undefined_in, address_fault, reloc_checks, object_fault, relocs_in}

-- the fault that an item has depends on the items before it
module _ {A : Type 0} (fault_of : List A → A → Option Fault) where
  -- no item has a fault, wherever it stands
  abbrev pub HasNone : List A → Type 0
  HasNone xs = (front : List A) (x : A) (back : List A) → xs ≡ front ++ x ∷ back → fault_of front x ≡ None

  -- this is the fault of an item before which none has one
  abbrev pub HasFirst : List A → Fault → Type 0
  HasFirst xs fault = (front : List A) × (x : A) × (back : List A) × (xs ≡ front ++ x ∷ back) × (fault_of front x ≡ Some fault) × HasNone front

-- ---- the stages of placing

-- the first fault of each, in the order in which they are told
abbrev pub stages : ℕ → List Source → List (Option Fault)
stages base os =
    empty_fault os
    ∷ order_fault os
    ∷ machine_fault os
    ∷ twice_in [] 0 os
    ∷ undefined_in (names_table base os) 0 os
    ∷ address_fault base os
    ∷ relocs_in (names_table base os) 0 (all_moves base os) os
    ∷ []

-- the fault of a stage is its own, whatever stands before
abbrev pub stage_fault : List (Option Fault) → Option Fault → Option Fault
stage_fault before stage = stage

-- ---- objects, those before one being `before`

-- the fault of an object that differs
abbrev pub difference : (Source → Bool) → ℕ → List Source → Source → Option Fault
difference differs number before o = if differs o then Some (fault_at number (length before)) else None

-- the first fault of an object's definitions
abbrev pub object_twice : List Source → Source → Option Fault
object_twice before o = twice_fault (entries_of before) (length before) 0 o.named

-- the first fault of an object's undefined entries
abbrev pub object_undefined : List (List ℕ × Known) → List Source → Source → Option Fault
object_undefined table before o = undefined_fault table (length before) 0 o.named

-- the first fault of an object's relocations
abbrev pub object_relocs : List (List ℕ × Known) → Starts → List Source → Source → Option Fault
object_relocs table s before o =
    object_fault (length before) (moves_of s before o) (map (placed_entry table (moves_of s before o)) o.named) o

-- ---- entries of object k, those before one being `before`

-- the fault of an entry that defines a name which one of the earlier objects or of `before` defines
abbrev pub entry_twice : List Named → ℕ → List Named → Named → Option Fault
entry_twice earlier k before n = if defines_again (earlier ++ before) n then Some (fault_in TWICE k (length before)) else None

-- the fault of an undefined entry whose name stands for nothing
abbrev pub entry_undefined : List (List ℕ × Known) → ℕ → List Named → Named → Option Fault
entry_undefined table k before n = if is_lacking table n then Some (fault_in UNDEFINED k (length before)) else None

-- ---- relocations of a segment, numbered from i on, those before one being `before`

-- the first fault of a relocation, on what those before it left
abbrev pub reloc_fault : Bool → ℕ → ℕ → Frame → List ℕ → List Reloc → Reloc → Option Fault
reloc_fault big k i f segment before r =
    first_fault (reloc_checks big k (i + length before) f (relocated big f segment before) r)
