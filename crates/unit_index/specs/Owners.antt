-- The owner of each header of an image: the N_BINCL for whose range it stands. That of an N_EXCL is the one N_BINCL of its name and
-- value, in whatever unit; an N_BINCL is its own owner. After "The stabs debug format", on include files; that there is to be exactly
-- one such N_BINCL, and what a number becomes that is carried over into another unit, is this project's own.
use Rattle.std.specs.Prelude.{ℕ, zero, suc, ◌+◌, List, [], ◌∷◌, ◌++◌, ◌&&◌, not, Bool, cond, map, Option, Some, None, nat_eq}
use Rattle.std.specs.List.{filter}
use Rattle.std.specs.Cmp.Lexicographic.{pointwise}
use Rattle.st_base.specs.declared.fault.Fault.{Fault}
use Rattle.st_base.specs.declared.fault.TheConstants.{NO_HEADER, AMBIGUOUS}
use Rattle.st_base.specs.Faults.{fault_at}
use Rattle.unit_outlines.specs.declared.outline_types.HeaderMark.{HeaderMark}
use Rattle.unit_outlines.specs.declared.outline_types.UnitSpan.{UnitSpan}
use Rattle.unit_index.specs.declared.owner.Owner.{Owner}
use Rattle.unit_index.specs.declared.owner.TheConstants.{NO_FILE}

-- ---- the one item that passes a test

-- the item of a list of one
abbrev pub only_of : {X : Type 0} → List X → Option X
only_of [] = None
only_of (x ∷ []) = Some x
only_of (x ∷ y ∷ xs) = None

-- the item that passes, where exactly one does
abbrev pub the_one : {X : Type 0} → (X → Bool) → List X → Option X
the_one test xs = only_of (filter test xs)

-- ---- headers

-- a header of an image: its unit, its number there, and its mark with the number of the mark's entry
pub record Row : Type 0 where
  pub unit : ℕ
  pub file : ℕ
  pub excluded : Bool
  pub name : List ℕ
  pub value : ℕ
  pub place : ℕ

-- that of a mark
abbrev pub row_at : ℕ → ℕ → HeaderMark → Row
row_at unit file h = record { unit = unit; file = file; excluded = h.excluded; name = h.name; value = h.value; place = h.first }

-- the headers of a unit in order, the first of which has this number
abbrev pub unit_rows : ℕ → ℕ → List HeaderMark → List Row
unit_rows unit file [] = []
unit_rows unit file (h ∷ hs) = row_at unit file h ∷ unit_rows unit (file + 1) hs

-- those of units, the first of which has this number; a unit numbers its headers from 1
abbrev pub rows_from : ℕ → List UnitSpan → List Row
rows_from unit [] = []
rows_from unit (s ∷ spans) = unit_rows unit 1 s.headers ++ rows_from (unit + 1) spans

-- the headers of all units in order; units are counted from 0
abbrev pub rows_of : List UnitSpan → List Row
rows_of spans = rows_from 0 spans

-- ---- owners

-- an N_BINCL with this name and value
abbrev pub opens : List ℕ → ℕ → Row → Bool
opens name value k = not k.excluded && (pointwise nat_eq name k.name && nat_eq value k.value)

-- k is an N_BINCL with the name and the value of r
abbrev pub is_like : Row → Row → Bool
is_like r k = opens r.name r.value k

-- the header r stands for the range that this one opens
abbrev pub owned_by : Row → Option Row → Owner
owned_by r None = record { unit = r.unit; file = r.file; owner_unit = 0; owner_file = 0 }
owned_by r (Some k) = record { unit = r.unit; file = r.file; owner_unit = k.unit; owner_file = k.file }

-- an N_BINCL stands for its own range, an N_EXCL for that of the N_BINCL of its name and value
abbrev pub owner_in : List Row → Row → Owner
owner_in all r = cond r.excluded (owned_by r (the_one (is_like r) all)) (owned_by r (Some r))

-- the owner of each header
abbrev pub owners_of : List Row → List Owner
owners_of all = map (owner_in all) all

-- ---- faults

-- the fault of an N_EXCL whose name and value these N_BINCL have, or what is reported later
abbrev pub fault_by : Row → List Row → Option Fault → Option Fault
fault_by r [] later = Some (fault_at NO_HEADER r.place)
fault_by r (k ∷ []) later = later
fault_by r (k ∷ l ∷ ks) later = Some (fault_at AMBIGUOUS r.place)

-- the first fault of these headers
abbrev pub fault_among : List Row → List Row → Option Fault
fault_among all [] = None
fault_among all (r ∷ rows) = cond r.excluded (fault_by r (filter (is_like r) all) (fault_among all rows)) (fault_among all rows)

-- the fault at the first N_EXCL whose name and value no N_BINCL has, or several have; none where each has one
abbrev pub index_fault : List Row → Option Fault
index_fault all = fault_among all all

-- ---- numbers

-- the owner is that of this header
abbrev pub is_header : ℕ → ℕ → Owner → Bool
is_header unit file o = nat_eq unit o.unit && nat_eq file o.file

-- the owner of a header, if the unit has such a header
abbrev pub stands_for : List Owner → ℕ → ℕ → Option Owner
stands_for owners unit file = the_one (is_header unit file) owners

-- a header of this unit that stands for the same range as k
abbrev pub is_same : ℕ → Owner → Owner → Bool
is_same unit k o = nat_eq unit o.unit && (nat_eq k.owner_unit o.owner_unit && nat_eq k.owner_file o.owner_file)

-- its number, or what stands for no file
abbrev pub file_or_none : Option Owner → ℕ
file_or_none None = NO_FILE
file_or_none (Some o) = o.file

-- the number of the one header of a unit that stands for the same range
abbrev pub number_for : List Owner → ℕ → Option Owner → ℕ
number_for owners unit None = NO_FILE
number_for owners unit (Some k) = file_or_none (the_one (is_same unit k) owners)

-- what a file of the unit `kept` is in another unit: the main source is the main source, a header is the one header of that unit that
-- stands for the same range, and no file where none or several do
abbrev pub new_number : List Owner → ℕ → ℕ → ℕ → ℕ
new_number owners kept unit zero = 0
new_number owners kept unit (suc file) = number_for owners unit (stands_for owners kept (suc file))
