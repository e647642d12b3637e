-- How the owners of headers are looked up: a map has for each name and value the first N_BINCL that has them, and whether there are
-- more. Contracts of private functions alone use these words.
use Rattle.std.specs.Prelude.{◌≡◌, ℕ, ◌<◌, ◌^◌, List, [], ◌∷◌, ◌&&◌, not, Bool, true, false, cond, map, Option, Some, None, Result, Ok, Err, nat_eq, slice_get, length, ⊤}
use Rattle.std.specs.List.{filter}
use Rattle.std.specs.HashMap.{HashMap, get_by}
use Rattle.std.specs.Cmp.Lexicographic.{pointwise}
use denote.Ref.{Bor}
use Rattle.st_base.specs.declared.fault.Fault.{Fault}
use Rattle.st_base.specs.declared.fault.Refused.{Refused}
use Rattle.st_base.specs.declared.fault.Refused.TheVariants as refused
use Rattle.unit_outlines.specs.declared.outline_types.UnitSpan.{UnitSpan}
use Rattle.unit_index.specs.declared.owner.Owner.{Owner}
use Rattle.unit_index.specs.declared.index.Seen.{Seen}
use Rattle.unit_index.specs.Owners.{Row, opens, is_like, owner_in, fault_by, fault_among, index_fault, rows_of}
use Rattle.unit_index.specs.Indexes.{owners_by}

-- the first of some headers, and whether there are more
abbrev pub seen_of : List Row → Option Seen
seen_of [] = None
seen_of (k ∷ []) = Some (record { unit = k.unit; file = k.file; more = false })
seen_of (k ∷ l ∷ ks) = Some (record { unit = k.unit; file = k.file; more = true })

-- with one header more
abbrev pub more_of : Option Seen → ℕ → ℕ → Seen
more_of None unit file = record { unit = unit; file = file; more = false }
more_of (Some seen) unit file = record { unit = seen.unit; file = seen.file; more = true }

abbrev pub look : {S : Type 0} → HashMap (Bor (List ℕ) × ℕ) Seen S → List ℕ → ℕ → Option Seen
look seen name value = get_by (λ k. pointwise nat_eq name k.0.now && nat_eq value k.1) seen

-- the map has these headers
abbrev pub Sees : {S : Type 0} → HashMap (Bor (List ℕ) × ℕ) Seen S → List Row → Type 0
Sees seen rows = (name : List ℕ) (value : ℕ) → look seen name value ≡ seen_of (filter (opens name value) rows)

-- the fault of one header by itself
abbrev pub own_fault : List Row → Row → Option Fault
own_fault all r = cond r.excluded (fault_by r (filter (is_like r) all) None) None

-- the owner of a header, or its fault
abbrev pub IsOwner : List Row → Row → Result Owner Refused → Type 0
IsOwner all r (Ok o) = (own_fault all r ≡ None) × (o ≡ owner_in all r)
IsOwner all r (Err (refused.At f)) = own_fault all r ≡ Some f
IsOwner all r (Err refused.Memory) = ⊤

-- the owners of headers, or their first fault
abbrev pub AreOwners : List Row → List Row → Result (List Owner) Refused → Type 0
AreOwners all rows (Ok owners) = (fault_among all rows ≡ None) × (owners ≡ map (owner_in all) rows)
AreOwners all rows (Err (refused.At f)) = fault_among all rows ≡ Some f
AreOwners all rows (Err refused.Memory) = ⊤

-- the owners of all headers by units, or the first fault
abbrev pub AreAllOwners : List UnitSpan → Result (List (List Owner)) Refused → Type 0
AreAllOwners spans (Ok owners) = (index_fault (rows_of spans) ≡ None) × (owners ≡ owners_by (rows_of spans) 0 spans)
AreAllOwners spans (Err (refused.At f)) = index_fault (rows_of spans) ≡ Some f
AreAllOwners spans (Err refused.Memory) = ⊤

-- each unit has fewer headers than this
abbrev pub AreFew : List UnitSpan → Type 0
AreFew spans = (k : ℕ) (s : UnitSpan) → slice_get spans k ≡ Some s → length s.headers < 2 ^ 32
