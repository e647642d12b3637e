-- The index of an image: where its units stand, and for each header of each unit its owner.
use Rattle.std.specs.Prelude.{◌≡◌, ◌≤◌, ℕ, ◌+◌, List, [], ◌∷◌, length, map, flat_map, slice_get, Some, None, ⊤}
use Rattle.nlist_codec.specs.declared.named.Named.{Named}
use Rattle.unit_outlines.specs.declared.outline_types.UnitSpan.{UnitSpan}
use Rattle.unit_outlines.specs.Outlines.{units_of}
use Rattle.unit_index.specs.declared.owner.Owner.{Owner}
use Rattle.unit_index.specs.declared.owner.HeaderAt.{HeaderAt}
use Rattle.unit_index.specs.Owners.{Row, unit_rows, rows_of, owner_in, owners_of}
use Rattle.unit_index.specs.Expanding.{IndexFault}

-- what contracts see of an index
pub record Indexed : Type 0 where
  pub outlines : List UnitSpan
  pub owners : List (List Owner)

-- ---- owners by units

-- the owners of all units in one list
abbrev pub all_owners : List (List Owner) → List Owner
all_owners by_unit = flat_map (λ owners. owners) by_unit

-- these are owners of headers of one unit, numbered in order from this file on
abbrev pub AreNumbered : ℕ → ℕ → List Owner → Type 0
AreNumbered unit file [] = ⊤
AreNumbered unit file (o ∷ owners) = (o.unit ≡ unit) × (o.file ≡ file) × AreNumbered unit (file + 1) owners

-- each owner stands at its unit and number; the first unit has this number
abbrev pub AreInPlace : ℕ → List (List Owner) → Type 0
AreInPlace unit [] = ⊤
AreInPlace unit (owners ∷ more) = AreNumbered unit 1 owners × AreInPlace (unit + 1) more

-- each unit has as many owners as headers
abbrev pub AsMany : List UnitSpan → List (List Owner) → Type 0
AsMany [] [] = ⊤
AsMany [] (owners ∷ all) = ⊥
AsMany (s ∷ spans) [] = ⊥
AsMany (s ∷ spans) (owners ∷ all) = (length owners ≡ length s.headers) × AsMany spans all

-- the owners of the headers of each unit among all these headers; the first unit has this number
abbrev pub owners_by : List Row → ℕ → List UnitSpan → List (List Owner)
owners_by all unit [] = []
owners_by all unit (s ∷ spans) = map (owner_in all) (unit_rows unit 1 s.headers) ∷ owners_by all (unit + 1) spans

-- the header that opens the range
abbrev pub opener : Owner → HeaderAt
opener o = record { unit = o.owner_unit; file = o.owner_file }

-- the unit has a header of this number; units are counted from 0, the headers of a unit from 1
pub record HasHeader (spans : List UnitSpan) (unit file : ℕ) : Type 0 where
  pub span : UnitSpan
  pub there : slice_get spans unit ≡ Some span
  pub low : 1 ≤ file
  pub high : file ≤ length span.headers

-- this is the index of an image with these entries, where text ends at this address
pub record IsIndex (text_end : ℕ) (entries : List Named) (index : Indexed) : Type 0 where
  pub no_fault : IndexFault text_end entries None
  pub outlines : index.outlines ≡ units_of text_end entries
  pub by_unit : index.owners ≡ owners_by (rows_of (units_of text_end entries)) 0 (units_of text_end entries)
  pub all : all_owners index.owners ≡ owners_of (rows_of (units_of text_end entries))
