-- The header ranges of an entry list: each header that is opened by an N_BINCL, with what its symbols have in common wherever it is
-- included, and whether it is a candidate for merging. After "The stabs debug format", on include files; shapes, sums and which ranges
-- are candidates are this project's own.
use Rattle.std.specs.Prelude.{◌≡◌, ℕ, ◌+◌, ◌&&◌, ◌||◌, ◌==◌, not, Bool, true, false, cond, nat_eq, List, [], ◌∷◌, ◌++◌, ⊤, map, flat_map}
use Rattle.std.specs.List.{list_all, list_any}
use Rattle.std.specs.Cmp.Lexicographic.{pointwise}
use Rattle.stab_codes.specs.declared.code.TheConstants.{N_LSYM}
use Rattle.nlist_codec.specs.declared.named.Named.{Named}
use Rattle.stab_symbols.specs.Files.{files_of, shape_of}
use Rattle.unit_outlines.specs.declared.outline_types.UnitSpan.{UnitSpan}
use Rattle.stab_units.specs.declared.unit.HeaderFile.{HeaderFile}
use Rattle.stab_units.specs.declared.unit.Item.{Item}
use Rattle.stab_units.specs.declared.unit.Unit.{Unit}
use Rattle.unit_outlines.specs.EntryWords.{behind_first}
use Rattle.unit_outlines.specs.Outlines.{units_of}
use Rattle.stab_units.specs.Units.{Filed, AreRead, is_type, stabs_of}
use Rattle.stab_units.specs.ObjectUnits.{AreUnits}
use Rattle.bincl_match.specs.declared.range.RangeOf.{RangeOf}
use Rattle.bincl_match.specs.HeaderSums.{sum_of}

-- ---- own entries: those between the N_BINCL of a header and its N_EINCL, without those of headers inside it

-- an item is that of an N_LSYM type symbol
abbrev pub is_own_type : Item → Bool
is_own_type item = (item.kind == N_LSYM) && is_type item.text

-- an item of this file is that of an N_LSYM type symbol
abbrev pub is_typed_at : ℕ → Filed → Bool
is_typed_at file f = cond (f.file == file) (is_own_type f.item) true

-- all items of this file are
abbrev pub is_typed : ℕ → List Filed → Bool
is_typed file items = list_all (is_typed_at file) items

-- ---- the ranges of a unit

-- the range of a header file; `typed` says that its own entries all belong to N_LSYM type symbols. Until `among` looks at the others it is
-- a candidate where they do. Until `among` looks at the others it is
-- a candidate where they do
abbrev pub range_of : ℕ → ℕ → HeaderFile → Bool → RangeOf
range_of unit file h typed = record {
  unit = unit;
  file = file;
  name = h.name;
  shape = map shape_of h.symbols;
  numbers = flat_map files_of h.symbols;
  sum = sum_of h.symbols;
  candidate = typed;
}

-- those of header files, the first of which has the number `file`
abbrev pub ranges_from : ℕ → ℕ → List HeaderFile → List Filed → List RangeOf
ranges_from unit file [] items = []
ranges_from unit file (h ∷ headers) items = range_of unit file h (is_typed file items) ∷ ranges_from unit (file + 1) headers items

-- the ranges of a unit whose stabs are read as these items; its file 0 is no header
abbrev pub unit_ranges : ℕ → Unit → List Filed → List RangeOf
unit_ranges number unit items = ranges_from number 1 (behind_first unit.files) items

-- those of all units in order, the first of which has this number
abbrev pub typed_ranges : ℕ → List Unit → List (List Filed) → List RangeOf
typed_ranges number [] items = []
typed_ranges number (u ∷ units) [] = []
typed_ranges number (u ∷ units) (fs ∷ items) = unit_ranges number u fs ++ typed_ranges (number + 1) units items

-- ---- candidates

-- two ranges have one name and one shape
abbrev pub is_like : RangeOf → RangeOf → Bool
is_like x y = pointwise nat_eq x.name y.name && pointwise (pointwise nat_eq) x.shape y.shape

-- a range of this unit is like x
abbrev pub is_like_in : RangeOf → ℕ → RangeOf → Bool
is_like_in x unit y = (y.unit == unit) && is_like x y

-- some unit has two of these ranges that are like x
abbrev pub is_repeated : RangeOf → List RangeOf → Bool
is_repeated x [] = false
is_repeated x (y ∷ ys) = (is_like x y && list_any (is_like_in x y.unit) ys) || is_repeated x ys

-- a range among all of them: a candidate where its own entries all belong to N_LSYM type symbols and no unit has two ranges like it
abbrev pub among : List RangeOf → RangeOf → RangeOf
among all x = record {
  unit = x.unit;
  file = x.file;
  name = x.name;
  shape = x.shape;
  numbers = x.numbers;
  sum = x.sum;
  candidate = x.candidate && not (is_repeated x all);
}

-- the ranges of units that are read as these items
abbrev pub ranges_of : List Unit → List (List Filed) → List RangeOf
ranges_of units items = map (among (typed_ranges 0 units items)) (typed_ranges 0 units items)

-- ---- the ranges of entries

-- the stabs of each span are read as these items
abbrev pub AreItems : List Named → List UnitSpan → List (List Filed) → Type 0
AreItems entries [] [] = ⊤
AreItems entries [] (fs ∷ items) = ⊥
AreItems entries (s ∷ spans) [] = ⊥
AreItems entries (s ∷ spans) (fs ∷ items) = AreRead (stabs_of entries s) fs × AreItems entries spans items

-- these are the ranges of the entries of an object, where text ends at this address
pub record AreRanges (text_end : ℕ) (entries : List Named) (ranges : List RangeOf) : Type 0 where
  pub units : List Unit
  pub are_units : AreUnits text_end entries units
  pub items : List (List Filed)
  pub are_items : AreItems entries (units_of text_end entries) items
  pub are : ranges ≡ ranges_of units items

-- ---- ranges by themselves

-- the ranges of the entries of an object as they are found: each is a candidate by its own entries alone, before `among` looks at
-- the others
pub record AreFound (text_end : ℕ) (entries : List Named) (ranges : List RangeOf) : Type 0 where
  pub units : List Unit
  pub are_units : AreUnits text_end entries units
  pub items : List (List Filed)
  pub are_items : AreItems entries (units_of text_end entries) items
  pub are : ranges ≡ typed_ranges 0 units items

-- a range with this number as that of its unit
abbrev pub in_unit : ℕ → RangeOf → RangeOf
in_unit number x = record { unit = number; file = x.file; name = x.name; shape = x.shape; numbers = x.numbers; sum = x.sum; candidate = x.candidate }

-- the lists are equal but for the numbers of units
abbrev pub AreEqualButUnits : List RangeOf → List RangeOf → Type 0
AreEqualButUnits xs ys = map (in_unit 0) xs ≡ map (in_unit 0) ys

-- these are the ranges of the entries as they are found, but for the numbers of their units
abbrev pub AreFoundButUnits : ℕ → List Named → List RangeOf → Type 0
AreFoundButUnits text_end entries ranges = (found : List RangeOf) × AreFound text_end entries found × AreEqualButUnits ranges found
