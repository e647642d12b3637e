-- How the files of excluded headers are filled: by the owners of each unit, with a table of new numbers for each kept unit. Contracts of
-- private functions alone use these words.
use Rattle.std.specs.Prelude.{◌≡◌, ℕ, ◌+◌, List, [], ◌∷◌, ◌&&◌, Bool, cond, map, Option, Some, None, nat_eq, slice_get, length, ⊤}
use Rattle.std.specs.List.{filter}
use Rattle.std.specs.HashMap.{HashMap, get_by}
use Rattle.stab_symbols.specs.declared.tree.Symbol.{Symbol}
use Rattle.stab_symbols.specs.Files.{renumbered}
use Rattle.unit_outlines.specs.declared.outline_types.HeaderMark.{HeaderMark}
use Rattle.unit_outlines.specs.declared.outline_types.UnitSpan.{UnitSpan}
use Rattle.stab_units.specs.declared.unit.HeaderFile.{HeaderFile}
use Rattle.stab_units.specs.declared.unit.Unit.{Unit}
use Rattle.unit_index.specs.declared.owner.Owner.{Owner}
use Rattle.unit_index.specs.declared.owner.TheConstants.{NO_FILE}
use Rattle.unit_index.specs.Owners.{the_one, file_or_none}
use Rattle.unit_index.specs.Expanding.{symbols_at}

-- ---- the files of a unit by the header that opens their range

-- stands for the range that this header of this unit opens
abbrev pub owns : ℕ → ℕ → Owner → Bool
owns unit file o = nat_eq unit o.owner_unit && nat_eq file o.owner_file

-- the file of the one header, what stands for no file where there are more
abbrev pub file_of : List Owner → Option ℕ
file_of [] = None
file_of (o ∷ []) = Some o.file
file_of (o ∷ p ∷ owners) = Some NO_FILE

-- with one header more
abbrev pub more_files : Option ℕ → ℕ → ℕ
more_files None file = file
more_files (Some found) file = NO_FILE

abbrev pub look_file : {S : Type 0} → HashMap (ℕ × ℕ) ℕ S → ℕ → ℕ → Option ℕ
look_file files unit file = get_by (λ k. nat_eq unit k.0 && nat_eq file k.1) files

-- the map has these headers of a unit
abbrev pub Finds : {S : Type 0} → HashMap (ℕ × ℕ) ℕ S → List Owner → Type 0
Finds files owners = (unit file : ℕ) → look_file files unit file ≡ file_of (filter (owns unit file) owners)

-- ---- tables of new numbers

-- the file of a unit that stands for the same range as k
abbrev pub number_of : List Owner → Owner → ℕ
number_of owners k = file_or_none (the_one (owns k.owner_unit k.owner_file) owners)

-- the new number of each file of a kept unit with these owners
abbrev pub numbers_of : List Owner → List Owner → List ℕ
numbers_of owners kept = 0 ∷ map (number_of owners) kept

-- the owners of a unit, none where there is no such unit
abbrev pub owners_at : Option (List Owner) → List Owner
owners_at None = []
owners_at (Some owners) = owners

-- the new numbers of the files of a kept unit
abbrev pub numbers_at : List (List Owner) → List Owner → ℕ → List ℕ
numbers_at all owners unit = numbers_of owners (owners_at (slice_get all unit))

abbrev pub look_table : {S : Type 0} → HashMap ℕ (List ℕ) S → ℕ → Option (List ℕ)
look_table tables unit = get_by (nat_eq unit) tables

-- each table is that of its unit
abbrev pub AreTables : {S : Type 0} → List (List Owner) → List Owner → HashMap ℕ (List ℕ) S → Type 0
AreTables all owners tables = (unit : ℕ) (table : List ℕ) → look_table tables unit ≡ Some table → table ≡ numbers_at all owners unit

-- ---- what is taken over

-- what a header takes over that stands for the range of its owner
abbrev pub taken_by : List (List Owner) → List Unit → List Owner → Owner → List Symbol
taken_by all units owners o = map (renumbered (numbers_at all owners o.owner_unit)) (symbols_at units o.owner_unit o.owner_file)

-- what each header of a unit takes over; one that is not excluded takes nothing
abbrev pub taken_from : List (List Owner) → List Unit → List Owner → List HeaderMark → List Owner → List (List Symbol)
taken_from all units owners [] left = []
taken_from all units owners (h ∷ hs) [] = []
taken_from all units owners (h ∷ hs) (o ∷ left) = cond h.excluded (taken_by all units owners o) [] ∷ taken_from all units owners hs left

-- in each unit
abbrev pub all_taken : List (List Owner) → List Unit → List UnitSpan → List (List Owner) → List (List (List Symbol))
all_taken all units [] left = []
all_taken all units (s ∷ spans) [] = []
all_taken all units (s ∷ spans) (owners ∷ left) = taken_from all units owners s.headers owners ∷ all_taken all units spans left

-- ---- filled files

abbrev pub file_with : Bool → List Symbol → HeaderFile → HeaderFile
file_with excluded taken file = cond excluded (record { name = file.name; symbols = taken }) file

-- the files of these headers
abbrev pub headers_with : List HeaderMark → List HeaderFile → List (List Symbol) → List HeaderFile
headers_with [] files taken = files
headers_with (h ∷ hs) [] taken = []
headers_with (h ∷ hs) (f ∷ files) [] = []
headers_with (h ∷ hs) (f ∷ files) (ss ∷ taken) = file_with h.excluded ss f ∷ headers_with hs files taken

-- the main source, then the headers
abbrev pub files_with : List HeaderMark → List HeaderFile → List (List Symbol) → List HeaderFile
files_with hs [] taken = []
files_with hs (f ∷ files) taken = f ∷ headers_with hs files taken

abbrev pub unit_with : List HeaderFile → Unit → Unit
unit_with files u = record { name = u.name; start = u.start; end = u.end; files = files; body = u.body }

abbrev pub units_with : List UnitSpan → List Unit → List (List (List Symbol)) → List Unit
units_with [] units taken = units
units_with (s ∷ spans) [] taken = []
units_with (s ∷ spans) (u ∷ units) [] = []
units_with (s ∷ spans) (u ∷ units) (ts ∷ taken) = unit_with (files_with s.headers u.files ts) u ∷ units_with spans units taken

-- ---- as many

-- each unit that was read has a file for each header, and its main source
abbrev pub AreFull : List UnitSpan → List Unit → Type 0
AreFull [] [] = ⊤
AreFull [] (u ∷ units) = ⊥
AreFull (s ∷ spans) [] = ⊥
AreFull (s ∷ spans) (u ∷ units) = (length u.files ≡ length s.headers + 1) × AreFull spans units

-- there is a list of symbols for each header of each unit
abbrev pub AreLists : List UnitSpan → List (List (List Symbol)) → Type 0
AreLists [] [] = ⊤
AreLists [] (ts ∷ taken) = ⊥
AreLists (s ∷ spans) [] = ⊥
AreLists (s ∷ spans) (ts ∷ taken) = (length ts ≡ length s.headers) × AreLists spans taken
