-- What `check` tells of an image: how many units it has, how many headers, how many of these are excluded, and how many symbols its
-- files have once each excluded header has those of the range that it stands for. This is this project's own.
use Rattle.std.specs.Prelude.{ℕ, ◌==◌, List, [], ◌∷◌, ◌++◌, length, codes, decimal}
use Rattle.std.specs.List.{sum_by, count_by}
use Rattle.nlist_codec.specs.declared.named.Named.{Named}
use Rattle.stab_codes.specs.declared.code.TheConstants.{N_EXCL}
use Rattle.unit_outlines.specs.Marks.{is_header}
use Rattle.stab_units.specs.declared.unit.Unit.{Unit}
use Rattle.type_graph.specs.declared.world.World.{World}

-- how many entries are marks of headers, N_BINCL or N_EXCL
abbrev pub headers_in : List Named → ℕ
headers_in entries = count_by (λ e. is_header e.kind) entries

-- how many entries are marks of excluded headers
abbrev pub excluded_in : List Named → ℕ
excluded_in entries = count_by (λ e. e.kind == N_EXCL) entries

-- how many symbols the files of a unit have
abbrev pub symbols_of : Unit → ℕ
symbols_of unit = sum_by (λ file. length file.symbols) unit.files

-- how many symbols the files of all units have
abbrev pub symbols_in : World → ℕ
symbols_in world = sum_by symbols_of world.units

-- `units U headers H excluded X symbols S`, for the entries of an object and its world
unfoldable pub check_text : List Named → World → List ℕ
check_text entries world =
    codes "units " ++ decimal (length world.units) ++ codes " headers " ++ decimal (headers_in entries)
    ++ codes " excluded " ++ decimal (excluded_in entries) ++ codes " symbols " ++ decimal (symbols_in world) ++ 10 ∷ []
