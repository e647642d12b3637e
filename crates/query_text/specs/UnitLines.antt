-- The replies on units and on the files of a unit: a line for each. Names stand in their shown form, and each line ends in a line
-- feed. This is this project's own.
use Rattle.std.specs.Prelude.{ℕ, List, [], ◌∷◌, ◌++◌, decimal, flat_map}
use Rattle.std.specs.List.{enumerate_from}
use Rattle.st_base.specs.Shown.{shown}
use Rattle.stab_units.specs.declared.unit.Unit.{Unit}
use Rattle.stab_units.specs.declared.unit.HeaderFile.{HeaderFile}
use Rattle.st_base.specs.Numerals.{hex8}

-- `U START END NAME` of the unit with this number
unfoldable pub unit_line : ℕ → Unit → List ℕ
unit_line number unit =
    decimal number ++ 32 ∷ [] ++ hex8 unit.start ++ 32 ∷ [] ++ hex8 unit.end ++ 32 ∷ [] ++ shown unit.name ++ 10 ∷ []

-- the lines of all units in order
abbrev pub units_text : List Unit → List ℕ
units_text units = flat_map (λ p. unit_line p.0 p.1) (enumerate_from 0 units)

-- `F NAME` of the file with this number
unfoldable pub file_line : ℕ → HeaderFile → List ℕ
file_line number file = decimal number ++ 32 ∷ [] ++ shown file.name ++ 10 ∷ []

-- the lines of the files of a unit in order
abbrev pub files_text : List HeaderFile → List ℕ
files_text files = flat_map (λ p. file_line p.0 p.1) (enumerate_from 0 files)
