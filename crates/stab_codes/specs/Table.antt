-- The table of stab codes. After "The stabs debug format" and its list of codes, stab.def.
use Rattle.std.specs.Prelude.{ℕ, Bool, true, false, ◌==◌, List, [], ◌∷◌, Option, find, codes}
use Rattle.std.specs.Option.{option_map, option_map_or}
use Rattle.std.specs.Str.{bytes_eq}
use Rattle.stab_codes.specs.declared.segment.Segment.{Segment}
use Rattle.stab_codes.specs.declared.segment.Segment.TheVariants.{Still, Text, Datum, Bss}

-- a stab code, its name, the segment that the value of such an entry moves with, and whether its string spells a symbol
pub record Row : Type 0 where
  pub code : ℕ
  pub name : List ℕ
  pub moves_with : Segment
  pub carries : Bool

-- the row with these, in the order of the record
abbrev pub row : ℕ → List ℕ → Segment → Bool → Row
row code name moves_with carries = record { code = code; name = name; moves_with = moves_with; carries = carries }

-- the stab codes of C, in order
abbrev pub table : List Row
table =
    row 0x20 (codes "N_GSYM") Still true
    ∷ row 0x24 (codes "N_FUN") Text true
    ∷ row 0x26 (codes "N_STSYM") Datum true
    ∷ row 0x28 (codes "N_LCSYM") Bss true
    ∷ row 0x2a (codes "N_MAIN") Still false
    ∷ row 0x2c (codes "N_ROSYM") Still true
    ∷ row 0x3c (codes "N_OPT") Still false
    ∷ row 0x40 (codes "N_RSYM") Still true
    ∷ row 0x44 (codes "N_SLINE") Text false
    ∷ row 0x64 (codes "N_SO") Text false
    ∷ row 0x80 (codes "N_LSYM") Still true
    ∷ row 0x82 (codes "N_BINCL") Still false
    ∷ row 0x84 (codes "N_SOL") Text false
    ∷ row 0xa0 (codes "N_PSYM") Still true
    ∷ row 0xa2 (codes "N_EINCL") Still false
    ∷ row 0xc0 (codes "N_LBRAC") Still false
    ∷ row 0xc2 (codes "N_EXCL") Still false
    ∷ row 0xe0 (codes "N_RBRAC") Still false
    ∷ []

-- the row of a code
abbrev pub row_of_code : ℕ → Option Row
row_of_code code = find (λ row. row.code == code) table

-- the row of a name, each letter as it stands in the table
abbrev pub row_of_name : List ℕ → Option Row
row_of_name name = find (λ row. bytes_eq name row.name) table

-- the name of a code
unfoldable pub code_name : ℕ → Option (List ℕ)
code_name code = option_map (λ row. row.name) (row_of_code code)

-- the code of a name
unfoldable pub code_of : List ℕ → Option ℕ
code_of name = option_map (λ row. row.code) (row_of_name name)

-- whether the string of a stab with this code spells a symbol; a code that is not in the table carries none
unfoldable pub carries_symbol : ℕ → Bool
carries_symbol code = option_map_or (λ row. row.carries) (row_of_code code) false
