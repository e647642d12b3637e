-- Worked values of the line of a check, by hand.
use Rattle.std.proofs.Common.{◌≡◌, ℕ, List, [], ◌∷◌, refl, lit<}
use Rattle.std.specs.Prelude.{codes}
use Rattle.std.proofs.lemmas.Fmt.{decimal_digit}
use Rattle.stab_codes.specs.declared.code.TheConstants.{N_SO, N_LSYM, N_BINCL, N_EINCL, N_EXCL}
use Rattle.nlist_codec.specs.declared.named.Named.{Named}
use Rattle.stab_symbols.specs.declared.tree.Symbol.{Symbol}
use Rattle.stab_units.specs.declared.unit.HeaderFile.{HeaderFile}
use Rattle.stab_units.specs.declared.unit.Unit.{Unit as UnitOf}
use Rattle.type_graph.specs.declared.world.World.{World}
use Rattle.file_commands.specs.Checking.{headers_in, excluded_in, check_text}

-- an entry of this kind
abbrev en : ℕ → Named
en kind = record { kind = kind; other = 0; desc = 0; value = 0; name = [] }

abbrev file : List Symbol → HeaderFile
file symbols = record { name = []; symbols = symbols }

abbrev unit : List HeaderFile → UnitOf
unit files = record { name = []; start = 0; end = 0; files = files; body = [] }

-- the second unit excludes the header of the first; each file but one has a symbol
abbrev entries : List Named
entries = en N_SO ∷ en N_LSYM ∷ en N_BINCL ∷ en N_LSYM ∷ en N_EINCL ∷ en N_SO ∷ en N_EXCL ∷ []

abbrev world : Symbol → World
world s = record { units = unit (file (s ∷ []) ∷ file (s ∷ []) ∷ []) ∷ unit (file [] ∷ file (s ∷ []) ∷ []) ∷ []; externals = [] }

a_line : (s : Symbol) → check_text entries (world s) ≡ codes "units 2 headers 2 excluded 1 symbols 3\n"
unfolding check_text
a_line s = rw (decimal_digit 1 (lit< tt), decimal_digit 2 (lit< tt), decimal_digit 3 (lit< tt)) refl

-- an N_EINCL is no header
no_header : headers_in (en N_EINCL ∷ en N_SO ∷ []) ≡ 0
no_header = refl

-- an N_BINCL is not excluded
not_excluded : excluded_in (en N_BINCL ∷ []) ≡ 1 → ⊥
not_excluded e = absurd cc
