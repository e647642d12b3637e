-- The sum of a header file's symbols, from which its instance is counted. Two units that include the file give it different numbers,
-- so the numbers of files are left out of it. That N_BINCL has a sum of the file's strings is of "The stabs debug format"; which bytes
-- count here is this project's own.
use Rattle.std.specs.Prelude.{ℕ, ◌%◌, ◌^◌, ◌&&◌, ◌==◌, Bool, false, true, cond, List, [], ◌∷◌, flat_map, sum}
use Rattle.std.specs.Char.{is_ascii_digit}
use Rattle.stab_symbols.specs.declared.tree.Symbol.{Symbol}
use Rattle.stab_symbols.specs.SymbolSpelling.{print_symbol}

-- bytes without the decimal digits that directly follow each `(`; the flag says that these bytes directly follow one
abbrev pub without_files : Bool → List ℕ → List ℕ
without_files behind [] = []
without_files behind (b ∷ bytes) = cond (behind && is_ascii_digit b) (without_files true bytes) (b ∷ without_files (b == 40) bytes)

-- the bytes of a symbol that count
abbrev pub counted : Symbol → List ℕ
counted s = without_files false (print_symbol s)

-- the sum of the bytes of symbols that count, modulo 2 ^ 32
abbrev pub sum_of : List Symbol → ℕ
sum_of symbols = sum (flat_map counted symbols) % 2 ^ 32
