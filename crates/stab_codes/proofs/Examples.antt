-- Worked values of the table and of the segments, by hand after "The stabs debug format" and a.out(5).
use Rattle.std.proofs.Common.{◌≡◌, true, false, Some, None, refl, codes}
use Rattle.stab_codes.specs.Segments.{segment_of}
use Rattle.stab_codes.specs.Table.{code_name, code_of, carries_symbol}
use Rattle.stab_codes.specs.declared.segment.Segment.TheVariants.{Still, Text, Datum, Bss}

-- the stab code 100 of the main source of a unit
main_source : code_name 100 ≡ Some (codes "N_SO")
unfolding code_name
main_source = refl

main_source_code : code_of (codes "N_SO") ≡ Some 100
unfolding code_of
main_source_code = refl

-- 36 is a function, whose name carries a symbol and whose value moves with text
function_code : code_of (codes "N_FUN") ≡ Some 36
unfolding code_of
function_code = refl

function_symbol : carries_symbol 36 ≡ true
unfolding carries_symbol
function_symbol = refl

function_moves : segment_of 36 ≡ Text
unfolding segment_of
function_moves = refl

-- a line entry, 68, carries no symbol
line_symbol : carries_symbol 68 ≡ false
unfolding carries_symbol
line_symbol = refl

-- 34, a function of Fortran, is not in the table, and carries no symbol
fortran_code : code_name 34 ≡ None
unfolding code_name
fortran_code = refl

fortran_symbol : carries_symbol 34 ≡ false
unfolding carries_symbol
fortran_symbol = refl

-- a name in lower case and a name that only begins as one of the table are none
lower_case : code_of (codes "n_so") ≡ None
unfolding code_of
lower_case = refl

longer_name : code_of (codes "N_SOX") ≡ None
unfolding code_of
longer_name = refl

-- entries of data, 6 and with the external bit 7, and of bss, 8 and 9
data_moves : segment_of 6 ≡ Datum
unfolding segment_of
data_moves = refl

external_data_moves : segment_of 7 ≡ Datum
unfolding segment_of
external_data_moves = refl

bss_moves : segment_of 8 ≡ Bss
unfolding segment_of
bss_moves = refl

-- an absolute entry, 2, and a block's begin, 192, stay
absolute_stays : segment_of 2 ≡ Still
unfolding segment_of
absolute_stays = refl

block_stays : segment_of 192 ≡ Still
unfolding segment_of
block_stays = refl
