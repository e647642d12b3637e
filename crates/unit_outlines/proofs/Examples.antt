-- Worked values, by hand after "The stabs debug format".
use Rattle.std.proofs.Common.{◌≡◌, ◌≢◌, ℕ, Some, None, true, false, List, [], ◌∷◌, refl}
use Rattle.std.specs.Prelude.{◌++◌}
use Rattle.st_base.specs.declared.fault.TheConstants.{NO_UNIT, BRACKETS, EXCLUDED}
use Rattle.st_base.specs.Faults.{fault_at}
use Rattle.stab_codes.specs.Table.{carries_symbol}
use Rattle.stab_codes.specs.declared.code.TheConstants.{N_SO, N_BINCL, N_EINCL, N_EXCL, N_LBRAC, N_LSYM}
use Rattle.nlist_codec.specs.declared.named.Named.{Named}
use Rattle.unit_outlines.specs.declared.outline_types.Marks.TheVariants.{Object, Image}
use Rattle.unit_outlines.specs.Firsts.{first_told}
use Rattle.unit_outlines.specs.Nests.{in_headers, closing}
use Rattle.unit_outlines.specs.Runs.{joined}
use Rattle.unit_outlines.specs.Marks.{file_in, range_in}
use Rattle.unit_outlines.specs.Outlines.{units_of, outline_tell}

-- an entry by its kind, its name and its value
abbrev pub en : ℕ → List ℕ → ℕ → Named
en kind name value = record { kind = kind; other = 0; desc = 0; value = value; name = name }

-- `d/` and `f` at 5, then `e/` and `g` at 9, which ends at 12: the next unit's start ends the first
two_units : units_of 20 (en N_SO (100 ∷ 47 ∷ []) 5 ∷ en N_SO (102 ∷ []) 5 ∷ en N_SO (101 ∷ 47 ∷ []) 9 ∷ en N_SO (103 ∷ []) 9 ∷ en N_SO [] 12 ∷ [])
    ≡ record { name = 100 ∷ 47 ∷ 102 ∷ []; start = 5; end = 9; first = 1; past = 2; headers = [] }
    ∷ record { name = 101 ∷ 47 ∷ 103 ∷ []; start = 9; end = 12; first = 3; past = 5; headers = [] } ∷ []
two_units = refl

-- `x/` before an end mark is no directory mark: it is a unit, and the end mark ends it
no_directory : units_of 20 (en N_SO (120 ∷ 47 ∷ []) 4 ∷ en N_SO [] 8 ∷ [])
    ≡ record { name = 120 ∷ 47 ∷ []; start = 4; end = 8; first = 0; past = 2; headers = [] } ∷ []
no_directory = refl

-- `a` includes `b`, and `b` the excluded `c`: the range of `b` holds it, and text ends the unit
headers : units_of 20 (en N_SO (97 ∷ []) 0 ∷ en N_BINCL (98 ∷ []) 1 ∷ en N_EXCL (99 ∷ []) 2 ∷ en N_EINCL [] 0 ∷ [])
    ≡ record {
      name = 97 ∷ [];
      start = 0;
      end = 20;
      first = 0;
      past = 4;
      headers = record { name = 98 ∷ []; first = 1; past = 4; excluded = false; value = 1 } ∷ record { name = 99 ∷ []; first = 2; past = 3; excluded = true; value = 2 } ∷ [];
    } ∷ []
headers = refl

-- of two nested ranges the first N_EINCL closes the inner one
inner_first : closing in_headers (en N_BINCL [] 0 ∷ en N_EINCL [] 0 ∷ en N_EINCL [] 0 ∷ []) 0 ≡ Some 3
inner_first = refl

-- and with one N_EINCL alone nothing closes the outer one
outer_open : closing in_headers (en N_BINCL [] 0 ∷ en N_EINCL [] 0 ∷ []) 0 ≢ Some 2
outer_open e = cc

-- behind `a`, which includes `b` and `c`, `c` being closed: the file is 1; nearest first
in_outer : file_in (en N_EINCL [] 0 ∷ en N_BINCL (99 ∷ []) 0 ∷ en N_BINCL (98 ∷ []) 0 ∷ en N_SO (97 ∷ []) 0 ∷ []) 0 ≡ 1
in_outer = refl

-- an excluded header has a number and no entries: the file behind it is that before it
past_excluded : file_in (en N_BINCL (99 ∷ []) 0 ∷ en N_EXCL (98 ∷ []) 0 ∷ en N_SO (97 ∷ []) 0 ∷ []) 0 ≡ 2
past_excluded = refl

-- an open bracket at 1 comes before a string at 2 that does not go on, though it is known at the unit's end alone
first_open : first_told (outline_tell Object) [] 0 (en N_SO (102 ∷ []) 0 ∷ en N_LBRAC [] 0 ∷ en N_LSYM (92 ∷ []) 0 ∷ []) ≡ Some (fault_at BRACKETS 1)
unfolding carries_symbol
first_open = refl

-- outside a unit the stab itself is the fault, though its string does not go on either
first_number : first_told (outline_tell Object) [] 0 (en N_LSYM (92 ∷ []) 0 ∷ []) ≡ Some (fault_at NO_UNIT 0)
unfolding carries_symbol
first_number = refl

-- an excluded header is a fault in an object, and none in an image
in_object : first_told (outline_tell Object) [] 0 (en N_SO (102 ∷ []) 0 ∷ en N_EXCL (98 ∷ []) 0 ∷ []) ≡ Some (fault_at EXCLUDED 1)
unfolding carries_symbol
in_object = refl

in_image : first_told (outline_tell Image) [] 0 (en N_SO (102 ∷ []) 0 ∷ en N_EXCL (98 ∷ []) 0 ∷ []) ≡ None
unfolding carries_symbol
in_image = refl

-- `a\` and `b` of one kind are one string, and the next kind has its own
one_string : joined (en N_LSYM (97 ∷ 92 ∷ []) 0 ∷ en N_LSYM (98 ∷ []) 0 ∷ en N_LSYM (99 ∷ []) 0 ∷ []) ≡ 97 ∷ 98 ∷ []
unfolding carries_symbol
one_string = refl

-- `x/` alone is a unit from 4 to the end of text
mark_alone : units_of 8 (en N_SO (120 ∷ 47 ∷ []) 4 ∷ []) ≡ record { name = 120 ∷ 47 ∷ []; start = 4; end = 8; first = 0; past = 1; headers = [] } ∷ []
mark_alone = refl

-- before a list that begins with `f` at 8 it names the directory of `f`: of two units there is one
mark_joined : units_of 20 ((en N_SO (120 ∷ 47 ∷ []) 4 ∷ []) ++ en N_SO (102 ∷ []) 8 ∷ [])
    ≡ record { name = 120 ∷ 47 ∷ 102 ∷ []; start = 8; end = 20; first = 1; past = 2; headers = [] } ∷ []
mark_joined = refl

-- neither list has a fault, and one behind the other has none
none_joined : first_told (outline_tell Object) [] 0 ((en N_SO (120 ∷ 47 ∷ []) 4 ∷ []) ++ en N_SO (102 ∷ []) 8 ∷ []) ≡ None
unfolding carries_symbol
none_joined = refl

-- behind the N_BINCL of `q` inside of `p` the range is that of `q`, the second header; behind its N_EINCL it is that of `p`
in_inner : range_in (en N_BINCL (113 ∷ []) 0 ∷ en N_BINCL (112 ∷ []) 0 ∷ en N_SO (97 ∷ []) 0 ∷ []) 0 ≡ Some 1
in_inner = refl

back_in_outer : range_in (en N_EINCL [] 0 ∷ en N_BINCL (113 ∷ []) 0 ∷ en N_BINCL (112 ∷ []) 0 ∷ en N_SO (97 ∷ []) 0 ∷ []) 0 ≡ Some 0
back_in_outer = refl

-- headers are counted through all units: that of the second unit has the place 1
in_second_unit : range_in (en N_BINCL (113 ∷ []) 0 ∷ en N_SO (98 ∷ []) 0 ∷ en N_EINCL [] 0 ∷ en N_BINCL (112 ∷ []) 0 ∷ en N_SO (97 ∷ []) 0 ∷ []) 0 ≡ Some 1
in_second_unit = refl
