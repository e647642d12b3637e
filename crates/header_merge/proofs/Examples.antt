-- Worked values, by hand after "The stabs debug format": units that include `x`, which includes `y`.
use Rattle.std.proofs.Common.{◌≡◌, ℕ, Bool, true, false, List, [], ◌∷◌, None, refl}
use Rattle.stab_codes.specs.declared.code.TheConstants.{N_SO, N_BINCL, N_EINCL, N_EXCL, N_LSYM, N_SLINE}
use Rattle.nlist_codec.specs.declared.named.Named.{Named}
use Rattle.bincl_match.specs.declared.range.Grouping.{Grouping}
use Rattle.unit_index.specs.Owners.{Row, index_fault, owners_of}
use Rattle.header_merge.specs.Merged.{merged}

-- an entry by its kind, its name and its value
abbrev en : ℕ → List ℕ → ℕ → Named
en kind name value = record { kind = kind; other = 0; desc = 0; value = value; name = name }

-- the names `a`, `b`, `x` and `y`, and the strings `i:t1` and `j:t2`
abbrev a : List ℕ
a = 97 ∷ []

abbrev b : List ℕ
b = 98 ∷ []

abbrev x : List ℕ
x = 120 ∷ []

abbrev y : List ℕ
y = 121 ∷ []

abbrev i : List ℕ
i = 105 ∷ 58 ∷ 116 ∷ 49 ∷ []

abbrev j : List ℕ
j = 106 ∷ 58 ∷ 116 ∷ 50 ∷ []

-- ---- a range that another unit has

-- `a` includes `x` and `y`; `b` includes `y`: for its range that of `a` is kept, with the instance 7
abbrev two_units : List Named
two_units =
    en N_SO a 0 ∷ en N_BINCL x 0 ∷ en N_LSYM i 0 ∷ en N_EINCL [] 0 ∷ en N_BINCL y 0 ∷ en N_LSYM j 0 ∷ en N_EINCL [] 0 ∷ en N_SLINE [] 4
    ∷ en N_SO b 8 ∷ en N_BINCL x 0 ∷ en N_LSYM j 0 ∷ en N_EINCL [] 0 ∷ en N_BINCL y 0 ∷ en N_LSYM j 0 ∷ en N_EINCL [] 0 ∷ en N_SLINE [] 8 ∷ []

abbrev second_kept : Grouping
second_kept = record { kept = 0 ∷ 1 ∷ 2 ∷ 1 ∷ []; instance = 5 ∷ 7 ∷ 6 ∷ 7 ∷ [] }

-- each N_BINCL has its instance, and the second range of `b` is an N_EXCL with that of the second of `a`
goes_once : merged second_kept two_units
    ≡ en N_SO a 0 ∷ en N_BINCL x 5 ∷ en N_LSYM i 0 ∷ en N_EINCL [] 0 ∷ en N_BINCL y 7 ∷ en N_LSYM j 0 ∷ en N_EINCL [] 0 ∷ en N_SLINE [] 4
    ∷ en N_SO b 8 ∷ en N_BINCL x 6 ∷ en N_LSYM j 0 ∷ en N_EINCL [] 0 ∷ en N_EXCL y 7 ∷ en N_SLINE [] 8 ∷ []
goes_once = refl

-- ---- a header inside another

-- `x` begins before `y`, which it includes, and goes on after it
abbrev nested : List Named
nested =
    en N_SO b 0 ∷ en N_BINCL x 0 ∷ en N_LSYM i 0 ∷ en N_BINCL y 0 ∷ en N_LSYM j 0 ∷ en N_SLINE [] 4 ∷ en N_EINCL [] 0 ∷ en N_LSYM i 0 ∷ en N_EINCL [] 0
    ∷ en N_SLINE [] 8 ∷ []

-- range 1 goes, for which range 0 is kept; range 2 is inside it, and stays
abbrev outer_goes : Grouping
outer_goes = record { kept = 0 ∷ 0 ∷ 2 ∷ []; instance = 5 ∷ 5 ∷ 6 ∷ [] }

-- the entries of `x` go, before `y` and after it, and its N_EINCL goes; those of `y` stay, a line entry among them
inner_stays : merged outer_goes (en N_SO a 0 ∷ en N_BINCL x 0 ∷ en N_EINCL [] 0 ∷ nested)
    ≡ en N_SO a 0 ∷ en N_BINCL x 5 ∷ en N_EINCL [] 0 ∷ en N_SO b 0 ∷ en N_EXCL x 5 ∷ en N_BINCL y 6 ∷ en N_LSYM j 0 ∷ en N_SLINE [] 4 ∷ en N_EINCL [] 0
    ∷ en N_SLINE [] 8 ∷ []
inner_stays = refl

-- range 1 is inside range 0, and goes, for which range 2 is kept
abbrev inner_goes : Grouping
inner_goes = record { kept = 0 ∷ 2 ∷ 2 ∷ []; instance = 5 ∷ 6 ∷ 6 ∷ [] }

-- a mark stays where the entries around it do
outer_stays : merged inner_goes nested
    ≡ en N_SO b 0 ∷ en N_BINCL x 5 ∷ en N_LSYM i 0 ∷ en N_EXCL y 6 ∷ en N_LSYM i 0 ∷ en N_EINCL [] 0 ∷ en N_SLINE [] 8 ∷ []
outer_stays = refl

-- ---- ends

-- an N_SO ends the ranges that are open, and stands in the innermost of them itself
unclosed : merged outer_goes (en N_SO a 0 ∷ en N_BINCL x 0 ∷ en N_SO b 0 ∷ en N_BINCL x 0 ∷ en N_LSYM i 0 ∷ en N_SO [] 9 ∷ en N_LSYM j 0 ∷ [])
    ≡ en N_SO a 0 ∷ en N_BINCL x 5 ∷ en N_SO b 0 ∷ en N_EXCL x 5 ∷ en N_LSYM j 0 ∷ []
unclosed = refl

-- what is no stab stays wherever it stands: here a text symbol inside a range that goes
no_stab : merged outer_goes (en N_BINCL x 0 ∷ en N_EINCL [] 0 ∷ en N_BINCL x 0 ∷ en 4 a 8 ∷ en N_LSYM i 0 ∷ en N_EINCL [] 0 ∷ [])
    ≡ en N_BINCL x 5 ∷ en N_EINCL [] 0 ∷ en N_EXCL x 5 ∷ en 4 a 8 ∷ []
no_stab = refl

-- past the last range of the grouping a header keeps its entries, and its mark has the value 0
past_all : merged (record { kept = []; instance = [] }) (en N_BINCL x 3 ∷ en N_LSYM i 0 ∷ en N_EINCL [] 0 ∷ [])
    ≡ en N_BINCL x 0 ∷ en N_LSYM i 0 ∷ en N_EINCL [] 0 ∷ []
past_all = refl

-- ---- the headers of an image

-- that of a unit and a file, with its mark
abbrev row : ℕ → ℕ → Bool → List ℕ → ℕ → Row
row unit file excluded name value = record { unit = unit; file = file; excluded = excluded; name = name; value = value; place = 0 }

-- those of the image of `a` and `b`
abbrev rows : List Row
rows = row 0 1 false x 5 ∷ row 0 2 false y 7 ∷ row 1 1 false x 6 ∷ row 1 2 true y 7 ∷ []

-- the second header of `b` stands for the second of `a`, and each other one for itself
owners : owners_of rows
    ≡ record { unit = 0; file = 1; owner_unit = 0; owner_file = 1 } ∷ record { unit = 0; file = 2; owner_unit = 0; owner_file = 2 }
    ∷ record { unit = 1; file = 1; owner_unit = 1; owner_file = 1 } ∷ record { unit = 1; file = 2; owner_unit = 0; owner_file = 2 } ∷ []
owners = refl

-- none has a fault
no_fault : index_fault rows ≡ None
no_fault = refl
