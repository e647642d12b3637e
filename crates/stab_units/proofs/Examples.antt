-- Worked values, by hand after "The stabs debug format".
use Rattle.std.proofs.Common.{◌≡◌, ◌≢◌, inl, inr, arith, get_or, ℕ, List, [], ◌∷◌, refl, ap}
use Rattle.std.specs.Prelude.{map, ◌+◌, ◌==◌}
use Rattle.stab_codes.specs.Table.{carries_symbol}
use Rattle.stab_codes.specs.declared.code.TheConstants.{N_SO, N_BINCL, N_EINCL, N_EXCL, N_LBRAC, N_LSYM, N_SLINE}
use Rattle.st_base.specs.declared.fault.Fault.{Fault}
use Rattle.nlist_codec.specs.declared.named.Named.{Named}
use Rattle.unit_outlines.specs.Outlines.{units_of}
use Rattle.stab_units.specs.Units.{Stab, Filed, IsRead, HasFault, FaultAfter, stabs_from}
use Rattle.stab_units.specs.Forgetting.{forgotten}
use Rattle.stab_units.specs.Joining.{AreAlike}
use Rattle.stab_units.specs.Changing.{Change, changed, LocalsGo}
use Rattle.stab_units.specs.HeaderUnits.{header_units}
use Rattle.unit_outlines.proofs.Examples.{en}

-- the same as stabs of a unit: two, the second at 3; the line that no symbol belongs to keeps its name
two_stabs : stabs_from [] 1 (en N_LSYM (97 ∷ 92 ∷ []) 0 ∷ en N_LSYM (98 ∷ []) 0 ∷ en N_SLINE (99 ∷ []) 7 ∷ en N_SO [] 9 ∷ en N_SLINE [] 9 ∷ [])
    ≡ record { entry = en N_LSYM (97 ∷ 92 ∷ []) 0; place = 1; file = 0; string = 97 ∷ 98 ∷ [] }
    ∷ record { entry = en N_SLINE (99 ∷ []) 7; place = 3; file = 0; string = 99 ∷ [] } ∷ []
unfolding carries_symbol
two_stabs = refl

-- a stab of the main source with this string
abbrev st : ℕ → List ℕ → Stab
st kind string = record { entry = en kind string 0; place = 0; file = 0; string = string }

-- a string is parsed, a line has none to parse, and the next string has the fault: 5 steps, then 7
two_steps : (i j : Filed) (f : Fault) → IsRead (st N_LSYM (97 ∷ [])) i → IsRead (st N_SLINE []) j → HasFault (st N_LSYM (98 ∷ [])) f
    → FaultAfter (st N_LSYM (97 ∷ []) ∷ st N_SLINE [] ∷ st N_LSYM (98 ∷ []) ∷ st N_LSYM (99 ∷ []) ∷ []) f 5 7
unfolding carries_symbol
two_steps i j f first second fault = inr (i, first, inr (j, second, inl (fault, refl)))

-- a line has no fault
no_step : (f : Fault) (new : ℕ) → FaultAfter (st N_SLINE (98 ∷ []) ∷ []) f 5 new → ⊥
unfolding carries_symbol
no_step f new h = elim h [ inl a ↦ let none = a.0.to_spell in absurd cc | inr b ↦ absurd b.2 ]

-- `a` at 4 includes `b`, which one linker gives 7 and another 9: the same without them
same_but_header : map forgotten (en N_SO (97 ∷ []) 4 ∷ en N_BINCL (98 ∷ []) 7 ∷ en N_EXCL (99 ∷ []) 2 ∷ en N_EINCL [] 0 ∷ [])
    ≡ map forgotten (en N_SO (97 ∷ []) 4 ∷ en N_BINCL (98 ∷ []) 9 ∷ en N_EXCL (99 ∷ []) 2 ∷ en N_EINCL [] 0 ∷ [])
same_but_header = refl

-- without it an N_BINCL has 0; the start of a unit and what an N_EXCL says stay
kept_values : map forgotten (en N_SO (97 ∷ []) 4 ∷ en N_BINCL (98 ∷ []) 7 ∷ en N_EXCL (99 ∷ []) 2 ∷ [])
    ≡ en N_SO (97 ∷ []) 4 ∷ en N_BINCL (98 ∷ []) 0 ∷ en N_EXCL (99 ∷ []) 2 ∷ []
kept_values = refl

-- units that start at 4 and at 5 differ without it too
other_start : forgotten (en N_SO (97 ∷ []) 4) ≢ forgotten (en N_SO (97 ∷ []) 5)
other_start e = let starts : Path ℕ 4 5 = ap (λ (z : Named). z.value) e in cc

-- a stab with another value, and an undefined name (1) that a linker finds in text (5)
moved : AreAlike (en N_SO (102 ∷ []) 0 ∷ en 1 (97 ∷ []) 0 ∷ []) (en N_SO (102 ∷ []) 64 ∷ en 5 (97 ∷ []) 72 ∷ [])
moved = (inl (record { stab = refl; kind = refl; name = refl }), (inr (record { first = refl; second = refl }), tt))

-- a stab with another name is another stab
renamed : AreAlike (en N_SO (102 ∷ []) 0 ∷ []) (en N_SO (103 ∷ []) 0 ∷ []) → ⊥
renamed alike = elim alike.0 [ inl stabs ↦ let same : 102 ≡ 103 = ap (λ name. get_or name 0 0) stabs.name in omega (arith, same) | inr none ↦ let first = none.first in absurd cc ]

-- `p` and `q` are headers of `a`, each with a symbol; the range of `p` is taken out
abbrev first_goes : Change
first_goes = record { kept = λ place. place == 1; value = λ place. place + 7 }

taken_out : changed first_goes (en N_SO (97 ∷ []) 0 ∷ en N_BINCL (112 ∷ []) 0 ∷ en N_LSYM (49 ∷ []) 3 ∷ en N_EINCL [] 0 ∷ en N_BINCL (113 ∷ []) 0 ∷ en N_LSYM (50 ∷ []) 4 ∷ en N_EINCL [] 0 ∷ [])
    ≡ en N_SO (97 ∷ []) 0 ∷ en N_EXCL (112 ∷ []) 7 ∷ en N_BINCL (113 ∷ []) 8 ∷ en N_LSYM (50 ∷ []) 4 ∷ en N_EINCL [] 0 ∷ []
taken_out = refl

-- `q` inside of `p` keeps its entries where those of `p` go; what is no stab (5) stays
nested : changed first_goes (en N_SO (97 ∷ []) 0 ∷ en N_BINCL (112 ∷ []) 0 ∷ en N_LSYM (49 ∷ []) 3 ∷ en N_BINCL (113 ∷ []) 0 ∷ en N_LSYM (50 ∷ []) 4 ∷ en N_EINCL [] 0 ∷ en N_LSYM (51 ∷ []) 5 ∷ en 5 (120 ∷ []) 9 ∷ en N_EINCL [] 0 ∷ en N_SLINE [] 6 ∷ [])
    ≡ en N_SO (97 ∷ []) 0 ∷ en N_EXCL (112 ∷ []) 7 ∷ en N_BINCL (113 ∷ []) 8 ∷ en N_LSYM (50 ∷ []) 4 ∷ en N_EINCL [] 0 ∷ en 5 (120 ∷ []) 9 ∷ en N_SLINE [] 6 ∷ []
nested = refl

-- an excluded header stays one, and is the first here; the range of `p`, the second, stays
still_excluded : changed first_goes (en N_SO (97 ∷ []) 0 ∷ en N_EXCL (113 ∷ []) 2 ∷ en N_BINCL (112 ∷ []) 0 ∷ en N_EINCL [] 0 ∷ [])
    ≡ en N_SO (97 ∷ []) 0 ∷ en N_EXCL (113 ∷ []) 7 ∷ en N_BINCL (112 ∷ []) 8 ∷ en N_EINCL [] 0 ∷ []
still_excluded = refl

-- of the range of `p` an N_LSYM goes
local_goes : let entries : List Named = en N_SO (97 ∷ []) 0 ∷ en N_BINCL (112 ∷ []) 0 ∷ en N_LSYM (49 ∷ []) 3 ∷ en N_EINCL [] 0 ∷ [] in LocalsGo first_goes entries 0 (units_of 20 entries)
unfolding carries_symbol
local_goes = ((λ gone. refl, tt), tt)

-- and if there is a bracket in it, that would go too, so the list is none of those that the law is about
bracket_goes : let entries : List Named = en N_SO (97 ∷ []) 0 ∷ en N_BINCL (112 ∷ []) 0 ∷ en N_LBRAC [] 3 ∷ en N_EINCL [] 0 ∷ [] in LocalsGo first_goes entries 0 (units_of 20 entries) → ⊥
unfolding carries_symbol
bracket_goes locals = let kind : N_LBRAC ≡ N_LSYM = locals.0.0 refl in omega (arith, kind)

-- `a` includes `b`, which has the local `i`; after it `d/` is a unit without headers, of which nothing is seen
with_header : header_units 20 (en N_SO (97 ∷ []) 0 ∷ en N_BINCL (98 ∷ []) 1 ∷ en N_LSYM (105 ∷ []) 2 ∷ en N_EINCL [] 0 ∷ en N_SO (100 ∷ 47 ∷ []) 8 ∷ [])
    ≡ record { headers = (98 ∷ []) ∷ []; stabs = record { kind = N_LSYM; file = 1; string = 105 ∷ [] } ∷ [] } ∷ []
unfolding carries_symbol
with_header = refl

-- and `d/` is the directory of `c` where that comes next, of which nothing is seen either
with_directory : header_units 20 (en N_SO (97 ∷ []) 0 ∷ en N_EXCL (98 ∷ []) 1 ∷ en N_SO (100 ∷ 47 ∷ []) 8 ∷ en N_SO (99 ∷ []) 8 ∷ [])
    ≡ record { headers = (98 ∷ []) ∷ []; stabs = [] } ∷ []
with_directory = refl
