-- Worked values, by hand after "The stabs debug format".
use Rattle.std.proofs.Common.{◌≡◌, ℕ, Some, None, List, [], ◌∷◌, refl, ap, sym, ◌∙◌}
use Rattle.st_base.specs.declared.fault.TheConstants.{NO_HEADER, AMBIGUOUS}
use Rattle.st_base.specs.Faults.{fault_at}
use Rattle.stab_codes.specs.declared.code.TheConstants.{N_SO, N_BINCL, N_EINCL, N_EXCL}
use Rattle.nlist_codec.specs.declared.named.Named.{Named}
use Rattle.stab_symbols.specs.declared.tree.Num.TheVariants.{Pair}
use Rattle.stab_symbols.specs.declared.tree.Field.{Field, roll-Field}
use Rattle.stab_symbols.specs.declared.tree.Descriptor.TheVariants as descriptors
use Rattle.stab_symbols.specs.declared.tree.Symbol.{Symbol}
use Rattle.stab_symbols.specs.declared.tree.TypeTree.{TypeTree}
use Rattle.stab_symbols.specs.declared.tree.TypeTree.TheVariants.{Ref, rolls-Ref}
use Rattle.stab_symbols.specs.declared.tree.TypeTree.TheOpen.{TypeTree-F}
use Rattle.stab_symbols.specs.declared.tree.TypeTree.TheFolds.{fold-roll-TypeTree}
use Rattle.stab_symbols.specs.Files.{with_step, tree_with, with_files}
use Rattle.stab_units.specs.declared.unit.HeaderFile.{HeaderFile}
use Rattle.stab_units.specs.declared.unit.Unit.{Unit}
use Rattle.unit_outlines.specs.Outlines.{units_of}
use Rattle.unit_index.specs.declared.owner.Owner.{Owner}
use Rattle.unit_index.specs.Owners.{rows_of, owners_of, index_fault, new_number}
use Rattle.unit_index.specs.Expanding.{expanded}

-- an entry by its kind, its name and its value
abbrev en : ℕ → List ℕ → ℕ → Named
en kind name value = record { kind = kind; other = 0; desc = 0; value = value; name = name }

abbrev own : ℕ → ℕ → ℕ → ℕ → Owner
own unit file owner_unit owner_file = record { unit = unit; file = file; owner_unit = owner_unit; owner_file = owner_file }

-- `a` includes `h` with 7 and `x` with 0; `b` includes `g` with 3, and then these
abbrev image : List Named → List Named
image more = en N_SO (97 ∷ []) 0 ∷ en N_BINCL (104 ∷ []) 7 ∷ en N_EINCL [] 0 ∷ en N_BINCL (120 ∷ []) 0 ∷ en N_EINCL [] 0
    ∷ en N_SO (98 ∷ []) 16 ∷ en N_BINCL (103 ∷ []) 3 ∷ en N_EINCL [] 0 ∷ more

abbrev owners : List Owner
owners = own 0 1 0 1 ∷ own 0 2 0 2 ∷ own 1 1 1 1 ∷ own 1 2 0 1 ∷ []

-- in `b` the N_EXCL of `h` with 7 stands for the header 1 of `a`
owned : owners_of (rows_of (units_of 32 (image (en N_EXCL (104 ∷ []) 7 ∷ [])))) ≡ owners
owned = refl

no_fault : index_fault (rows_of (units_of 32 (image (en N_EXCL (104 ∷ []) 7 ∷ [])))) ≡ None
no_fault = refl

-- so header 1 of `a` is header 2 of `b`, and 0 stays
carried : new_number owners 0 1 1 ≡ 2
carried = refl

main_source : new_number owners 0 1 0 ≡ 0
main_source = refl

-- `b` does not include `x`, header 2 of `a`, and `a` has no header 3
not_included : new_number owners 0 1 2 ≡ 65536
not_included = refl

no_header : new_number owners 0 1 3 ≡ 65536
no_header = refl

-- where `b` includes `h` twice, its number in `b` is none
two_numbers : new_number (own 0 1 0 1 ∷ own 0 2 0 2 ∷ own 1 1 1 1 ∷ own 1 2 0 1 ∷ own 1 3 0 1 ∷ []) 0 1 1 ≡ 65536
two_numbers = refl

-- of `h` there is none with 8; the N_EXCL is entry 8
other_value : index_fault (rows_of (units_of 32 (image (en N_EXCL (104 ∷ []) 8 ∷ [])))) ≡ Some (fault_at NO_HEADER 8)
other_value = refl

-- an N_EXCL stands for no N_EXCL: that of entry 8 is the first with a fault
no_opener : index_fault (rows_of (units_of 32 (image (en N_EXCL (121 ∷ []) 0 ∷ en N_EXCL (121 ∷ []) 0 ∷ [])))) ≡ Some (fault_at NO_HEADER 8)
no_opener = refl

-- two N_BINCL of `h` with 7: the N_EXCL is entry 10
two_openers : index_fault (rows_of (units_of 32 (image (en N_BINCL (104 ∷ []) 7 ∷ en N_EINCL [] 0 ∷ en N_EXCL (104 ∷ []) 7 ∷ [])))) ≡ Some (fault_at AMBIGUOUS 10)
two_openers = refl

-- and without an N_EXCL that is like them they are no fault
no_excluded : index_fault (rows_of (units_of 32 (image (en N_BINCL (104 ∷ []) 7 ∷ en N_EINCL [] 0 ∷ [])))) ≡ None
no_excluded = refl

-- ---- units, expanded

abbrev unit : List ℕ → ℕ → ℕ → List HeaderFile → Unit
unit name start end files = record { name = name; start = start; end = end; files = files; body = [] }

abbrev file : List ℕ → List Symbol → HeaderFile
file name symbols = record { name = name; symbols = symbols }

-- `t:t(file,4)`
abbrev named : ℕ → Symbol
named number = record { name = 116 ∷ []; descriptor = descriptors.Typedef; tree = Ref (Pair number 4) }

-- `a`, of which `h` names a type, and `b`, in which these are the symbols of `h`
abbrev units : List Symbol → List Unit
units symbols = unit (97 ∷ []) 0 16 (file (97 ∷ []) [] ∷ file (104 ∷ []) (named 1 ∷ []) ∷ file (120 ∷ []) [] ∷ [])
    ∷ unit (98 ∷ []) 16 32 (file (98 ∷ []) [] ∷ file (103 ∷ []) [] ∷ file (104 ∷ []) symbols ∷ []) ∷ []

changed : (change : ℕ → ℕ) → with_files change (named 1) ≡ named (change 1)
changed change = ap (λ (tree : TypeTree). record { name = 116 ∷ []; descriptor = descriptors.Typedef; tree = tree })
    (ap (tree_with change) (sym (rolls-Ref (Pair 1 4))) ∙ fold-roll-TypeTree TypeTree Field (with_step change) roll-Field (TypeTree-F.Ref (Pair 1 4)))

-- in `b` the type is of file 2, as `h` is; nothing else changes
filled : expanded (units_of 32 (image (en N_EXCL (104 ∷ []) 7 ∷ []))) (units []) ≡ units (named 2 ∷ [])
filled = ap (λ (symbol : Symbol). units (symbol ∷ [])) (changed (new_number owners 0 1))
