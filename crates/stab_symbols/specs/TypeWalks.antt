-- The numbers in a type, from left to right as they are printed; and what it is that a visitor goes over items in order, until it
-- stops at one. Both are this project's own.
use Rattle.std.specs.Prelude.{◌≡◌, ◌⊎◌, Bool, true, false, List, [], ◌∷◌, ◌++◌, flat_map, Result, Ok, Err}
use Rattle.stab_symbols.specs.declared.tree.Num.{Num}
use Rattle.stab_symbols.specs.declared.tree.Field.{Field}
use Rattle.stab_symbols.specs.declared.tree.TypeTree.{TypeTree}
use Rattle.stab_symbols.specs.declared.tree.TypeTree.TheOpen.{TypeTree-F, Field-F}
use Rattle.stab_symbols.specs.declared.tree.TypeTree.TheFolds.{fold-TypeTree, fold-Field}

-- ---- the numbers in a type

-- as they are
abbrev pub all_of_them : List Num → List Num
all_of_them numbers = numbers

-- those after the `=` of a number, if these are entered
abbrev pub behind : Bool → List Num → List Num
behind true numbers = numbers
behind false numbers = []

-- those of a field are those of its type
abbrev pub field_numbers : Field-F (List Num) (List Num) → List Num
field_numbers f = f.tree

-- one level of a type, from the numbers of the types and fields inside
abbrev pub numbers_step : Bool → TypeTree-F (List Num) (List Num) → List Num
numbers_step entered (TypeTree-F.Ref n) = n ∷ []
numbers_step entered (TypeTree-F.Def n t) = n ∷ behind entered t
numbers_step entered (TypeTree-F.Pointer t) = t
numbers_step entered (TypeTree-F.Function t) = t
numbers_step entered (TypeTree-F.Const t) = t
numbers_step entered (TypeTree-F.Volatile t) = t
numbers_step entered (TypeTree-F.Range t low high) = t
numbers_step entered (TypeTree-F.Array i low high t) = i ++ t
numbers_step entered (TypeTree-F.Struct size fields) = flat_map all_of_them fields
numbers_step entered (TypeTree-F.Union size fields) = flat_map all_of_them fields
numbers_step entered (TypeTree-F.Enum choices) = []
numbers_step entered (TypeTree-F.Cross tag name) = []
numbers_step entered (TypeTree-F.Sized bits t) = t
numbers_step entered (TypeTree-F.Builtin n) = []
numbers_step entered (TypeTree-F.Real a b c) = []

-- the numbers in a type from left to right, those after an `=` only where they are entered
abbrev pub numbers_in : Bool → TypeTree → List Num
numbers_in entered = fold-TypeTree (List Num) (List Num) (numbers_step entered) field_numbers

-- and in a field
abbrev pub numbers_in_field : Bool → Field → List Num
numbers_in_field entered = fold-Field (List Num) (List Num) (numbers_step entered) field_numbers

-- all numbers in a type
abbrev pub all_numbers : TypeTree → List Num
all_numbers = numbers_in true

-- those on its surface: without going into the definition of a number
abbrev pub surface_numbers : TypeTree → List Num
surface_numbers = numbers_in false

-- ---- items that are visited in order

-- from its state `old` a visitor went over the items in order to `new`: at each it went on, or it stopped at one with `Err`, and
-- those that follow were not visited
abbrev pub Visited : {V T E : Type 0} → (V → T → V → Result (Unit {0}) E → Type 0) → V → List T → V → Result (Unit {0}) E → Type 0
Visited visits old [] new result = (new ≡ old) × (result ≡ Ok tt)
Visited {V} {T} {E} visits old (x ∷ xs) new result =
    ((mid : V) × visits old x mid (Ok tt) × Visited visits mid xs new result) ⊎ ((e : E) × (result ≡ Err e) × visits old x new result)
