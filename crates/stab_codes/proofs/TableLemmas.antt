-- The look-ups of the table by code and by name are inverse to each other, and no code and no name stands in it twice.
use Rattle.std.proofs.Common.{◌≡◌, ◌≢◌, ◌⊎◌, inl, inr, ℕ, Bool, true, false, ◌==◌, nat_eq, List, [], ◌∷◌, Option, Some, None, refl, subst, ap, ◌∙◌, sym, map, rules}
use Rattle.std.specs.List.{AllByRecursion, AllPairs, IsDistinct, find}
use Rattle.std.specs.Option.{option_map}
use Rattle.std.specs.Str.{bytes_eq}
use Rattle.std.proofs.lemmas.Bool.Decides.{Decides-eqb}
use Rattle.std.proofs.lemmas.Slice.Eq.{bytes_eq-Decides}
use Rattle.std.proofs.lemmas.Map.Made.{AllPairs-from_IsDistinct}
use Rattle.stab_codes.specs.Table.{Row, table, row_of_code, row_of_name, code_name, code_of}

-- ---- a look-up in a list of rows

-- a test holds or fails
which : (test : Bool) → (test ≡ true) ⊎ (test ≡ false)
which true = inl refl
which false = inr refl

-- a row that is found passes the test, and has what each row has
find-found : (test : Row → Bool) (Has : Row → Type 0) (rows : List Row) (found : Row) → AllByRecursion Has rows → find test rows ≡ Some found → (test found ≡ true) × Has found
find-found test Has [] found each at = absurd cc
find-found test Has (row ∷ rows) found each at =
    elim (which (test row)) [
      | inl passes ↦
          let at_row : Some row ≡ Some found = rw passes at at in
          let same : row ≡ found = cc in
          subst (λ r. (test r ≡ true) × Has r) same (passes, each.0)
      | inr fails ↦ find-found test Has rows found each.1 (rw fails at at)
    ]

-- what is read off a row that was found was read off some row
found_row : {A : Type 0} (read : Row → A) (found : Option Row) (value : A) → option_map read found ≡ Some value → (row : Row) × (found ≡ Some row) × (read row ≡ value)
found_row read None value is_read = absurd cc
found_row read (Some row) value is_read = (row, refl, cc)

-- ---- the two look-ups

-- each row's code is found by its name
each_by_name : AllByRecursion (λ row. code_of row.name ≡ Some row.code) table
unfolding code_of
each_by_name = search rules

-- each row's name is found by its code
each_by_code : AllByRecursion (λ row. code_name row.code ≡ Some row.name) table
unfolding code_name
each_by_code = search rules

-- the name of a code leads back to it
pub code_of-code_name : (code : ℕ) (name : List ℕ) → code_name code ≡ Some name → code_of name ≡ Some code
unfolding code_name
code_of-code_name code name named =
    let found = found_row (λ row. row.name) (row_of_code code) name named in
    let about = find-found (λ row. row.code == code) (λ row. code_of row.name ≡ Some row.code) table found.0 each_by_name found.1 in
    let same = (Decides-eqb found.0.code code).0 about.0 in
    ap code_of (sym found.2) ∙ about.1 ∙ ap Some same

-- the code of a name leads back to it
pub code_name-code_of : (code : ℕ) (name : List ℕ) → code_of name ≡ Some code → code_name code ≡ Some name
unfolding code_of
code_name-code_of code name coded =
    let found = found_row (λ row. row.code) (row_of_name name) code coded in
    let about = find-found (λ row. bytes_eq name row.name) (λ row. code_name row.code ≡ Some row.name) table found.0 each_by_code found.1 in
    let same = (bytes_eq-Decides name found.0.name).0 about.0 in
    ap code_name (sym found.2) ∙ about.1 ∙ ap Some (sym same)

-- ---- no code and no name twice

-- no code is equal to one after it
codes_differ : IsDistinct nat_eq (map (λ row. row.code) table)
unfolding IsDistinct
codes_differ = search rules

-- no name is equal to one after it
names_differ : IsDistinct bytes_eq (map (λ row. row.name) table)
unfolding IsDistinct
names_differ = search rules

-- no two rows have one code
pub codes_apart : AllPairs (λ a b. a ≢ b) (map (λ row. row.code) table)
codes_apart = AllPairs-from_IsDistinct Decides-eqb _ codes_differ

-- no two rows have one name
pub names_apart : AllPairs (λ a b. a ≢ b) (map (λ row. row.name) table)
names_apart = AllPairs-from_IsDistinct bytes_eq-Decides _ names_differ
