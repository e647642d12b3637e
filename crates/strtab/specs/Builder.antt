-- What a table that is being built keeps: a map from each name to its offset, and the table's bytes, whose length word is still
-- to be written.
use Rattle.std.specs.Prelude.{◌≡◌, ℕ, ◌+◌, ◌≤◌, List, [], ◌∷◌, ◌++◌, length, map, Option, Some, None, Vec, bytes_eq}
use Rattle.std.specs.Map.{lookup}
use Rattle.st_base.specs.declared.sizes.TheConstants.{FILE_LIMIT}
use Rattle.strtab.specs.Names.{spelled, AreNames}

-- the names of a map's entries, in order
abbrev pub names_in : {A : Type 0} → List (Vec ℕ A × ℕ) → List (List ℕ)
names_in entries = map (λ e. e.0.items) entries

-- the offsets of names that stand one after the other, the first at `at`
abbrev pub offsets_from : ℕ → List (List ℕ) → List ℕ
offsets_from at [] = []
offsets_from at (name ∷ names) = at ∷ offsets_from (at + (length name + 1)) names

-- the bytes are those of the entries' names after four bytes, and each name has its offset
pub record IsIndexed {A : Type 0} (entries : List (Vec ℕ A × ℕ)) (bytes : List ℕ) : Type 0 where
  pub spells : bytes ≡ (0 ∷ 0 ∷ 0 ∷ 0 ∷ []) ++ spelled (names_in entries)
  pub offsets : map (λ e. e.1) entries ≡ offsets_from 4 (names_in entries)
  pub within : length bytes ≤ FILE_LIMIT
  pub names : AreNames (names_in entries)

-- the offset of a name that a map has
abbrev pub found_in : {A : Type 0} → List (Vec ℕ A × ℕ) → List ℕ → Option ℕ
found_in entries name = lookup (λ key. bytes_eq name key.items) entries

-- a name is used: where it has an offset, that is the answer and nothing changes; a new one goes last, and its bytes go to the
-- table's end, within the limit
abbrev pub IsPlaced : {A : Type 0} → Option ℕ → Vec ℕ A → List (Vec ℕ A × ℕ) → List (Vec ℕ A × ℕ) → List ℕ → List ℕ → ℕ → Type 0
IsPlaced (Some at) name old new before after strx = (strx ≡ at) × (new ≡ old) × (after ≡ before)
IsPlaced None name old new before after strx =
    (strx ≡ length before) × (new ≡ old ++ (name, strx) ∷ []) × (after ≡ before ++ (name.items ++ 0 ∷ [])) × (length after ≤ FILE_LIMIT)
