-- Words about names and lists of entries.
use Rattle.std.specs.Prelude.{ℕ, ◌-◌, ◌==◌, Bool, true, false, List, [], ◌∷◌, length, slice_get, Option, Some, None}

-- the entry that comes next, the first of those behind
abbrev pub next : {E : Type 0} → List E → Option E
next [] = None
next (e ∷ es) = Some e

-- the entries of the first list, nearest first, before those of the second
abbrev pub onto : {E : Type 0} → List E → List E → List E
onto [] back = back
onto (x ∷ xs) back = onto xs (x ∷ back)

-- a name has no bytes
abbrev pub is_empty : List ℕ → Bool
is_empty [] = true
is_empty (b ∷ name) = false

abbrev pub is_byte : ℕ → Option ℕ → Bool
is_byte byte None = false
is_byte byte (Some last) = last == byte

-- the last byte of a name is this
abbrev pub ends_in : ℕ → List ℕ → Bool
ends_in byte name = is_byte byte (slice_get name (length name - 1))

-- all items but the first
abbrev pub behind_first : {E : Type 0} → List E → List E
behind_first [] = []
behind_first (x ∷ xs) = xs
