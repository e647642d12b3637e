-- Tables worked by hand from the description of a.out(5): which offsets give a name, and what the table of two names is.
use Rattle.std.proofs.Common.{◌≡◌, ℕ, true, false, List, [], ◌∷◌, Some, None, refl, arith, codes}
use Rattle.strtab.specs.StringTable.{HasOwnLength, name_in}
use Rattle.strtab.specs.Names.{table_of, offset_of, first_uses}

-- ---- a table of seven bytes whose only name has no zero byte

-- its word, least significant byte first, and `a.c`
abbrev without_end : List ℕ
without_end = 7 ∷ 0 ∷ 0 ∷ 0 ∷ 97 ∷ 46 ∷ 99 ∷ []

-- the word counts itself
without_end-length : HasOwnLength false without_end
without_end-length = record { word = omega arith; counts = refl }

-- in the other order the word is another number
without_end-other_order : HasOwnLength true without_end → ⊥
without_end-other_order wrong = absurd (omega (arith, wrong.counts))

-- no name is at 4, since no zero byte follows
without_end-name : name_in without_end 4 ≡ None
without_end-name = refl

-- ---- a table of the names `a.c` and `int`

-- the table in little order
abbrev two_names : List ℕ
two_names = 12 ∷ 0 ∷ 0 ∷ 0 ∷ 97 ∷ 46 ∷ 99 ∷ 0 ∷ 105 ∷ 110 ∷ 116 ∷ 0 ∷ []

-- it is the table of these names
two_names-little : table_of false (codes "a.c" ∷ codes "int" ∷ []) ≡ two_names
two_names-little = refl

-- in big order the word alone differs
two_names-big : table_of true (codes "a.c" ∷ codes "int" ∷ []) ≡ 0 ∷ 0 ∷ 0 ∷ 12 ∷ 97 ∷ 46 ∷ 99 ∷ 0 ∷ 105 ∷ 110 ∷ 116 ∷ 0 ∷ []
two_names-big = refl

-- a word that leaves its own four bytes out is wrong
two_names-short_word : HasOwnLength false (8 ∷ 0 ∷ 0 ∷ 0 ∷ 97 ∷ 46 ∷ 99 ∷ 0 ∷ 105 ∷ 110 ∷ 116 ∷ 0 ∷ []) → ⊥
two_names-short_word wrong = absurd (omega (arith, wrong.counts))

-- offset 0 is no name
two_names-none : name_in two_names 0 ≡ Some []
two_names-none = refl

-- no name begins inside the length word, though a zero byte follows
two_names-inside_first : name_in two_names 1 ≡ None
two_names-inside_first = refl

-- nor at its last byte
two_names-inside_last : name_in two_names 3 ≡ None
two_names-inside_last = refl

-- the first name is at 4
two_names-first : name_in two_names 4 ≡ Some (codes "a.c")
two_names-first = refl

-- the second is at 8, which is the offset that the definition gives it
two_names-second : name_in two_names 8 ≡ Some (codes "int")
two_names-second = refl

-- the offset of the second name
two_names-offset : offset_of (codes "a.c" ∷ codes "int" ∷ []) (codes "int") ≡ 8
two_names-offset = refl

-- the table ends at 12
two_names-past : name_in two_names 12 ≡ None
two_names-past = refl

-- ---- uses of names

-- an empty name takes no place, and a name that is used again stands once, at its first use
uses-once : first_uses (codes "int" ∷ [] ∷ codes "a.c" ∷ codes "int" ∷ []) ≡ codes "int" ∷ codes "a.c" ∷ []
uses-once = refl
