-- Words at places: what a place holds, and which word is wrong, where `wants` says which words a place wants. This is this project's own.
use Rattle.std.specs.Prelude.{ℕ, ◌+◌, Bool, ◌&&◌, if◌then◌else◌, List, [], ◌∷◌, Option, Some, None}
use Rattle.std.specs.Str.{is_utf8}

-- the word is UTF-8, as every word of a line is
abbrev pub is_text : List ℕ → Bool
is_text word = is_utf8 word

-- the place holds what it wants, and that is UTF-8
abbrev pub holds : {W : Type 0} → (W → List ℕ → Bool) → W → List ℕ → Bool
holds wants want word = is_text word && wants want word

-- where words stop to be what places want, `at` of them standing before: the first that does not hold it, the number of words
-- where one is missing, or the first one too many
abbrev pub wrong_from : {W : Type 0} → (W → List ℕ → Bool) → ℕ → List W → List (List ℕ) → Option ℕ
wrong_from wants at [] [] = None
wrong_from wants at [] (word ∷ words) = Some at
wrong_from wants at (want ∷ places) [] = Some at
wrong_from wants at (want ∷ places) (word ∷ words) = if holds wants want word then wrong_from wants (at + 1) places words else Some at

-- the wrong place of all words; none where they are what the places want
abbrev pub wrong_place : {W : Type 0} → (W → List ℕ → Bool) → List W → List (List ℕ) → Option ℕ
wrong_place wants places words = wrong_from wants 0 places words
