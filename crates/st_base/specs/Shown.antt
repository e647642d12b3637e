-- The shown form of a text: how names, type strings and other bytes of an input stand in what is printed,
-- so that a line holds no blank and no control byte that is not its own. It is this project's own.
use Rattle.std.specs.Prelude.{ℕ, ◌+◌, ◌/◌, ◌%◌, List, [], ◌∷◌, ◌++◌, flat_map, codes, Bool, nat_lt, nat_le, ◌&&◌, not, ◌==◌, if◌then◌else◌}
use Rattle.std.specs.Str.{bytes_eq}

-- a hexadecimal digit, in lower case
abbrev pub hex_digit : ℕ → ℕ
hex_digit n = if nat_lt n 10 then 48 + n else 87 + n

-- from `!` to `~`, and no backslash
abbrev pub is_plain : ℕ → Bool
is_plain b = nat_le 33 b && nat_le b 126 && not (b == 92)

-- `\x` and two digits
abbrev pub escaped : ℕ → List ℕ
escaped b = codes "\\x" ++ hex_digit (b / 16) ∷ hex_digit (b % 16) ∷ []

abbrev pub shown_byte : ℕ → List ℕ
shown_byte b = if is_plain b then b ∷ [] else escaped b

-- an empty text is `-`, and the text `-` is escaped, so that the two differ
abbrev pub shown : List ℕ → List ℕ
shown [] = codes "-"
shown (b ∷ bytes) = if bytes_eq (b ∷ bytes) (codes "-") then escaped b else flat_map shown_byte (b ∷ bytes)
