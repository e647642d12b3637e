-- Hexadecimal digits: the value of one of either case, and numbers as digits in lower case, the most significant first. That numbers
-- are printed so is this project's own.
use Rattle.std.specs.Prelude.{ℕ, ◌+◌, ◌-◌, ◌/◌, ◌%◌, nat_le, ◌&&◌, if◌then◌else◌, List, [], ◌∷◌, Option, Some, None}
use Rattle.st_base.specs.Shown.{hex_digit}

-- the value of a hexadecimal digit of either case; none for every other byte
abbrev pub digit_value : ℕ → Option ℕ
digit_value b =
    if nat_le 48 b && nat_le b 57 then Some (b - 48)
    else if nat_le 97 b && nat_le b 102 then Some (b - 97 + 10)
    else if nat_le 65 b && nat_le b 70 then Some (b - 65 + 10)
    else None

-- the digit of a number that is worth so much, a power of 16
abbrev pub digit_worth : ℕ → ℕ → ℕ
digit_worth worth number = hex_digit (number / worth % 16)

-- the two digits of a byte
unfoldable pub hex2 : ℕ → List ℕ
hex2 number = digit_worth 0x10 number ∷ digit_worth 1 number ∷ []

-- the four digits of a number below 2 to the 16
unfoldable pub hex4 : ℕ → List ℕ
hex4 number = digit_worth 0x1000 number ∷ digit_worth 0x100 number ∷ digit_worth 0x10 number ∷ digit_worth 1 number ∷ []

-- the eight digits of a number below 2 to the 32
unfoldable pub hex8 : ℕ → List ℕ
hex8 number =
    digit_worth 0x10000000 number ∷ digit_worth 0x1000000 number ∷ digit_worth 0x100000 number ∷ digit_worth 0x10000 number
    ∷ digit_worth 0x1000 number ∷ digit_worth 0x100 number ∷ digit_worth 0x10 number ∷ digit_worth 1 number ∷ []
