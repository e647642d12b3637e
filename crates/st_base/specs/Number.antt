-- The number that a field's bytes spell in either byte order. After a.out(5), whose words are in the machine's order.
use Rattle.std.specs.Prelude.{ℕ, zero, suc, ◌+◌, ◌*◌, ◌<◌, nat_le, Bool, true, false, if◌then◌else◌, List, [], ◌∷◌, ◌++◌, length, take, drop, Option, Some, None}
use Rattle.std.specs.Int.{byte_at}

-- the most significant byte first, after a number that stands before them
abbrev pub big_after : ℕ → List ℕ → ℕ
big_after before [] = before
big_after before (b ∷ bytes) = big_after (256 * before + b) bytes

-- the most significant byte last
abbrev pub little : List ℕ → ℕ
little [] = 0
little (b ∷ bytes) = b + 256 * little bytes

-- the number of these bytes, the most significant first where `big` holds
abbrev pub number : Bool → List ℕ → ℕ
number true bytes = big_after 0 bytes
number false bytes = little bytes

-- the number of the `size` bytes at a place
abbrev pub number_at : Bool → List ℕ → ℕ → ℕ → ℕ
number_at big bytes at size = number big (take size (drop at bytes))

-- the number of the first four bytes, where there are four
abbrev pub first_word : Bool → List ℕ → Option ℕ
first_word big bytes = if nat_le 4 (length bytes) then Some (number_at big bytes 0 4) else None

-- each item is a byte
abbrev pub IsBytes : List ℕ → Type 0
IsBytes [] = Unit {0}
IsBytes (b ∷ bytes) = (b < 256) × IsBytes bytes

-- the bytes of a number with `before` of its bytes before them and `behind` bytes to come: byte k of the number is
-- worth 256 ^ k, and as many bytes of less worth stand after it where `big` holds, else before it
abbrev pub bytes_from : Bool → ℕ → ℕ → ℕ → List ℕ
bytes_from big before zero value = []
bytes_from big before (suc behind) value =
    byte_at (if big then behind else before) value ∷ bytes_from big (suc before) behind value

-- a number in so many bytes, the most significant first where `big` holds
abbrev pub bytes_of : Bool → ℕ → ℕ → List ℕ
bytes_of big size value = bytes_from big 0 size value

-- a record with the number set in the `size` bytes at a place
abbrev pub with_number_at : Bool → List ℕ → ℕ → ℕ → ℕ → List ℕ
with_number_at big bytes at size value = take at bytes ++ (bytes_of big size value ++ drop (at + size) bytes)
