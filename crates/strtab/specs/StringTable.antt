-- The string table of an a.out file: a word of four bytes that gives the table's length and counts itself, and then names, each
-- ended by a zero byte. An entry names itself by an offset into the table, counted from the word on; offset 0 is no name.
-- After a.out(5).
use Rattle.std.specs.Prelude.{◌≡◌, ℕ, ◌≤◌, Bool, ◌&&◌, ◌==◌, nat_lt, nat_le, if◌then◌else◌, List, [], length, take, drop, position, Option, Some, None, option_map}
use Rattle.st_base.specs.Number.{number_at}

-- the table begins with its own length
pub record HasOwnLength (big : Bool) (table : List ℕ) : Type 0 where
  pub word : 4 ≤ length table
  pub counts : number_at big table 0 4 ≡ length table

-- the byte that ends a name
abbrev pub is_zero : ℕ → Bool
is_zero b = b == 0

-- there is no zero byte among these
abbrev pub HasNoZero : List ℕ → Type 0
HasNoZero bytes = position is_zero bytes ≡ None

-- the bytes before the first zero byte, where there is one
abbrev pub before_zero : List ℕ → Option (List ℕ)
before_zero bytes = option_map (λ at. take at bytes) (position is_zero bytes)

-- the name at an offset, without its zero byte: empty at 0, none inside the length word, past the table, and where no zero byte follows
abbrev pub name_in : List ℕ → ℕ → Option (List ℕ)
name_in table strx =
    if strx == 0 then Some []
    else (if nat_le 4 strx && nat_lt strx (length table) then before_zero (drop strx table) else None)
