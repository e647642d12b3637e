-- The smallest readers: decimal numbers, names, and runs of bytes of one kind. This project's own.
use Rattle.std.specs.Prelude.{ℕ, zero, suc, ◌+◌, ◌-◌, ◌*◌, List, [], ◌∷◌, length, Ok, Err, Bool, nat_le, not, ◌==◌, ◌||◌, ◌&&◌, if◌then◌else◌}
use Rattle.readers.specs.declared.stop.Stop.TheVariants.{Bad, End}
use Rattle.readers.specs.Spelling.{all_of}
use Rattle.readers.specs.Readers.{Reader, ◌>>=◌}

-- `0` to `9`
abbrev pub is_digit : ℕ → Bool
is_digit b = nat_le 48 b && nat_le b 57

-- ---- numbers

-- a number v goes on: digits are taken as long as the number stays within the limit
unfoldable pub digits_on : ℕ → ℕ → List ℕ → ℕ × List ℕ
digits_on limit v [] = (v, [])
digits_on limit v (b ∷ rest) = if is_digit b && nat_le (10 * v + (b - 48)) limit then digits_on limit (10 * v + (b - 48)) rest else (v, b ∷ rest)

-- a decimal number without a leading zero, at most the limit; of digits that would exceed it the front is taken
unfoldable pub number_at : ℕ → Reader ℕ
number_at limit [] = Err End
number_at limit (b ∷ rest) = if b == 48 then Ok (0, rest) else (if is_digit b then Ok (digits_on limit (b - 48) rest) else Err (Bad (length (b ∷ rest))))

-- ---- names

-- no name holds a zero byte, the byte `barred` (0 where no other byte is barred), or a number that is no byte
abbrev pub not_in_name : ℕ → ℕ → Bool
not_in_name barred b = b == 0 || (b == barred || nat_le 256 b)

-- a byte that a name may hold, where the byte `end` ends it
abbrev pub in_name : (ℕ → Bool) → ℕ → ℕ → Bool
in_name refused end b = not (b == end) && not (refused b)

-- a name can be spelled: it holds neither `end` nor a byte that is refused
abbrev pub is_name : (ℕ → Bool) → ℕ → List ℕ → Bool
is_name refused end name = all_of (in_name refused end) name

-- a name, perhaps empty, of bytes that the test does not refuse, and then the byte `end`, which no name holds
unfoldable pub name_at : (ℕ → Bool) → ℕ → Reader (List ℕ)
name_at refused end [] = Err End
name_at refused end (b ∷ rest) = if b == end then Ok ([], rest) else (if refused b then Err (Bad (length (b ∷ rest))) else (name_at refused end rest >>= λ x. Ok (b ∷ x.0, x.1)))

-- ---- runs

-- 1 to `most` digits
abbrev pub is_digits : ℕ → List ℕ → Bool
is_digits most ds = nat_le 1 (length ds) && (all_of is_digit ds && nat_le (length ds) most)

-- at most k bytes that pass the test
unfoldable pub run_on : (ℕ → Bool) → ℕ → Reader (List ℕ)
run_on test zero bytes = Ok ([], bytes)
run_on test (suc k) [] = Ok ([], [])
run_on test (suc k) (b ∷ rest) = if test b then (run_on test k rest >>= λ x. Ok (b ∷ x.0, x.1)) else Ok ([], b ∷ rest)

-- at least one byte that passes the test, and at most k more
unfoldable pub run_at : (ℕ → Bool) → ℕ → Reader (List ℕ)
run_at test k [] = Err End
run_at test k (b ∷ rest) = if test b then (run_on test k rest >>= λ x. Ok (b ∷ x.0, x.1)) else Err (Bad (length (b ∷ rest)))
