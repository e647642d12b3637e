-- What a relocation does to its field: an amount is added to what the field holds. That a narrow field is extended by its sign,
-- and which sums fit it, is this project's own.
use Rattle.std.specs.Prelude.{ℕ, ◌+◌, ◌-◌, ◌*◌, ◌^◌, ◌%◌, nat_lt, nat_le, Bool, ◌||◌, if◌then◌else◌, List, [], ◌∷◌, length}
use Rattle.st_base.specs.Faults.{Check, check}
use Rattle.st_base.specs.Number.{number_at, with_number_at}
use Rattle.st_base.specs.declared.fault.TheConstants.{OUTSIDE, OVERFLOW}
use Rattle.reloc.specs.declared.reloc.Reloc.{Reloc}

-- the bytes of a field, 1, 2 or 4 for the lengths 0, 1, 2
abbrev pub bytes_in : ℕ → ℕ
bytes_in len = 2 ^ len

-- the bits of a field
abbrev pub bits_in : ℕ → ℕ
bits_in len = 8 * bytes_in len

-- a field of some bits as a number of 32 bits, its highest bit being its sign
abbrev pub sign_extended : ℕ → ℕ → ℕ
sign_extended bits old = if nat_lt old (2 ^ (bits - 1)) then old else old + (2 ^ 32 - 2 ^ bits)

-- the sum, modulo 2^32
abbrev pub sum : ℕ → ℕ → ℕ → ℕ
sum bits old add = (sign_extended bits old + add) % 2 ^ 32

-- the sum fits a field of so many bits, as a number without a sign or as a negative one; every sum fits 32 bits
abbrev pub sum_fits : ℕ → ℕ → Bool
sum_fits bits r = nat_lt r (2 ^ bits) || nat_le (2 ^ 32 - 2 ^ (bits - 1)) r

-- what is stored of it
abbrev pub low_bits : ℕ → ℕ → ℕ
low_bits bits r = r % 2 ^ bits

-- the sum of what the field of a relocation holds and an amount
abbrev pub field_sum : Bool → List ℕ → Reloc → ℕ → ℕ
field_sum big segment r add = sum (bits_in r.length) (number_at big segment r.address (bytes_in r.length)) add

-- the field lies in the segment, and the sum fits it
abbrev pub apply_checks : Bool → List ℕ → Reloc → ℕ → List Check
apply_checks big segment r add =
    check (nat_le (r.address + bytes_in r.length) (length segment)) OUTSIDE r.address
    ∷ check (sum_fits (bits_in r.length) (field_sum big segment r add)) OVERFLOW r.address
    ∷ []

-- the segment with the low bits of the sum in the field
abbrev pub applied : Bool → List ℕ → Reloc → ℕ → List ℕ
applied big segment r add =
    with_number_at big segment r.address (bytes_in r.length) (low_bits (bits_in r.length) (field_sum big segment r add))
