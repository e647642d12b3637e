-- Worked values of numbers in both byte orders, by hand.
use Rattle.std.proofs.Common.{◌≡◌, true, false, [], ◌∷◌, refl}
use Rattle.st_base.specs.Number.{number, number_at, bytes_of, with_number_at}

-- 0x1234 in two bytes, the most significant first
big_two : bytes_of true 2 0x1234 ≡ 0x12 ∷ 0x34 ∷ []
big_two = refl

-- 0x1234 in two bytes, the most significant last
little_two : bytes_of false 2 0x1234 ≡ 0x34 ∷ 0x12 ∷ []
little_two = refl

-- the symbol number 3 of a relocation in three bytes, in both orders
three_bytes : bytes_of true 3 3 ≡ 0 ∷ 0 ∷ 3 ∷ []
three_bytes = refl

three_bytes_little : bytes_of false 3 3 ≡ 3 ∷ 0 ∷ 0 ∷ []
three_bytes_little = refl

-- the address 0x1000 in four bytes is read in its own order, and is another number in the other
read_back : number true (0 ∷ 0 ∷ 0x10 ∷ 0 ∷ []) ≡ 0x1000
read_back = refl

read_in_the_other_order : number false (0 ∷ 0 ∷ 0x10 ∷ 0 ∷ []) ≡ 0x100000
read_in_the_other_order = refl

-- a field of two bytes at place 1 of a record of four
set_between : with_number_at true (9 ∷ 9 ∷ 9 ∷ 9 ∷ []) 1 2 0x0102 ≡ 9 ∷ 1 ∷ 2 ∷ 9 ∷ []
set_between = refl

-- it is read again
read_between : number_at true (9 ∷ 1 ∷ 2 ∷ 9 ∷ []) 1 2 ≡ 0x0102
read_between = refl
