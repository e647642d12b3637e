-- Worked values of relocations and of their sums, by hand after a.out(5), GNU's `struct reloc_std_external` and the rule of sums.
use Rattle.std.proofs.Common.{◌≡◌, ℕ, true, false, List, [], ◌∷◌, refl}
use Rattle.std.specs.Prelude.{Ok, Err, Some}
use Rattle.st_base.specs.Faults.{fault_at, first_fault}
use Rattle.reloc.specs.declared.reloc.Reloc.{Reloc}
use Rattle.reloc.specs.Relocs.{reloc_bytes, read}
use Rattle.reloc.specs.Sums.{apply_checks, applied, sum, sum_fits}

-- a word at 8, taken from entry 3, which counts from its segment's place
abbrev word : Reloc
word = record { address = 8; symbol = 3; pcrel = true; length = 2; external = true }

abbrev little_word : List ℕ
little_word = 8 ∷ 0 ∷ 0 ∷ 0 ∷ 3 ∷ 0 ∷ 0 ∷ 0x0d ∷ []

abbrev big_word : List ℕ
big_word = 0 ∷ 0 ∷ 0 ∷ 8 ∷ 0 ∷ 0 ∷ 3 ∷ 0xd0 ∷ []

read_little : read false little_word ≡ Ok word
read_little = refl

read_big : read true big_word ≡ Ok word
read_big = refl

written_little : reloc_bytes false word ≡ little_word
written_little = refl

written_big : reloc_bytes true word ≡ big_word
written_big = refl

-- the flag byte 0x16 has the length 3 and baserel in little order
eight_bytes : read false (8 ∷ 0 ∷ 0 ∷ 0 ∷ 3 ∷ 0 ∷ 0 ∷ 0x16 ∷ []) ≡ Err (fault_at 20 0)
eight_bytes = refl

-- the little flag byte is one with other flags in big order
other_order : read true (0 ∷ 0 ∷ 0 ∷ 8 ∷ 0 ∷ 0 ∷ 3 ∷ 0x0d ∷ []) ≡ Err (fault_at 21 0)
other_order = refl

-- symbol 3 is no segment
no_segment : read false (8 ∷ 0 ∷ 0 ∷ 0 ∷ 3 ∷ 0 ∷ 0 ∷ 0x04 ∷ []) ≡ Err (fault_at 22 0)
no_segment = refl

-- the byte 0 at the start of a segment
abbrev byte : Reloc
byte = record { address = 0; symbol = 4; pcrel = false; length = 0; external = false }

-- 255 and -128 fit a byte, 256 and -129 do not
fits : applied false (0 ∷ 7 ∷ []) byte 255 ≡ 255 ∷ 7 ∷ []
fits = refl

fits_negative : applied false (0 ∷ 7 ∷ []) byte 0xffffff80 ≡ 0x80 ∷ 7 ∷ []
fits_negative = refl

too_great : first_fault (apply_checks false (0 ∷ 7 ∷ []) byte 256) ≡ Some (fault_at 25 0)
too_great = refl

too_small : first_fault (apply_checks false (0 ∷ 7 ∷ []) byte 0xffffff7f) ≡ Some (fault_at 25 0)
too_small = refl

-- a word passes the end of a segment of ten bytes
outside : first_fault (apply_checks false (0 ∷ 0 ∷ 0 ∷ 0 ∷ 0 ∷ 0 ∷ 0 ∷ 0 ∷ 0 ∷ 0 ∷ []) word 1) ≡ Some (fault_at 23 8)
outside = refl

-- a byte of -1 and 1 make 0
from_minus_one : sum 8 0xff 1 ≡ 0
from_minus_one = refl

-- a word takes every sum
word_fits : sum_fits 32 0x80000000 ≡ true
word_fits = refl
