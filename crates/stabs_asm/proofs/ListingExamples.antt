-- Worked lines of a listing.
use Rattle.std.proofs.Common.{◌≡◌, [], ◌∷◌, refl}
use Rattle.std.specs.Prelude.{codes}
use Rattle.st_base.specs.Numerals.{hex2, hex8}
use Rattle.stabs_asm.specs.Listing.{byte_line, rows_of, escaped, hex_word}

three_bytes : byte_line 1 (0xab ∷ 255 ∷ []) ≡ codes ".byte 0x01,0xab,0xff"
unfolding hex2
three_bytes = refl

whole_word : hex_word 0x12a0f ≡ codes "0x00012a0f"
unfolding hex8
whole_word = refl

-- a row has sixteen bytes at most
two_rows : rows_of (1 ∷ 2 ∷ 3 ∷ 4 ∷ 5 ∷ 6 ∷ 7 ∷ 8 ∷ 9 ∷ 10 ∷ 11 ∷ 12 ∷ 13 ∷ 14 ∷ 15 ∷ 16 ∷ 17 ∷ [])
    ≡ (1, 2 ∷ 3 ∷ 4 ∷ 5 ∷ 6 ∷ 7 ∷ 8 ∷ 9 ∷ 10 ∷ 11 ∷ 12 ∷ 13 ∷ 14 ∷ 15 ∷ 16 ∷ []) ∷ (17, []) ∷ []
two_rows = refl

-- `"`, a byte that is printed, and one that is not
quote_escaped : escaped 34 ≡ 92 ∷ 34 ∷ []
quote_escaped = refl

plain_byte : escaped 126 ≡ 126 ∷ []
plain_byte = refl

octal_byte : escaped 0xe9 ≡ codes "\\351"
octal_byte = refl
