-- Worked values of the shown form, of digits, multiples of four and first uses, of checks in order, and of words and kinds, by hand.
use Rattle.std.proofs.Common.{◌≡◌, ℕ, [], ◌∷◌, refl}
use Rattle.std.specs.Prelude.{codes, Ok, Err, true, false, Some, None, ◌==◌}
use Rattle.st_base.specs.Numerals.{digit_value, hex2, hex4, hex8}
use Rattle.st_base.specs.Shown.{shown}
use Rattle.st_base.specs.Multiples.{aligned}
use Rattle.st_base.specs.FirstUses.{first_uses}
use Rattle.st_base.specs.Number.{first_word}
use Rattle.st_base.specs.Stabs.{is_stab}
use Rattle.st_base.specs.Faults.{fault_at, check, checked}

-- ---- the shown form

-- a plain name is itself
plain : shown (codes "int") ≡ codes "int"
plain = refl

-- a blank, a backslash and a byte that is none of ASCII are two digits each
blank : shown (97 ∷ 32 ∷ 92 ∷ 255 ∷ []) ≡ codes "a\\x20\\x5c\\xff"
blank = refl

-- nothing is `-`, so the text `-` is not itself
nothing : shown [] ≡ codes "-"
nothing = refl

dash : shown (codes "-") ≡ codes "\\x2d"
dash = refl

not_itself : shown (codes "-") ≡ codes "-" → ⊥
not_itself e = absurd cc

two_dashes : shown (codes "--") ≡ codes "--"
two_dashes = refl

-- ---- hexadecimal digits

two_digits : hex2 0x2a ≡ codes "2a"
unfolding hex2
two_digits = refl

four_digits : hex4 0x207 ≡ codes "0207"
unfolding hex4
four_digits = refl

eight_digits : hex8 0x12a0f ≡ codes "00012a0f"
unfolding hex8
eight_digits = refl

-- a digit of either case has its value, and no other byte has one
digit : digit_value 57 ≡ Some 9
digit = refl

lower : digit_value 97 ≡ Some 10
lower = refl

upper : digit_value 70 ≡ Some 15
upper = refl

no_digit : digit_value 103 ≡ None
no_digit = refl

-- ---- multiples of four

already : aligned 8 ≡ 8
already = refl

next : aligned 9 ≡ 12
next = refl

-- ---- first uses

once : first_uses (λ a b. a == b) (7 ∷ 3 ∷ 7 ∷ 5 ∷ 3 ∷ []) ≡ 7 ∷ 3 ∷ 5 ∷ []
once = refl

-- ---- checks in order

-- the first that does not hold is the fault, and where all hold there is the value
second : checked {A = ℕ} (check true 1 0 ∷ check false 2 7 ∷ check false 3 9 ∷ []) 5 ≡ Err (fault_at 2 7)
second = refl

passed : checked {A = ℕ} (check true 1 0 ∷ check true 2 7 ∷ []) 5 ≡ Ok 5
passed = refl

-- ---- words and kinds

word : first_word false (7 ∷ 1 ∷ 0 ∷ 0 ∷ 9 ∷ []) ≡ Some 0x107
word = refl

no_word : first_word true (7 ∷ 1 ∷ 0 ∷ []) ≡ None
no_word = refl

-- an N_GSYM is a stab, and the entry of a definition in bss that others see is none
global : is_stab 0x20 ≡ true
global = refl

in_bss : is_stab 9 ≡ false
in_bss = refl
