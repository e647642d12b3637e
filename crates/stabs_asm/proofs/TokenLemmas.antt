-- The tokens of a text that is put together: words, strings with their escapes, numbers.
use Rattle.std.proofs.Common.{◌≡◌, ℕ, zero, suc, ◌+◌, ◌-◌, ◌*◌, ◌/◌, ◌%◌, ◌^◌, ◌<◌, ◌≤◌, Bool, true, false, List, [], ◌∷◌, ◌++◌, map, Option, None, Some, refl, ap, ◌∙◌, inl, inr, arith, append_assoc, min}
use Rattle.std.specs.Prelude.{decimal, flat_map, nat_le, nat_lt, ◌||◌, ◌==◌}
use Rattle.std.proofs.lemmas.Bool.{cases_Bool, le-leb, lt-leb, ltb-true, ltb-false, eqb-true, ne_eqb, and_from, or_parts, or_cases, or_left, or_right}
use Rattle.std.proofs.lemmas.Fmt.{decimal_digit, decimal_by_steps}
use Rattle.st_base.specs.Number.{IsBytes}
use Rattle.st_base.specs.Numerals.{digit_worth, hex2, hex8}
use Rattle.st_base.specs.Shown.{hex_digit}
use Rattle.asm_statements.specs.Tokens as tok
use Rattle.asm_statements.specs.Tokens.{Token, in_word, is_digit, is_octal, is_blank, begins_word, with_token, glue, read_in, tokens, inside, put}
use Rattle.asm_statements.specs.Tokens.Token.{Word, Str, Mark}
use Rattle.asm_statements.specs.Operands.{value_on, number_of, digit_value, limit, ◌>>=◌}
use Rattle.asm_statements.proofs.ScanLemmas.{Each, word_read}
use Rattle.stabs_asm.specs.Listing.{escaped, hex_byte, hex_word}

-- both parts pass, so the whole does
pub Each-append : (test : ℕ → Bool) (cs bs : List ℕ) → Each test cs → Each test bs → Each test (cs ++ bs)
Each-append test [] bs p q = q
Each-append test (c ∷ cs) bs p q = (p.0, Each-append test cs bs p.1 q)

-- ---- strings

-- a byte before a string
put_string : (b : ℕ) (s : List ℕ) (ts : Option (List Token)) → put b (with_token (Str s) ts) ≡ with_token (Str (b ∷ s)) ts
put_string b s None = refl
put_string b s (Some ts) = refl

-- a digit below 8 is an octal digit
octal_digit : (d : ℕ) → d < 8 → is_octal (48 + d) ≡ true
octal_digit d h = and_from (nat_le 48 (48 + d)) (nat_le (48 + d) 55) (le-leb 48 (48 + d) (omega arith)) (le-leb (48 + d) 55 (omega arith))

-- three octal digits are the byte
octal_read : (b : ℕ) (rest : List ℕ) → b < 256 → read_in inside (92 ∷ (48 + b / 64) ∷ (48 + b / 8 % 8) ∷ (48 + b % 8) ∷ rest) ≡ put b (read_in inside rest)
octal_read b rest h =
    let e : 8 * (8 * (48 + b / 64 - 48) + (48 + b / 8 % 8 - 48)) + (48 + b % 8 - 48) ≡ b = omega arith in
    rw (octal_digit (b / 64) (omega arith), octal_digit (b / 8 % 8) (omega arith), octal_digit (b % 8) (omega arith), e, le-leb b 255 (omega arith)) refl

-- `"` and `\` after a `\` are themselves
quote_read : (b : ℕ) (rest : List ℕ) → (b == 34 || b == 92) ≡ true → read_in inside (92 ∷ b ∷ rest) ≡ put b (read_in inside rest)
quote_read b rest h =
    elim (or_cases (b == 34) (b == 92) h) [
      | inl e ↦ let is : b ≡ 34 = eqb-true b 34 e in rw is refl
      | inr e ↦ let is : b ≡ 92 = eqb-true b 92 e in rw is refl
    ]

-- a byte with its escape is read as the byte
escaped_read : (b : ℕ) (rest : List ℕ) → b < 256 → read_in inside (escaped b ++ rest) ≡ put b (read_in inside rest)
escaped_read b rest h =
    elim (cases_Bool (b == 34 || b == 92)) [
      | inl e ↦ rw e (quote_read b rest e)
      | inr e ↦
          let parts = or_parts (b == 34) (b == 92) e in
          elim (cases_Bool (tok.is_within 32 126 b)) [
            | inl f ↦ rw (e, f, parts.0, parts.1) refl
            | inr f ↦ rw (e, f) (octal_read b rest h)
          ]
    ]

-- a string with its escapes
pub string_read : (s rest : List ℕ) → IsBytes s → read_in inside (flat_map escaped s ++ (34 ∷ rest)) ≡ with_token (Str s) (tokens rest)
string_read [] rest each = refl
string_read (b ∷ s) rest each =
    ap (read_in inside) (append_assoc (escaped b) (flat_map escaped s) (34 ∷ rest))
    ∙ escaped_read b (flat_map escaped s ++ (34 ∷ rest)) each.0 ∙ ap (put b) (string_read s rest each.1) ∙ put_string b s (tokens rest)

-- ---- numbers

-- the value of one digit more
value_append : (base v : ℕ) (ds : List ℕ) (b : ℕ) → value_on base v (ds ++ b ∷ []) ≡ (value_on base v ds >>= λ u. value_on base u (b ∷ []))
value_append base v [] b = refl
value_append base v (d ∷ ds) b =
    elim (cases_Bool (nat_le (suc (digit_value d)) base)) [
      | inl h ↦ rw h (value_append base (min limit (base * v + digit_value d)) ds b)
      | inr h ↦ rw h refl
    ]

-- one digit more of a number within the limit
digit_more : (base u d b : ℕ) → digit_value b ≡ d → d < base → base * u + d < limit → value_on base u (b ∷ []) ≡ Some (base * u + d)
digit_more base u d b is less fits =
    let e : min limit (base * u + d) ≡ base * u + d = omega arith in
    rw (is, le-leb (suc d) base (omega arith), e) refl

-- the value of a decimal digit, and of a hexadecimal one
decimal_value : (d : ℕ) → d < 10 → digit_value (48 + d) ≡ d
decimal_value d h = rw (le-leb 48 (48 + d) (omega arith), le-leb (48 + d) 57 (omega arith)) (omega arith)

hex_value : (d : ℕ) → d < 16 → digit_value (hex_digit d) ≡ d
hex_value d h =
    elim (cases_Bool (nat_lt d 10)) [
      | inl e ↦ rw e (decimal_value d (ltb-true d 10 e))
      | inr e ↦ let ten : 10 ≤ d = ltb-false d 10 e in
          rw (e, le-leb 48 (87 + d) (omega arith), lt-leb (87 + d) 57 (omega arith), le-leb 97 (87 + d) (omega arith), le-leb (87 + d) 102 (omega arith)) (omega arith)
    ]

-- one digit in front
hex_step : (v d : ℕ) (ds : List ℕ) → d < 16 → 16 * v + d < limit → value_on 16 v (hex_digit d ∷ ds) ≡ value_on 16 (16 * v + d) ds
hex_step v d ds less fits =
    let e : min limit (16 * v + d) ≡ 16 * v + d = omega arith in
    rw (hex_value d less, le-leb (suc d) 16 (omega arith), e) refl

-- ---- words of digits

-- a text that is read as one word
abbrev pub IsWord : List ℕ → Type 0
IsWord [] = ⊥
IsWord (b ∷ w) = (in_word b ≡ true) × Each in_word w

-- it is read as that word where no byte of a word follows
pub a_word_read : (w rest : List ℕ) → IsWord w → begins_word rest ≡ false → tokens (w ++ rest) ≡ with_token (Word w) (tokens rest)
a_word_read [] rest is stops = absurd is
a_word_read (b ∷ w) rest is stops = word_read b w rest is.0 is.1 stops

-- one byte more of a word
word_push : (w : List ℕ) (b : ℕ) → IsWord w → in_word b ≡ true → IsWord (w ++ b ∷ [])
word_push [] b is h = absurd is
word_push (c ∷ w) b is h = (is.0, Each-append in_word w (b ∷ []) is.1 (h, tt))

-- digits and letters are bytes of a word
digit_in_word : (d : ℕ) → d < 10 → in_word (48 + d) ≡ true
digit_in_word d h =
    or_left _ ((48 + d) == 46) (or_right (tok.begins_name (48 + d)) (is_digit (48 + d)) (and_from (nat_le 48 (48 + d)) (nat_le (48 + d) 57) (le-leb 48 (48 + d) (omega arith)) (le-leb (48 + d) 57 (omega arith))))

letter_in_word : (b : ℕ) → tok.is_within 97 122 b ≡ true → in_word b ≡ true
letter_in_word b h =
    or_left _ (b == 46) (or_left (tok.begins_name b) (is_digit b) (or_left _ (b == 36) (or_left (tok.is_letter b) (b == 95) (or_right (tok.is_within 65 90 b) (tok.is_within 97 122 b) h))))

-- so is a hexadecimal digit
hex_in_word : (d : ℕ) → d < 16 → in_word (hex_digit d) ≡ true
hex_in_word d h =
    elim (cases_Bool (nat_lt d 10)) [
      | inl e ↦ rw e (digit_in_word d (ltb-true d 10 e))
      | inr e ↦ let ten : 10 ≤ d = ltb-false d 10 e in rw e (letter_in_word (87 + d) (and_from (nat_le 97 (87 + d)) (nat_le (87 + d) 122) (le-leb 97 (87 + d) (omega arith)) (le-leb (87 + d) 122 (omega arith))))
    ]

-- digits of any worths
digits_in_word : (worths : List ℕ) (n : ℕ) → Each in_word (map (λ worth. digit_worth worth n) worths)
digits_in_word [] n = tt
digits_in_word (worth ∷ worths) n = (hex_in_word (n / worth % 16) (omega arith), digits_in_word worths n)

-- the digits of a byte, and those of a number of 32 bits, are a word
pub hex_byte_word : (n : ℕ) → IsWord (hex_byte n)
unfolding hex2
hex_byte_word n = (refl, (refl, digits_in_word (0x10 ∷ 1 ∷ []) n))

pub hex_word_word : (n : ℕ) → IsWord (hex_word n)
unfolding hex8
hex_word_word n = (refl, (refl, digits_in_word (0x10000000 ∷ 0x1000000 ∷ 0x100000 ∷ 0x10000 ∷ 0x1000 ∷ 0x100 ∷ 0x10 ∷ 1 ∷ []) n))

-- the first digit of a number other than 0 is not 0
abbrev Filled : List ℕ → Type 0
Filled [] = ⊥
Filled (b ∷ ds) = (b == 48) ≡ false

-- one digit more at the end
filled_push : (ds : List ℕ) (b : ℕ) → Filled ds → Filled (ds ++ b ∷ [])
filled_push [] b h = absurd h
filled_push (c ∷ ds) b h = h

-- the decimal digits of a number: a word, whose value is the number
record Decimal (n : ℕ) (ds : List ℕ) : Type 0 where
  word : IsWord ds
  value : n < limit → value_on 10 0 ds ≡ Some n
  filled : 1 ≤ n → Filled ds

-- as the digits of every number are
decimal_is : (n : ℕ) → n < 2 ^ 64 → Decimal n (decimal n)
decimal_is = decimal_by_steps Decimal one more
  where
    one : (n : ℕ) → n < 10 → Decimal n ((48 + n) ∷ [])
    one n h = record {
      word = (digit_in_word n h, tt);
      value = λ fits. digit_more 10 0 n (48 + n) (decimal_value n h) h (omega arith) ∙ ap Some (omega arith);
      filled = λ pos. ne_eqb (48 + n) 48 (λ e. absurd (omega arith));
    }

    more : (n : ℕ) (ds : List ℕ) → 10 ≤ n → Decimal (n / 10) ds → Decimal n (ds ++ (48 + n % 10) ∷ [])
    more n ds ten d = record {
      word = word_push ds (48 + n % 10) d.word (digit_in_word (n % 10) (omega arith));
      value = λ fits.
          let e : 10 * (n / 10) + n % 10 ≡ n = omega arith in
          value_append 10 0 ds (48 + n % 10) ∙ rw (d.value (omega arith)) (digit_more 10 (n / 10) (n % 10) (48 + n % 10) (decimal_value (n % 10) (omega arith)) (omega arith) (omega arith) ∙ ap Some e);
      filled = λ pos. filled_push ds (48 + n % 10) (d.filled (omega arith));
    }

-- the digits of a number are a word
pub decimal_word : (n : ℕ) → n < 2 ^ 64 → IsWord (decimal n)
decimal_word n h = (decimal_is n h).word

-- digits that do not begin with 0 are read in decimal
number_filled : (ds : List ℕ) → Filled ds → number_of ds ≡ value_on 10 0 ds
number_filled [] h = absurd h
number_filled (b ∷ ds) h = rw h refl

-- decimal digits are read as the number
pub number_decimal : (n : ℕ) → n < limit → number_of (decimal n) ≡ Some n
number_decimal zero h = rw (decimal_digit 0 (omega arith)) refl
number_decimal (suc n) h = let d = decimal_is (suc n) (omega arith) in number_filled (decimal (suc n)) (d.filled (omega arith)) ∙ d.value h

-- the digits up to one are a number's part: those before it are a sixteenth of that
part_step : (before part : ℕ) (ds : List ℕ) → 16 * before + part % 16 ≡ part → part < limit → value_on 16 before (hex_digit (part % 16) ∷ ds) ≡ value_on 16 part ds
part_step before part ds is fits = hex_step before (part % 16) ds (omega arith) (omega arith) ∙ ap (λ v. value_on 16 v ds) is

-- so are the digits of a byte, and those of a number of 32 bits
pub number_hex_byte : (n : ℕ) → n < 256 → number_of (hex_byte n) ≡ Some n
unfolding hex2
number_hex_byte n h =
    let all : n / 1 ≡ n = omega arith in
    part_step 0 (n / 0x10) (digit_worth 1 n ∷ []) (omega arith) (omega arith) ∙ part_step (n / 0x10) (n / 1) [] (omega arith) (omega arith) ∙ ap Some all

pub number_hex_word : (n : ℕ) → n < limit → number_of (hex_word n) ≡ Some n
unfolding hex8
number_hex_word n h =
    let all : n / 1 ≡ n = omega arith in
    part_step 0 (n / 0x10000000) d7 (omega arith) (omega arith)
    ∙ part_step (n / 0x10000000) (n / 0x1000000) d6 (omega arith) (omega arith)
    ∙ part_step (n / 0x1000000) (n / 0x100000) d5 (omega arith) (omega arith)
    ∙ part_step (n / 0x100000) (n / 0x10000) d4 (omega arith) (omega arith)
    ∙ part_step (n / 0x10000) (n / 0x1000) d3 (omega arith) (omega arith)
    ∙ part_step (n / 0x1000) (n / 0x100) d2 (omega arith) (omega arith)
    ∙ part_step (n / 0x100) (n / 0x10) d1 (omega arith) (omega arith)
    ∙ part_step (n / 0x10) (n / 1) [] (omega arith) (omega arith)
    ∙ ap Some all
  where
    -- the last digits
    d1 : List ℕ
    d1 = digit_worth 1 n ∷ []

    d2 : List ℕ
    d2 = digit_worth 0x10 n ∷ d1

    d3 : List ℕ
    d3 = digit_worth 0x100 n ∷ d2

    d4 : List ℕ
    d4 = digit_worth 0x1000 n ∷ d3

    d5 : List ℕ
    d5 = digit_worth 0x10000 n ∷ d4

    d6 : List ℕ
    d6 = digit_worth 0x100000 n ∷ d5

    d7 : List ℕ
    d7 = digit_worth 0x1000000 n ∷ d6
