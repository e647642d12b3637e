-- Worked values of what words ask, by hand.
use Rattle.std.proofs.Common.{◌≡◌, ℕ, true, false, List, [], ◌∷◌, Some, None, refl, sym, ◌∙◌, ◌≤◌, arith}
use Rattle.std.specs.Prelude.{codes, decimal, Ok, Err}
use Rattle.std.specs.Str.{is_utf8}
use Rattle.readers.specs.Words.{number_at, digits_on}
use Rattle.query_text.specs.declared.query.Query.TheVariants as queries
use Rattle.query_text.specs.WordPlaces.{is_text}
use Rattle.query_text.specs.QueryWords.{spelled_address}
use Rattle.query_text.specs.Queries.{asked, form_from, Spell}
use Rattle.query_text.proofs.TextLemmas.{ascii_text}

-- ---- addresses

an_address : spelled_address (codes "0x1f0C") ≡ Some 7948
an_address = refl

the_last_address : spelled_address (codes "0xffffffff") ≡ Some 4294967295
the_last_address = refl

-- there is a digit at least, and there are eight at most; all digits are hexadecimal
no_digits : spelled_address (codes "0x") ≡ None
no_digits = refl

nine_digits : spelled_address (codes "0x000000001") ≡ None
nine_digits = refl

no_digit : spelled_address (codes "0x1g") ≡ None
no_digit = refl

-- the letter after the zero is small
a_large_letter : spelled_address (codes "0X1") ≡ None
a_large_letter = refl

-- ---- the words of this page

addresses_text : is_utf8 (codes "addresses") ≡ true
addresses_text = ascii_text (codes "addresses") refl

tag_text : is_utf8 (codes "tag") ≡ true
tag_text = ascii_text (codes "tag") refl

file_text : is_utf8 (codes "a.c") ≡ true
file_text = ascii_text (codes "a.c") refl

seven_text : is_utf8 (codes "7") ≡ true
seven_text = ascii_text (codes "7") refl

zeros_text : is_utf8 (codes "07") ≡ true
zeros_text = ascii_text (codes "07") refl

large_text : is_utf8 (codes "65536") ≡ true
large_text = ascii_text (codes "65536") refl

-- ---- queries

-- line 7 of the file `a.c`
a_line : asked (codes "addresses" ∷ codes "a.c" ∷ codes "7" ∷ []) ≡ Ok (queries.Addresses (codes "a.c") 7)
unfolding number_at digits_on form_from
a_line = rw (addresses_text, file_text, seven_text) refl

-- a line has a number up to 65535
too_far_down : asked (codes "addresses" ∷ codes "a.c" ∷ codes "65536" ∷ []) ≡ Err 2
unfolding number_at digits_on form_from
too_far_down = rw (addresses_text, file_text, large_text) refl

-- a unit may have that number
a_large_unit : asked (codes "tag" ∷ codes "65536" ∷ codes "a.c" ∷ []) ≡ Ok (queries.TagNamed 65536 (codes "a.c"))
unfolding number_at digits_on form_from
a_large_unit = rw (tag_text, file_text, large_text) refl

-- a leading zero is reported at its place, and so are a word that is missing and one too many
a_leading_zero : asked (codes "tag" ∷ codes "07" ∷ codes "a.c" ∷ []) ≡ Err 1
unfolding number_at digits_on form_from
a_leading_zero = rw (tag_text, zeros_text) refl

a_missing_name : asked (codes "tag" ∷ codes "7" ∷ []) ≡ Err 2
unfolding number_at digits_on form_from
a_missing_name = rw (tag_text, seven_text) refl

a_word_too_many : asked (codes "tag" ∷ codes "7" ∷ codes "a.c" ∷ codes "7" ∷ []) ≡ Err 3
unfolding number_at digits_on form_from
a_word_too_many = rw (tag_text, seven_text, file_text) refl

nothing_asked : asked [] ≡ Err 0
unfolding form_from
nothing_asked = refl

no_keyword : asked (codes "a.c" ∷ []) ≡ Err 0
unfolding form_from
no_keyword = rw file_text refl

-- a word that is not UTF-8 is wrong, even as the name of a file
no_text : (word : List ℕ) → is_text word ≡ false → asked (codes "addresses" ∷ word ∷ []) ≡ Err 1
unfolding form_from
no_text word none = rw (addresses_text, none) refl

-- what is asked is not the other way round
not_wrong : asked (codes "addresses" ∷ codes "a.c" ∷ codes "7" ∷ []) ≡ Err 2 → ⊥
not_wrong e = let is = a_line in absurd cc

-- ---- the words of a query

-- both words spell the address 16
sixteen : Spell (codes "line" ∷ codes "0x10" ∷ []) (queries.Line 16)
sixteen = (codes "0x10", refl, refl)

padded : Spell (codes "line" ∷ codes "0x0010" ∷ []) (queries.Line 16)
padded = (codes "0x0010", refl, refl)

-- a word more spells nothing
one_more : Spell (codes "units" ∷ codes "7" ∷ []) queries.Units → ⊥
one_more e = absurd cc

-- the files of the unit with the greatest number
last_unit : Spell (codes "files" ∷ decimal 4294967295 ∷ []) (queries.Files 4294967295)
last_unit = (refl, omega arith)

-- a greater number spells nothing, even in decimal
too_great : Spell (codes "files" ∷ decimal 4294967296 ∷ []) (queries.Files 4294967296) → ⊥
too_great e = absurd (let le : 4294967296 ≤ 4294967295 = e.1 in omega (arith, le))

-- and a file is named by a text
not_a_text : (word : List ℕ) → is_text word ≡ false → Spell (codes "addresses" ∷ word ∷ decimal 7 ∷ []) (queries.Addresses word 7) → ⊥
not_a_text word none e = let t : true ≡ false = sym e.1 ∙ none in absurd cc
