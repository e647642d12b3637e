-- The words of a query: what a place of it wants. This is this project's own.
use Rattle.std.specs.Prelude.{ℕ, ◌+◌, ◌*◌, Bool, true, ◌&&◌, ◌==◌, nat_le, if◌then◌else◌, List, [], ◌∷◌, length, codes, Option, Some, None, is_some, option_and_then, unwrap_or, slice_get}
use Rattle.std.specs.Str.{bytes_eq}
use Rattle.std.specs.Result.{result_ok}
use Rattle.st_base.specs.Numerals.{digit_value}
use Rattle.readers.specs.Readers.{whole_of}
use Rattle.readers.specs.Words.{number_at}
use Rattle.query_text.specs.declared.address.TheConstants.{MOST_DIGITS}
use Rattle.query_text.specs.declared.want.TheConstants.{GREATEST_NUMBER, GREATEST_LINE}
use Rattle.query_text.specs.declared.want.Keyword.{Keyword}
use Rattle.query_text.specs.declared.want.Keyword.TheVariants as keywords
use Rattle.query_text.specs.declared.want.Want.{Want}
use Rattle.query_text.specs.declared.want.Want.TheVariants as wants

-- ---- decimal numbers

-- the number that a word spells in decimal digits without a leading zero, at most so great
abbrev pub spelled_number : ℕ → List ℕ → Option ℕ
spelled_number most word = result_ok (whole_of (number_at most) word)

-- the number up to 4294967295 that a word spells; 0 where it spells none
abbrev pub number_of : List ℕ → ℕ
number_of word = unwrap_or (spelled_number GREATEST_NUMBER word) 0

-- the number of a line, up to 65535, that a word spells; 0 where it spells none
abbrev pub line_of : List ℕ → ℕ
line_of word = unwrap_or (spelled_number GREATEST_LINE word) 0

-- ---- addresses

-- the number that hexadecimal digits spell after others that spell `value`
abbrev pub digits_on : ℕ → List ℕ → Option ℕ
digits_on value [] = Some value
digits_on value (b ∷ digits) = option_and_then (λ digit. digits_on (16 * value + digit) digits) (digit_value b)

-- the number that 1 to 8 hexadecimal digits spell
abbrev pub digits_number : List ℕ → Option ℕ
digits_number digits = if nat_le 1 (length digits) && nat_le (length digits) MOST_DIGITS then digits_on 0 digits else None

-- the address that a word spells: `0x` and 1 to 8 hexadecimal digits
abbrev pub spelled_address : List ℕ → Option ℕ
spelled_address [] = None
spelled_address (a ∷ []) = None
spelled_address (a ∷ b ∷ digits) = if a == 48 && b == 120 then digits_number digits else None

-- that address; 0 where the word spells none
abbrev pub address_of : List ℕ → ℕ
address_of word = unwrap_or (spelled_address word) 0

-- ---- places

-- the word that a keyword is
abbrev pub keyword_text : Keyword → List ℕ
keyword_text keywords.Units = codes "units"
keyword_text keywords.Files = codes "files"
keyword_text keywords.Tag = codes "tag"
keyword_text keywords.Type = codes "type"
keyword_text keywords.Number = codes "number"
keyword_text keywords.Scope = codes "scope"
keyword_text keywords.Line = codes "line"
keyword_text keywords.Addresses = codes "addresses"

-- the word is what the place wants
abbrev pub is_wanted : Want → List ℕ → Bool
is_wanted (wants.This keyword) word = bytes_eq word (keyword_text keyword)
is_wanted wants.Any word = true
is_wanted wants.Number word = is_some (spelled_number GREATEST_NUMBER word)
is_wanted wants.Line word = is_some (spelled_number GREATEST_LINE word)
is_wanted wants.Address word = is_some (spelled_address word)

-- the word at a place; empty where there is none
abbrev pub word_at : List (List ℕ) → ℕ → List ℕ
word_at words at = unwrap_or (slice_get words at) []
