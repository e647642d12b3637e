-- Words that spell a query ask it, so they spell one at most; and words that ask none spell none.
use Rattle.std.proofs.Common.{◌≡◌, ◌≤◌, ◌<◌, ◌^◌, ℕ, ◌+◌, ◌*◌, Bool, true, false, cond, List, [], ◌∷◌, length, Option, Some, None, refl, sym, ap, ◌∙◌, arith, eqb, ⊎_elim}
use Rattle.std.specs.Prelude.{◌↔◌, Result, Ok, Err, codes, decimal, nat_le, nat_lt, ◌&&◌, option_and_then, unwrap_or}
use Rattle.std.specs.Result.{result_ok}
use Rattle.std.specs.Str.{is_utf8}
use Rattle.std.proofs.lemmas.Bool.{and_parts, and_from, cases_Bool, leb-true, lt-ltb, eqb-true}
use Rattle.std.proofs.lemmas.Fmt.{IsAscii-decimal}
use Rattle.std.proofs.lemmas.Str.{IsUtf8-from_ascii, is_utf8-from_IsUtf8}
use Rattle.readers.specs.Words.{number_at}
use Rattle.readers.proofs.Cuts.{within_none}
use Rattle.readers.proofs.First as first
use Rattle.readers.proofs.Laws.{leaf}
use Rattle.readers.proofs.Numbers.{number_laws, no_digit}
use Rattle.st_base.specs.declared.fault.Refused.{Refused}
use Rattle.st_base.specs.declared.fault.Refused.TheVariants as refused
use Rattle.query_text.specs.declared.query.Query.{Query}
use Rattle.query_text.specs.declared.query.Query.TheVariants as queries
use Rattle.query_text.specs.declared.want.TheConstants.{GREATEST_NUMBER, GREATEST_LINE}
use Rattle.query_text.specs.declared.address.TheConstants.{MOST_DIGITS}
use Rattle.query_text.specs.declared.want.Keyword.{Keyword}
use Rattle.query_text.specs.declared.want.Keyword.TheVariants as keywords
use Rattle.st_base.specs.Numerals.{digit_value}
use Rattle.query_text.specs.QueryWords.{spelled_number, spelled_address, number_of, digits_on, digits_number}
use Rattle.query_text.specs.Queries.{asked, asked_by, form_of, form_from, query_of, Spell, SaysWhat, Reads, IsRead}
use Rattle.query_text.proofs.SpellLemmas.{asked-spell}
use Rattle.query_text.proofs.TextLemmas.{ascii_text, all_ascii}

-- ---- numbers in decimal

decimal_text : (most n : ℕ) → most < 2 ^ 64 → n ≤ most → is_utf8 (decimal n) ≡ true
decimal_text most n small le = is_utf8-from_IsUtf8 (decimal n) (IsUtf8-from_ascii (decimal n) (IsAscii-decimal n (omega arith)))

decimal_number : (most n : ℕ) → 9 ≤ most → most < 2 ^ 64 → n ≤ most → spelled_number most (decimal n) ≡ Some n
decimal_number most n nine small le =
    ap (λ (r : Result ℕ _). result_ok r)
    (first.only 1 (number_at most) (leaf decimal (λ k. k ≤ most)) no_digit (number_laws most nine small 1) (decimal n) n le (within_none 1 (decimal n)) refl)

module _ (n : ℕ) (le : n ≤ GREATEST_NUMBER) where
  number_text : is_utf8 (decimal n) ≡ true
  number_text = let small : GREATEST_NUMBER < 2 ^ 64 = omega arith in decimal_text GREATEST_NUMBER n small le

  number_is : spelled_number GREATEST_NUMBER (decimal n) ≡ Some n
  number_is =
      let nine : 9 ≤ GREATEST_NUMBER = omega arith in
      let small : GREATEST_NUMBER < 2 ^ 64 = omega arith in decimal_number GREATEST_NUMBER n nine small le

module _ (n : ℕ) (le : n ≤ GREATEST_LINE) where
  line_text : is_utf8 (decimal n) ≡ true
  line_text = let small : GREATEST_LINE < 2 ^ 64 = omega arith in decimal_text GREATEST_LINE n small le

  line_is : spelled_number GREATEST_LINE (decimal n) ≡ Some n
  line_is =
      let nine : 9 ≤ GREATEST_LINE = omega arith in
      let small : GREATEST_LINE < 2 ^ 64 = omega arith in decimal_number GREATEST_LINE n nine small le

-- ---- addresses

-- a hexadecimal digit is one of ASCII
digit_low : (b d : ℕ) → digit_value b ≡ Some d → nat_lt b 128 ≡ true
digit_low b d e = ⊎_elim small (λ first. ⊎_elim letter (λ other. ⊎_elim capital (λ none. absurd (nothing first other none)) (cases_Bool (nat_le 65 b && nat_le b 70))) (cases_Bool (nat_le 97 b && nat_le b 102))) (cases_Bool (nat_le 48 b && nat_le b 57))
  where
    up_to : (low high : ℕ) → high < 128 → (nat_le low b && nat_le b high) ≡ true → nat_lt b 128 ≡ true
    up_to low high below t = let le : b ≤ high = leb-true b high (and_parts (nat_le low b) (nat_le b high) t).1 in lt-ltb b 128 (omega arith)

    small : (nat_le 48 b && nat_le b 57) ≡ true → nat_lt b 128 ≡ true
    small t = up_to 48 57 (omega arith) t

    letter : (nat_le 97 b && nat_le b 102) ≡ true → nat_lt b 128 ≡ true
    letter t = up_to 97 102 (omega arith) t

    capital : (nat_le 65 b && nat_le b 70) ≡ true → nat_lt b 128 ≡ true
    capital t = up_to 65 70 (omega arith) t

    nothing : (nat_le 48 b && nat_le b 57) ≡ false → (nat_le 97 b && nat_le b 102) ≡ false → (nat_le 65 b && nat_le b 70) ≡ false → ⊥
    nothing first other none = let is : digit_value b ≡ None = rw (first, other, none) refl in let t : None ≡ Some d = sym is ∙ e in cc

digits_low : (digits : List ℕ) (value n : ℕ) → digits_on value digits ≡ Some n → all_ascii digits ≡ true
digits_low [] value n e = refl
digits_low (b ∷ digits) value n e = pick (digit_value b) refl e (λ d more. digits_low digits (16 * value + d) n more)
  where
    pick : (o : Option ℕ) → digit_value b ≡ o → option_and_then (λ digit. digits_on (16 * value + digit) digits) o ≡ Some n
        → ((d : ℕ) → digits_on (16 * value + d) digits ≡ Some n → all_ascii digits ≡ true) → all_ascii (b ∷ digits) ≡ true
    pick None is e later = absurd cc
    pick (Some d) is e later = and_from (nat_lt b 128) (all_ascii digits) (digit_low b d is) (later d e)

-- the digits of an address are of ASCII
many_low : (digits : List ℕ) (b : Bool) (n : ℕ) → cond b (digits_on 0 digits) None ≡ Some n → all_ascii digits ≡ true
many_low digits true n e = digits_low digits 0 n e
many_low digits false n e = absurd cc

address_text : (word : List ℕ) (n : ℕ) → spelled_address word ≡ Some n → is_utf8 word ≡ true
address_text [] n e = absurd cc
address_text (a ∷ []) n e = absurd cc
address_text (a ∷ b ∷ digits) n e = ⊎_elim
    (λ t. ascii_text (a ∷ b ∷ digits) (and_from (nat_lt a 128) (nat_lt b 128 && all_ascii digits) (low a 48 (and_parts (eqb a 48) (eqb b 120) t).0 refl)
    (and_from (nat_lt b 128) (all_ascii digits) (low b 120 (and_parts (eqb a 48) (eqb b 120) t).1 refl)
    (many_low digits (nat_le 1 (length digits) && nat_le (length digits) MOST_DIGITS) n
    (sym (ap (λ (z : Bool). cond z (digits_number digits) None) t) ∙ e)))))
    (λ t. absurd (let none : None ≡ Some n = sym (ap (λ (z : Bool). cond z (digits_number digits) None) t) ∙ e in cc))
    (cases_Bool (eqb a 48 && eqb b 120))
  where
    low : (x k : ℕ) → eqb x k ≡ true → nat_lt k 128 ≡ true → nat_lt x 128 ≡ true
    low x k t is = ap (λ (z : ℕ). nat_lt z 128) (eqb-true x k t) ∙ is

-- ---- the words of each form ask its query

units_text : is_utf8 (codes "units") ≡ true
units_text = ascii_text (codes "units") refl

files_text : is_utf8 (codes "files") ≡ true
files_text = ascii_text (codes "files") refl

tag_text : is_utf8 (codes "tag") ≡ true
tag_text = ascii_text (codes "tag") refl

type_text : is_utf8 (codes "type") ≡ true
type_text = ascii_text (codes "type") refl

number_word : is_utf8 (codes "number") ≡ true
number_word = ascii_text (codes "number") refl

scope_text : is_utf8 (codes "scope") ≡ true
scope_text = ascii_text (codes "scope") refl

line_word : is_utf8 (codes "line") ≡ true
line_word = ascii_text (codes "line") refl

addresses_text : is_utf8 (codes "addresses") ≡ true
addresses_text = ascii_text (codes "addresses") refl

units_asked : asked (codes "units" ∷ []) ≡ Ok queries.Units
unfolding form_from
units_asked = rw units_text refl

-- the form of such words
files_form : (a : List ℕ) (n : ℕ) → is_utf8 a ≡ true → spelled_number GREATEST_NUMBER a ≡ Some n → form_of (codes "files" ∷ a ∷ []) ≡ Ok keywords.Files
unfolding form_from
files_form a n ta na = rw (files_text, ta, na) refl

tag_form : (a b : List ℕ) (n : ℕ) → is_utf8 a ≡ true → spelled_number GREATEST_NUMBER a ≡ Some n → is_utf8 b ≡ true → form_of (codes "tag" ∷ a ∷ b ∷ []) ≡ Ok keywords.Tag
unfolding form_from
tag_form a b n ta na tb = rw (tag_text, ta, na, tb) refl

type_form : (a b : List ℕ) (n : ℕ) → is_utf8 a ≡ true → spelled_number GREATEST_NUMBER a ≡ Some n → is_utf8 b ≡ true → form_of (codes "type" ∷ a ∷ b ∷ []) ≡ Ok keywords.Type
unfolding form_from
type_form a b n ta na tb = rw (type_text, ta, na, tb) refl

number_form : (a b c : List ℕ) (m n o : ℕ) → is_utf8 a ≡ true → spelled_number GREATEST_NUMBER a ≡ Some m → is_utf8 b ≡ true → spelled_number GREATEST_NUMBER b ≡ Some n
    → is_utf8 c ≡ true → spelled_number GREATEST_NUMBER c ≡ Some o → form_of (codes "number" ∷ a ∷ b ∷ c ∷ []) ≡ Ok keywords.Number
unfolding form_from
number_form a b c m n o ta na tb nb tc nc = rw (number_word, ta, na, tb, nb, tc, nc) refl

scope_form : (a : List ℕ) (n : ℕ) → is_utf8 a ≡ true → spelled_address a ≡ Some n → form_of (codes "scope" ∷ a ∷ []) ≡ Ok keywords.Scope
unfolding form_from
scope_form a n ta na = rw (scope_text, ta, na) refl

line_form : (a : List ℕ) (n : ℕ) → is_utf8 a ≡ true → spelled_address a ≡ Some n → form_of (codes "line" ∷ a ∷ []) ≡ Ok keywords.Line
unfolding form_from
line_form a n ta na = rw (line_word, ta, na) refl

addresses_form : (a b : List ℕ) (n : ℕ) → is_utf8 a ≡ true → is_utf8 b ≡ true → spelled_number GREATEST_LINE b ≡ Some n
    → form_of (codes "addresses" ∷ a ∷ b ∷ []) ≡ Ok keywords.Addresses
unfolding form_from
addresses_form a b n ta tb nb = rw (addresses_text, ta, tb, nb) refl

-- words of a form ask the query that it makes of them
by_form : (k : Keyword) (words : List (List ℕ)) (query : Query) → form_of words ≡ Ok k → query_of k words ≡ query → asked words ≡ Ok query
by_form k words query form is = ap (λ (r : Result Keyword ℕ). asked_by r words) form ∙ ap (λ (q : Query). Ok q) is

-- ---- what spells a query asks it

operand : (o : Option ℕ) (n : ℕ) → o ≡ Some n → unwrap_or o 0 ≡ n
operand o n e = ap (λ (z : Option ℕ). unwrap_or z 0) e

pub spell-asked : (words : List (List ℕ)) (query : Query) → Spell words query → asked words ≡ Ok query
spell-asked words queries.Units spell = ap asked spell ∙ units_asked
spell-asked words (queries.Files unit) spell =
    let text = number_text unit spell.1 in
    let is = number_is unit spell.1 in
    ap asked spell.0
    ∙ by_form keywords.Files (codes "files" ∷ decimal unit ∷ []) (queries.Files unit) (files_form (decimal unit) unit text is)
    (ap (λ (u : ℕ). queries.Files u) (operand (spelled_number GREATEST_NUMBER (decimal unit)) unit is))
spell-asked words (queries.TagNamed unit name) spell =
    let text = number_text unit spell.1 in
    let is = number_is unit spell.1 in
    ap asked spell.0
    ∙ by_form keywords.Tag (codes "tag" ∷ decimal unit ∷ name ∷ []) (queries.TagNamed unit name) (tag_form (decimal unit) name unit text is spell.2)
    (ap (λ (u : ℕ). queries.TagNamed u name) (operand (spelled_number GREATEST_NUMBER (decimal unit)) unit is))
spell-asked words (queries.TypeNamed unit name) spell =
    let text = number_text unit spell.1 in
    let is = number_is unit spell.1 in
    ap asked spell.0
    ∙ by_form keywords.Type (codes "type" ∷ decimal unit ∷ name ∷ []) (queries.TypeNamed unit name) (type_form (decimal unit) name unit text is spell.2)
    (ap (λ (u : ℕ). queries.TypeNamed u name) (operand (spelled_number GREATEST_NUMBER (decimal unit)) unit is))
spell-asked words (queries.Number unit file number) spell =
    let unit_is = number_is unit spell.1 in
    let file_is = number_is file spell.2 in
    let n_is = number_is number spell.3 in
    ap asked spell.0
    ∙ by_form keywords.Number (codes "number" ∷ decimal unit ∷ decimal file ∷ decimal number ∷ []) (queries.Number unit file number)
    (number_form (decimal unit) (decimal file) (decimal number) unit file number (number_text unit spell.1) unit_is (number_text file spell.2) file_is (number_text number spell.3) n_is)
    (ap (λ (u : ℕ). queries.Number u (number_of (decimal file)) (number_of (decimal number))) (operand (spelled_number GREATEST_NUMBER (decimal unit)) unit unit_is)
    ∙ ap (λ (f : ℕ). queries.Number unit f (number_of (decimal number))) (operand (spelled_number GREATEST_NUMBER (decimal file)) file file_is)
    ∙ ap (λ (n : ℕ). queries.Number unit file n) (operand (spelled_number GREATEST_NUMBER (decimal number)) number n_is))
spell-asked words (queries.Scope address) spell =
    ap asked spell.1
    ∙ by_form keywords.Scope (codes "scope" ∷ spell.0 ∷ []) (queries.Scope address) (scope_form spell.0 address (address_text spell.0 address spell.2) spell.2)
    (ap (λ (a : ℕ). queries.Scope a) (operand (spelled_address spell.0) address spell.2))
spell-asked words (queries.Line address) spell =
    ap asked spell.1
    ∙ by_form keywords.Line (codes "line" ∷ spell.0 ∷ []) (queries.Line address) (line_form spell.0 address (address_text spell.0 address spell.2) spell.2)
    (ap (λ (a : ℕ). queries.Line a) (operand (spelled_address spell.0) address spell.2))
spell-asked words (queries.Addresses file line) spell =
    let is = line_is line spell.2 in
    ap asked spell.0
    ∙ by_form keywords.Addresses (codes "addresses" ∷ file ∷ decimal line ∷ []) (queries.Addresses file line)
    (addresses_form file (decimal line) line spell.1 (line_text line spell.2) is)
    (ap (λ (n : ℕ). queries.Addresses file n) (operand (spelled_number GREATEST_LINE (decimal line)) line is))

-- words ask a query exactly where they spell it
pub asked_is_spelled : (words : List (List ℕ)) (query : Query) → (asked words ≡ Ok query) ↔ Spell words query
asked_is_spelled words query = (asked-spell words query, spell-asked words query)

-- words spell one query at most
pub one_spelled : (words : List (List ℕ)) (query other : Query) → Spell words query → Spell words other → query ≡ other
one_spelled words query other a b = let e : asked words ≡ Ok query = spell-asked words query a in let f : asked words ≡ Ok other = spell-asked words other b in cc

-- words with a wrong place spell none
pub wrong_spells_none : (words : List (List ℕ)) (wrong : ℕ) (query : Query) → asked words ≡ Err wrong → Spell words query → ⊥
wrong_spells_none words wrong query e spell = let f : asked words ≡ Ok query = spell-asked words query spell in absurd cc

pub says_what : (words : List (List ℕ)) → SaysWhat words (asked words)
says_what words = pick (asked words) refl
  where
    pick : (r : Result Query ℕ) → asked words ≡ r → SaysWhat words r
    pick (Ok query) e = asked-spell words query e
    pick (Err wrong) e = λ query spell. wrong_spells_none words wrong query e spell

-- what spells a query is read as it, unless out of memory
pub spelled-read : (from : ℕ) (words : List (List ℕ)) (result : Result Query Refused) → Reads from result (asked words)
    → (query : Query) → Spell words query → IsRead result query
spelled-read from words (Ok other) reads query spell = let e : asked words ≡ Ok query = spell-asked words query spell in let same : other ≡ query = cc in same
spelled-read from words (Err refused.Memory) reads query spell = tt
spelled-read from words (Err (refused.At fault)) reads query spell = absurd (wrong_spells_none words reads.0 query reads.1 spell)
