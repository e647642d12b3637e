-- Queries: the words of each form, and what words ask. This is this project's own.
use Rattle.std.specs.Prelude.{◌≡◌, ◌≤◌, ◌<◌, ℕ, ◌+◌, max, true, List, [], ◌∷◌, ◌++◌, length, take, codes, decimal, Option, Some, None, Result, Ok, Err}
use Rattle.st_base.specs.declared.fault.TheConstants.{QUERY}
use Rattle.st_base.specs.declared.fault.Refused.{Refused}
use Rattle.st_base.specs.declared.fault.Refused.TheVariants as refused
use Rattle.st_base.specs.Faults.{fault_at}
use Rattle.query_text.specs.declared.query.Query.{Query}
use Rattle.query_text.specs.declared.query.Query.TheVariants as queries
use Rattle.query_text.specs.declared.want.TheConstants.{GREATEST_NUMBER, GREATEST_LINE}
use Rattle.query_text.specs.declared.want.Keyword.{Keyword}
use Rattle.query_text.specs.declared.want.Keyword.TheVariants as keywords
use Rattle.query_text.specs.declared.want.Want.{Want}
use Rattle.query_text.specs.declared.want.Want.TheVariants as wants
use Rattle.query_text.specs.WordPlaces.{is_text, wrong_place}
use Rattle.query_text.specs.QueryWords.{is_wanted, word_at, number_of, line_of, address_of, spelled_address}

-- ---- the forms

-- what the places of a query with this keyword want
abbrev pub places_of : Keyword → List Want
-- `units`
places_of keywords.Units = wants.This keywords.Units ∷ []
-- `files U`
places_of keywords.Files = wants.This keywords.Files ∷ wants.Number ∷ []
-- `tag U NAME`
places_of keywords.Tag = wants.This keywords.Tag ∷ wants.Number ∷ wants.Any ∷ []
-- `type U NAME`
places_of keywords.Type = wants.This keywords.Type ∷ wants.Number ∷ wants.Any ∷ []
-- `number U F N`
places_of keywords.Number = wants.This keywords.Number ∷ wants.Number ∷ wants.Number ∷ wants.Number ∷ []
-- `scope ADDR`
places_of keywords.Scope = wants.This keywords.Scope ∷ wants.Address ∷ []
-- `line ADDR`
places_of keywords.Line = wants.This keywords.Line ∷ wants.Address ∷ []
-- `addresses FILE LINE`
places_of keywords.Addresses = wants.This keywords.Addresses ∷ wants.Any ∷ wants.Line ∷ []

-- all keywords
abbrev pub all_keywords : List Keyword
all_keywords =
    keywords.Units ∷ keywords.Files ∷ keywords.Tag ∷ keywords.Type ∷ keywords.Number ∷ keywords.Scope ∷ keywords.Line ∷ keywords.Addresses ∷ []

-- the query of words that are what the places of its form want
abbrev pub query_of : Keyword → List (List ℕ) → Query
query_of keywords.Units words = queries.Units
query_of keywords.Files words = queries.Files (number_of (word_at words 1))
query_of keywords.Tag words = queries.TagNamed (number_of (word_at words 1)) (word_at words 2)
query_of keywords.Type words = queries.TypeNamed (number_of (word_at words 1)) (word_at words 2)
query_of keywords.Number words = queries.Number (number_of (word_at words 1)) (number_of (word_at words 2)) (number_of (word_at words 3))
query_of keywords.Scope words = queries.Scope (address_of (word_at words 1))
query_of keywords.Line words = queries.Line (address_of (word_at words 1))
query_of keywords.Addresses words = queries.Addresses (word_at words 1) (line_of (word_at words 2))

-- ---- what words ask

-- what a form makes of the words: it is theirs where they are what its places want; else the other forms, the furthest place being kept
abbrev pub go_on : Keyword → ℕ → (ℕ → Result Keyword ℕ) → Option ℕ → Result Keyword ℕ
go_on keyword furthest others None = Ok keyword
go_on keyword furthest others (Some at) = others (max furthest at)

-- which of these forms the words are of, `furthest` being the place up to which a form before went along with them
unfoldable pub form_from : List Keyword → List (List ℕ) → ℕ → Result Keyword ℕ
form_from [] words furthest = Err furthest
form_from (keyword ∷ others) words furthest =
    go_on keyword furthest (form_from others words) (wrong_place is_wanted (places_of keyword) words)

-- the form that the words are of, by its keyword; else the wrong place, which is the furthest up to which a form goes along
abbrev pub form_of : List (List ℕ) → Result Keyword ℕ
form_of words = form_from all_keywords words 0

-- the query of words of this form, or their wrong place
abbrev pub asked_by : Result Keyword ℕ → List (List ℕ) → Result Query ℕ
asked_by (Ok keyword) words = Ok (query_of keyword words)
asked_by (Err wrong) words = Err wrong

-- what the words ask: the query, or the wrong place
abbrev pub asked : List (List ℕ) → Result Query ℕ
asked words = asked_by (form_of words) words

-- ---- the words of a query

-- the words spell the query: its keyword and its operands. A number is in decimal and at most the greatest of its place, an address is as
-- some word spells it, and a name is UTF-8
abbrev pub Spell : List (List ℕ) → Query → Type 0
Spell words queries.Units = words ≡ codes "units" ∷ []
Spell words (queries.Files unit) = (words ≡ codes "files" ∷ decimal unit ∷ []) × (unit ≤ GREATEST_NUMBER)
Spell words (queries.TagNamed unit name) = (words ≡ codes "tag" ∷ decimal unit ∷ name ∷ []) × (unit ≤ GREATEST_NUMBER) × (is_text name ≡ true)
Spell words (queries.TypeNamed unit name) = (words ≡ codes "type" ∷ decimal unit ∷ name ∷ []) × (unit ≤ GREATEST_NUMBER) × (is_text name ≡ true)
Spell words (queries.Number unit file number) =
    (words ≡ codes "number" ∷ decimal unit ∷ decimal file ∷ decimal number ∷ []) × (unit ≤ GREATEST_NUMBER) × (file ≤ GREATEST_NUMBER) × (number ≤ GREATEST_NUMBER)
Spell words (queries.Scope address) = (word : List ℕ) × (words ≡ codes "scope" ∷ word ∷ []) × (spelled_address word ≡ Some address)
Spell words (queries.Line address) = (word : List ℕ) × (words ≡ codes "line" ∷ word ∷ []) × (spelled_address word ≡ Some address)
Spell words (queries.Addresses file line) = (words ≡ codes "addresses" ∷ file ∷ decimal line ∷ []) × (is_text file ≡ true) × (line ≤ GREATEST_LINE)

-- words that ask a query spell it; where they ask none, they spell none
abbrev pub SaysWhat : List (List ℕ) → Result Query ℕ → Type 0
SaysWhat words (Ok query) = Spell words query
SaysWhat words (Err wrong) = (query : Query) → Spell words query → ⊥

-- words begin a query: with more words after them they spell one
abbrev pub Begin : List (List ℕ) → Type 0
Begin words = (more : List (List ℕ)) × (query : Query) × Spell (words ++ more) query

-- words go wrong at this place: those before it begin a query, and with the word at it, where one stands there, they begin none
pub record IsWrong (words : List (List ℕ)) (at : ℕ) : Type 0 where
  pub within : at ≤ length words
  pub begun : Begin (take at words)
  pub ends : at < length words → Begin (take (at + 1) words) → ⊥

-- ---- a call that reads words from a place on

-- the call refuses: out of memory, or by the fault with the wrong place, counted from the first of all words
abbrev pub Refuses : ℕ → Refused → Result Query ℕ → Type 0
Refuses from refused.Memory asked = Unit {0}
Refuses from (refused.At fault) asked = (at : ℕ) × (asked ≡ Err at) × (fault ≡ fault_at QUERY (from + at))

-- the call answers what the words ask, unless out of memory
abbrev pub Reads : ℕ → Result Query Refused → Result Query ℕ → Type 0
Reads from (Ok query) asked = asked ≡ Ok query
Reads from (Err refusal) asked = Refuses from refusal asked

-- the call answers this query, unless out of memory
abbrev pub IsRead : Result Query Refused → Query → Type 0
IsRead (Ok answer) query = answer ≡ query
IsRead (Err refused.Memory) query = Unit {0}
IsRead (Err (refused.At fault)) query = ⊥
