-- The words of a command line: what each place of a command wants, and which word is wrong. This is this project's own.
use Rattle.std.specs.Prelude.{ℕ, ◌+◌, Bool, false, true, not, if◌then◌else◌, ◌%◌, ◌==◌, List, [], ◌∷◌, length, take, codes, Option, Some, None, is_some, Result, Ok, Err}
use Rattle.std.specs.Str.{bytes_eq}
use Rattle.st_base.specs.declared.order.Order.{Order}
use Rattle.st_base.specs.declared.order.Order.TheVariants as orders
use Rattle.query_text.specs.WordPlaces.{is_text, wrong_place}
use Rattle.query_text.specs.QueryWords.{spelled_address}
use Rattle.bincl_match.specs.declared.mode.Mode.{Mode}
use Rattle.bincl_match.specs.declared.mode.Mode.TheVariants as modes
use Rattle.command_line.specs.declared.words.Keyword.{Keyword}
use Rattle.command_line.specs.declared.words.Keyword.TheVariants as keywords
use Rattle.command_line.specs.declared.words.Operand.{Operand}
use Rattle.command_line.specs.declared.words.Operand.TheVariants as operands
use Rattle.command_line.specs.declared.words.Want.{Want}
use Rattle.command_line.specs.declared.words.Want.TheVariants.{This, Any, Order as Order', Base as Base', Mode as Mode', Object as Object'}

-- ---- words

-- the word that a keyword is
abbrev pub keyword_text : Keyword → List ℕ
keyword_text keywords.Query = codes "query"
keyword_text keywords.Check = codes "check"
keyword_text keywords.Dump = codes "dump"
keyword_text keywords.List = codes "list"
keyword_text keywords.As = codes "as"
keyword_text keywords.Link = codes "link"
keyword_text keywords.Ask = codes "ask"

-- the byte order that a word names
abbrev pub order_of : List ℕ → Option Order
order_of word =
    if bytes_eq word (codes "little") then Some orders.Little else (if bytes_eq word (codes "big") then Some orders.Big else None)

-- an address that is a multiple of 4, as the base of an image is
abbrev pub aligned : Option ℕ → Option ℕ
aligned None = None
aligned (Some address) = if address % 4 == 0 then Some address else None

-- the base address that a word spells
abbrev pub base_of : List ℕ → Option ℕ
base_of word = aligned (spelled_address word)

-- which header ranges of an image are kept, as a word names it
abbrev pub mode_of : List ℕ → Option Mode
mode_of word =
    if bytes_eq word (codes "keep") then Some modes.Keep else (if bytes_eq word (codes "merge") then Some modes.Merge else None)

-- the word that stands between objects and a query
abbrev pub is_dashes : List ℕ → Bool
is_dashes word = bytes_eq word (codes "--")

-- ---- places

-- the word is what the place wants
abbrev pub is_wanted : Want → List ℕ → Bool
is_wanted (This keyword) word = bytes_eq word (keyword_text keyword)
is_wanted (Any operand) word = true
is_wanted Order' word = is_some (order_of word)
is_wanted Base' word = is_some (base_of word)
is_wanted Mode' word = is_some (mode_of word)
is_wanted Object' word = not (is_dashes word)

-- the wrong place among the first words, as many as there are places; others may follow
abbrev pub wrong_front : List Want → List (List ℕ) → Option ℕ
wrong_front places words = wrong_place is_wanted places (take (length places) words)

-- the first word that is not UTF-8, `at` of them standing before
abbrev pub first_no_text : ℕ → List (List ℕ) → Option ℕ
first_no_text at [] = None
first_no_text at (word ∷ words) = if is_text word then first_no_text (at + 1) words else Some at

-- the place of the first `--`, `at` words standing before; or the wrong place: that of a word before it that is not UTF-8, or the number of
-- words where there is no `--`
abbrev pub objects_end : ℕ → List (List ℕ) → Result ℕ ℕ
objects_end at [] = Err at
objects_end at (word ∷ words) = if is_dashes word then Ok at else (if is_text word then objects_end (at + 1) words else Err at)

-- ---- operands

-- the two are one operand
abbrev pub same_operand : Operand → Operand → Bool
same_operand operands.File operands.File = true
same_operand operands.Out operands.Out = true
same_operand operands.Order operands.Order = true
same_operand operands.Base operands.Base = true
same_operand operands.Mode operands.Mode = true
same_operand _ _ = false

-- the place wants this operand
abbrev pub is_operand : Operand → Want → Bool
is_operand operand (This keyword) = false
is_operand operand (Any other) = same_operand operand other
is_operand operand Order' = same_operand operand operands.Order
is_operand operand Base' = same_operand operand operands.Base
is_operand operand Mode' = same_operand operand operands.Mode
is_operand operand Object' = same_operand operand operands.File

-- the first word of a line; empty where there is none
abbrev pub first : List (List ℕ) → List ℕ
first [] = []
first (word ∷ words) = word

-- the words behind the first
abbrev pub behind : List (List ℕ) → List (List ℕ)
behind [] = []
behind (word ∷ words) = words

-- the word that is this operand: the first whose place wants it, empty where there is none
abbrev pub word_of : Operand → List Want → List (List ℕ) → List ℕ
word_of wanted [] words = []
word_of wanted (want ∷ places) words = if is_operand wanted want then first words else word_of wanted places (behind words)
