-- The commands: the words of each, the files that it reads and the one that it stores. This is this project's own.
use Rattle.std.specs.Prelude.{◌≡◌, ℕ, ◌+◌, max, List, [], ◌∷◌, length, take, drop, Option, Some, None, unwrap_or, Contains, Result, Ok, Err}
use Rattle.st_base.specs.declared.sizes.TheConstants.{FILE_LIMIT, SOURCE_LIMIT}
use Rattle.command_line.specs.declared.limits.TheConstants.{OBJECT_LIMIT}
use Rattle.st_base.specs.declared.order.Order.{Order}
use Rattle.st_base.specs.declared.order.Order.TheVariants.{Little}
use Rattle.bincl_match.specs.declared.mode.Mode.{Mode}
use Rattle.bincl_match.specs.declared.mode.Mode.TheVariants.{Keep}
use Rattle.query_text.specs.declared.query.Query.{Query}
use Rattle.query_text.specs.Queries as queries
use Rattle.command_line.specs.declared.words.Want.{Want}
use Rattle.command_line.specs.declared.words.Want.TheVariants.{This, Any, Order as Order', Base as Base', Mode as Mode', Object as Object'}
use Rattle.command_line.specs.declared.words.Keyword.TheVariants as keywords
use Rattle.command_line.specs.declared.words.Operand.TheVariants as operands
use Rattle.command_line.specs.declared.command.Form.{Form}
use Rattle.command_line.specs.declared.command.Form.TheVariants as forms
use Rattle.command_line.specs.declared.command.Command.{Command}
use Rattle.command_line.specs.declared.command.Command.TheVariants as commands
use Rattle.command_line.specs.declared.command.Asked.{Asked}
use Rattle.command_line.specs.declared.command.Asked.TheVariants as asks
use Rattle.command_line.specs.CommandWords.{word_of, wrong_front, order_of, base_of, mode_of, first_no_text, objects_end}

-- ---- the forms of command lines

-- what the places of a form want, before what else follows
abbrev pub places_of : Form → List Want
-- `query FILE`, and the words of a query
places_of forms.Query = This keywords.Query ∷ Any operands.File ∷ []
-- `check FILE`
places_of forms.Check = This keywords.Check ∷ Any operands.File ∷ []
-- `dump FILE`
places_of forms.Dump = This keywords.Dump ∷ Any operands.File ∷ []
-- `list FILE`
places_of forms.List = This keywords.List ∷ Any operands.File ∷ []
-- `as ORDER IN OUT`
places_of forms.As = This keywords.As ∷ Order' ∷ Any operands.File ∷ Any operands.Out ∷ []
-- `link MODE ADDR OUT OBJ`, and more words that are OBJ
places_of forms.Link = This keywords.Link ∷ Mode' ∷ Base' ∷ Any operands.Out ∷ Any operands.File ∷ []
-- `ask OBJ`, more words that are OBJ, `--`, and the words of a query
places_of forms.Ask = This keywords.Ask ∷ Object' ∷ []

-- all forms
abbrev pub all_forms : List Form
all_forms = forms.Query ∷ forms.Check ∷ forms.Dump ∷ forms.List ∷ forms.As ∷ forms.Link ∷ forms.Ask ∷ []

-- the words that follow those of the places
abbrev pub rest_of : Form → List (List ℕ) → List (List ℕ)
rest_of form words = drop (length (places_of form)) words

-- the word that is FILE
abbrev pub file_of : Form → List (List ℕ) → List ℕ
file_of form words = word_of operands.File (places_of form) words

-- the word that is OUT
abbrev pub out_of : Form → List (List ℕ) → List ℕ
out_of form words = word_of operands.Out (places_of form) words

-- the byte order that ORDER names
abbrev pub order_in : Form → List (List ℕ) → Order
order_in form words = unwrap_or (order_of (word_of operands.Order (places_of form) words)) Little

-- the address that ADDR spells
abbrev pub base_in : Form → List (List ℕ) → ℕ
base_in form words = unwrap_or (base_of (word_of operands.Base (places_of form) words)) 0

-- the mode that MODE names
abbrev pub mode_in : Form → List (List ℕ) → Mode
mode_in form words = unwrap_or (mode_of (word_of operands.Mode (places_of form) words)) Keep

-- the words that are OBJ, in order: the one of the places, and those that follow
abbrev pub objects_in : Form → List (List ℕ) → List (List ℕ)
objects_in form words = file_of form words ∷ rest_of form words

-- ---- what words ask

-- the question on a file, or the place of the wrong word of the query
abbrev pub with_query : List ℕ → Result Query ℕ → Asked
with_query file (Ok query) = asks.Command (commands.Query file query)
with_query file (Err at) = asks.Wrong (length (places_of forms.Query) + at)

-- the question on the image of objects, or the place of the wrong word of the query, so many words standing before it
abbrev pub with_objects : List (List ℕ) → ℕ → Result Query ℕ → Asked
with_objects objects before (Ok query) = asks.Command (commands.Ask objects query)
with_objects objects before (Err at) = asks.Wrong (before + at)

-- what words ask whose objects end at the place of a `--`, or stop at a wrong place; the objects begin behind the first word
abbrev pub asked_behind : List (List ℕ) → Result ℕ ℕ → Asked
asked_behind words (Ok end) = with_objects (drop 1 (take end words)) (end + 1) (queries.asked (drop (end + 1) words))
asked_behind words (Err at) = asks.Wrong at

-- the place of the first word too many, where nothing may follow so many words of places
abbrev pub too_many : ℕ → List (List ℕ) → Option ℕ
too_many places [] = None
too_many places (word ∷ rest) = Some places

-- the command, unless a place is wrong
abbrev pub unless_wrong : Option ℕ → Asked → Asked
unless_wrong None asked = asked
unless_wrong (Some at) asked = asks.Wrong at

-- the command of words that are those of the places alone
abbrev pub alone : Form → List (List ℕ) → Command → Asked
alone form words command = unless_wrong (too_many (length (places_of form)) (rest_of form words)) (asks.Command command)

-- the command of words behind whose places more may follow, as long as they are UTF-8
abbrev pub with_texts : Form → List (List ℕ) → Command → Asked
with_texts form words command = unless_wrong (first_no_text (length (places_of form)) (rest_of form words)) (asks.Command command)

-- the command of words whose front is what the places want; or the place of the first wrong word behind it
abbrev pub command_of : Form → List (List ℕ) → Asked
command_of forms.Query words = with_query (file_of forms.Query words) (queries.asked (rest_of forms.Query words))
command_of forms.Check words = alone forms.Check words (commands.Check (file_of forms.Check words))
command_of forms.Dump words = alone forms.Dump words (commands.Dump (file_of forms.Dump words))
command_of forms.List words = alone forms.List words (commands.List (file_of forms.List words))
command_of forms.As words = alone forms.As words (commands.As (order_in forms.As words) (file_of forms.As words) (out_of forms.As words))
command_of forms.Link words =
    with_texts forms.Link words (commands.Link (mode_in forms.Link words) (base_in forms.Link words) (out_of forms.Link words) (objects_in forms.Link words))
command_of forms.Ask words = asked_behind words (objects_end (length (places_of forms.Ask)) (rest_of forms.Ask words))

-- what the words ask in a form: its command, or the place up to which they are of this form
abbrev pub asked_in : Form → List (List ℕ) → Asked
asked_in form words = unless_wrong (wrong_front (places_of form) words) (command_of form words)

-- what a form makes of the words: its command where they are its words; else the other forms, the furthest place being kept
abbrev pub go_on : ℕ → (ℕ → Asked) → Asked → Asked
go_on furthest others (asks.Command command) = asks.Command command
go_on furthest others (asks.Wrong at) = others (max furthest at)

-- what these forms make of the words, `furthest` being the place up to which a form before went along with them
abbrev pub asked_from : List Form → List (List ℕ) → ℕ → Asked
asked_from [] words furthest = asks.Wrong furthest
asked_from (form ∷ others) words furthest = go_on furthest (asked_from others words) (asked_in form words)

-- what the words ask: the command of the form that they are of; else the wrong place, which is the furthest that a form tells
abbrev pub asked : List (List ℕ) → Asked
asked words = asked_from all_forms words 0

-- ---- files

-- the files that a command reads, in order
abbrev pub inputs_of : Command → List (List ℕ)
inputs_of (commands.Query file query) = file ∷ []
inputs_of (commands.Check file) = file ∷ []
inputs_of (commands.Dump file) = file ∷ []
inputs_of (commands.List file) = file ∷ []
inputs_of (commands.As order file out) = file ∷ []
inputs_of (commands.Link mode base out objects) = objects
inputs_of (commands.Ask objects query) = objects

-- the file that a command stores, if it stores one
abbrev pub output_of : Command → Option (List ℕ)
output_of (commands.Query file query) = None
output_of (commands.Check file) = None
output_of (commands.Dump file) = None
output_of (commands.List file) = None
output_of (commands.As order file out) = Some out
output_of (commands.Link mode base out objects) = Some out
output_of (commands.Ask objects query) = None

-- the most bytes of each file that a command reads
abbrev pub most_of : Command → ℕ
most_of (commands.Query file query) = FILE_LIMIT
most_of (commands.Check file) = FILE_LIMIT
most_of (commands.Dump file) = FILE_LIMIT
most_of (commands.List file) = FILE_LIMIT
most_of (commands.As order file out) = SOURCE_LIMIT
most_of (commands.Link mode base out objects) = OBJECT_LIMIT
most_of (commands.Ask objects query) = OBJECT_LIMIT

-- the place of the wrong word
abbrev pub IsWrong : Asked → ℕ → Type 0
IsWrong (asks.Command command) at = ⊥
IsWrong (asks.Wrong place) at = at ≡ place

-- the name is one that is read
abbrev pub IsRead : Asked → List ℕ → Type 0
IsRead (asks.Command command) name = Contains (inputs_of command) name
IsRead (asks.Wrong place) name = ⊥

-- the name is the one that is stored
abbrev pub IsWritten : Asked → List ℕ → Type 0
IsWritten (asks.Command command) name = output_of command ≡ Some name
IsWritten (asks.Wrong place) name = ⊥
