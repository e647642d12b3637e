-- Worked values of what words ask, by hand.
use Rattle.std.proofs.Common.{◌≡◌, ℕ, true, false, List, [], ◌∷◌, Some, refl}
use Rattle.std.specs.Prelude.{codes}
use Rattle.std.specs.Str.{bytes_eq, is_utf8}
use Rattle.query_text.specs.declared.query.Query.TheVariants.{TagNamed, Units}
use Rattle.query_text.specs.Queries.{form_from}
use Rattle.bincl_match.specs.declared.mode.Mode.TheVariants as modes
use Rattle.command_line.specs.declared.command.Command.TheVariants as commands
use Rattle.command_line.specs.declared.command.Asked.TheVariants as asks
use Rattle.readers.specs.Words.{number_at, digits_on}
use Rattle.query_text.specs.WordPlaces.{is_text}
use Rattle.query_text.proofs.TextLemmas.{ascii_text}
use Rattle.st_base.specs.declared.order.Order.TheVariants.{Big}
use Rattle.command_line.specs.Commands.{asked, inputs_of, output_of}

-- ---- the words of this page

query_text : is_utf8 (codes "query") ≡ true
query_text = ascii_text (codes "query") refl

file_text : is_utf8 (codes "a.o") ≡ true
file_text = ascii_text (codes "a.o") refl

tag_text : is_utf8 (codes "tag") ≡ true
tag_text = ascii_text (codes "tag") refl

units_text : is_utf8 (codes "units") ≡ true
units_text = ascii_text (codes "units") refl

unit_text : is_utf8 (codes "0") ≡ true
unit_text = ascii_text (codes "0") refl

zeros_text : is_utf8 (codes "00") ≡ true
zeros_text = ascii_text (codes "00") refl

list_text : is_utf8 (codes "list") ≡ true
list_text = ascii_text (codes "list") refl

-- ---- lines

-- `query FILE tag U NAME`
abbrev line : List ℕ → List (List ℕ)
line unit = codes "query" ∷ codes "a.o" ∷ codes "tag" ∷ unit ∷ codes "list" ∷ []

-- all units of the file `a.o`
all_units : asked (codes "query" ∷ codes "a.o" ∷ codes "units" ∷ []) ≡ asks.Command (commands.Query (codes "a.o") Units)
unfolding form_from
all_units = rw (query_text, file_text, units_text) refl

-- the tag `list` of unit 0 of the file `a.o`
a_query : asked (line (codes "0")) ≡ asks.Command (commands.Query (codes "a.o") (TagNamed 0 (codes "list")))
unfolding form_from number_at digits_on
a_query = rw (query_text, file_text, tag_text, unit_text, list_text) refl

-- its one input
an_input : inputs_of (commands.Query (codes "a.o") (TagNamed 0 (codes "list"))) ≡ codes "a.o" ∷ []
an_input = refl

-- a leading zero is told at its place, and so are a word that is missing and one too many
a_wrong_number : asked (line (codes "00")) ≡ asks.Wrong 3
unfolding form_from number_at digits_on
a_wrong_number = rw (query_text, file_text, tag_text, zeros_text) refl

nothing_asked : asked [] ≡ asks.Wrong 0
nothing_asked = refl

a_missing_name : asked (codes "query" ∷ codes "a.o" ∷ codes "tag" ∷ codes "0" ∷ []) ≡ asks.Wrong 4
unfolding form_from number_at digits_on
a_missing_name = rw (query_text, file_text, tag_text, unit_text) refl

a_word_too_many : asked (codes "query" ∷ codes "a.o" ∷ codes "tag" ∷ codes "0" ∷ codes "list" ∷ codes "list" ∷ []) ≡ asks.Wrong 5
unfolding form_from number_at digits_on
a_word_too_many = rw (query_text, file_text, tag_text, unit_text, list_text) refl

-- a word that is not UTF-8 is wrong, even as the name of a file
no_text : (word : List ℕ) → is_text word ≡ false → asked (codes "query" ∷ word ∷ []) ≡ asks.Wrong 1
no_text word none = rw (query_text, none) refl

-- what is asked is not the other way round
not_the_other : asked (line (codes "0")) ≡ asks.Wrong 3 → ⊥
not_the_other e = let is = a_query in absurd cc

-- ---- sources and objects

as_text : is_utf8 (codes "as") ≡ true
as_text = ascii_text (codes "as") refl

big_text : is_utf8 (codes "big") ≡ true
big_text = ascii_text (codes "big") refl

an_assembly : asked (codes "as" ∷ codes "big" ∷ codes "a.o" ∷ codes "list" ∷ []) ≡ asks.Command (commands.As Big (codes "a.o") (codes "list"))
an_assembly = rw (as_text, big_text, file_text, list_text) refl

-- the file that is read and the one that is stored
an_assembled_input : inputs_of (commands.As Big (codes "a.o") (codes "list")) ≡ codes "a.o" ∷ []
an_assembled_input = refl

an_output : output_of (commands.As Big (codes "a.o") (codes "list")) ≡ Some (codes "list")
an_output = refl

no_order : asked (codes "as" ∷ codes "list" ∷ codes "a.o" ∷ []) ≡ asks.Wrong 1
no_order = rw (as_text, list_text) refl

no_output : asked (codes "as" ∷ codes "big" ∷ codes "a.o" ∷ []) ≡ asks.Wrong 3
no_output = rw (as_text, big_text, file_text) refl

a_listing : asked (codes "list" ∷ codes "a.o" ∷ []) ≡ asks.Command (commands.List (codes "a.o"))
a_listing = rw (list_text, file_text) refl

-- ---- checks

check_text : is_utf8 (codes "check") ≡ true
check_text = ascii_text (codes "check") refl

a_check : asked (codes "check" ∷ codes "a.o" ∷ []) ≡ asks.Command (commands.Check (codes "a.o"))
a_check = rw (check_text, file_text) refl

checked_inputs : inputs_of (commands.Check (codes "a.o")) ≡ codes "a.o" ∷ []
checked_inputs = refl

two_checks : asked (codes "check" ∷ codes "a.o" ∷ codes "a.o" ∷ []) ≡ asks.Wrong 2
two_checks = rw (check_text, file_text) refl

-- ---- links

link_text : is_utf8 (codes "link") ≡ true
link_text = ascii_text (codes "link") refl

keep_text : is_utf8 (codes "keep") ≡ true
keep_text = ascii_text (codes "keep") refl

base_text : is_utf8 (codes "0x1Ac") ≡ true
base_text = ascii_text (codes "0x1Ac") refl

odd_text : is_utf8 (codes "0x1ae") ≡ true
odd_text = ascii_text (codes "0x1ae") refl

-- every word from the fifth on is an object
a_link : asked (codes "link" ∷ codes "keep" ∷ codes "0x1Ac" ∷ codes "tag" ∷ codes "a.o" ∷ codes "list" ∷ [])
    ≡ asks.Command (commands.Link modes.Keep 428 (codes "tag") (codes "a.o" ∷ codes "list" ∷ []))
a_link = rw (link_text, keep_text, base_text, tag_text, file_text, list_text) refl

linked_inputs : inputs_of (commands.Link modes.Keep 428 (codes "tag") (codes "a.o" ∷ codes "list" ∷ [])) ≡ codes "a.o" ∷ codes "list" ∷ []
linked_inputs = refl

-- an address that is no multiple of 4
an_odd_base : asked (codes "link" ∷ codes "keep" ∷ codes "0x1ae" ∷ codes "tag" ∷ codes "a.o" ∷ []) ≡ asks.Wrong 2
an_odd_base = rw (link_text, keep_text, odd_text) refl

no_object : asked (codes "link" ∷ codes "keep" ∷ codes "0x1Ac" ∷ codes "tag" ∷ []) ≡ asks.Wrong 4
no_object = rw (link_text, keep_text, base_text, tag_text) refl

-- a later object that is not UTF-8 is told at its place
no_later_text : (word : List ℕ) → is_text word ≡ false → asked (codes "link" ∷ codes "keep" ∷ codes "0x1Ac" ∷ codes "tag" ∷ codes "a.o" ∷ codes "a.o" ∷ word ∷ []) ≡ asks.Wrong 6
no_later_text word none = rw (link_text, keep_text, base_text, tag_text, file_text, none) refl

merge_text : is_utf8 (codes "merge") ≡ true
merge_text = ascii_text (codes "merge") refl

-- the other mode
a_merge : asked (codes "link" ∷ codes "merge" ∷ codes "0x1Ac" ∷ codes "tag" ∷ codes "a.o" ∷ []) ≡ asks.Command (commands.Link modes.Merge 428 (codes "tag") (codes "a.o" ∷ []))
a_merge = rw (link_text, merge_text, base_text, tag_text, file_text) refl

-- a word that is no mode
no_mode : asked (codes "link" ∷ codes "tag" ∷ codes "0x1Ac" ∷ codes "tag" ∷ codes "a.o" ∷ []) ≡ asks.Wrong 1
no_mode = rw (link_text, tag_text) refl

-- ---- asking

ask_text : is_utf8 (codes "ask") ≡ true
ask_text = ascii_text (codes "ask") refl

dashes_text : is_utf8 (codes "--") ≡ true
dashes_text = ascii_text (codes "--") refl

-- the words before the first `--` are objects, those behind it a query
an_ask : asked (codes "ask" ∷ codes "a.o" ∷ codes "list" ∷ codes "--" ∷ codes "units" ∷ []) ≡ asks.Command (commands.Ask (codes "a.o" ∷ codes "list" ∷ []) Units)
unfolding form_from
an_ask = rw (ask_text, file_text, list_text, units_text) refl

asked_inputs : inputs_of (commands.Ask (codes "a.o" ∷ codes "list" ∷ []) Units) ≡ codes "a.o" ∷ codes "list" ∷ []
asked_inputs = refl

-- no object
no_ask : asked (codes "ask" ∷ codes "--" ∷ codes "units" ∷ []) ≡ asks.Wrong 1
no_ask = rw (ask_text, dashes_text) refl

-- no `--`
no_dashes : asked (codes "ask" ∷ codes "a.o" ∷ codes "units" ∷ []) ≡ asks.Wrong 3
no_dashes = rw (ask_text, file_text, units_text) refl

-- a wrong word of the query is told at its place in the line
no_ask_query : asked (codes "ask" ∷ codes "a.o" ∷ codes "--" ∷ codes "tag" ∷ []) ≡ asks.Wrong 4
unfolding form_from
no_ask_query = rw (ask_text, file_text, tag_text) refl

-- an object that is not UTF-8 is told before that
no_object_text : (word : List ℕ) → is_text word ≡ false → bytes_eq word (codes "--") ≡ false → asked (codes "ask" ∷ codes "a.o" ∷ word ∷ codes "--" ∷ codes "tag" ∷ []) ≡ asks.Wrong 2
no_object_text word none other = rw (ask_text, file_text, none, other) refl
