-- The tokens of a line: words, strings and marks. A word is a longest run of letters, digits, `_`, `$` and `.`; spaces and tabs
-- separate; a comment goes from `#` to the end.
use Rattle.std.specs.Prelude.{ℕ, ◌+◌, ◌-◌, ◌*◌, ◌==◌, ◌&&◌, ◌||◌, nat_le, Bool, true, false, if◌then◌else◌, List, [], ◌∷◌, Option, Some, None}
use Rattle.asm_statements.specs.declared.token.Quoted.{Quoted}
use Rattle.asm_statements.specs.declared.token.Quoted.TheVariants.{Inside, Escaped, One, Two}

-- a word, a string with its escapes resolved, or a mark
pub data Token : Type 0 where
  Word : List ℕ → Token
  Str : List ℕ → Token
  Mark : ℕ → Token

-- ---- bytes

abbrev pub is_within : ℕ → ℕ → ℕ → Bool
is_within low high b = nat_le low b && nat_le b high

abbrev pub is_digit : ℕ → Bool
is_digit b = is_within 48 57 b

abbrev pub is_letter : ℕ → Bool
is_letter b = is_within 65 90 b || is_within 97 122 b

-- a byte with which a name begins
abbrev pub begins_name : ℕ → Bool
begins_name b = is_letter b || b == 95 || b == 36

abbrev pub in_word : ℕ → Bool
in_word b = begins_name b || is_digit b || b == 46

abbrev pub is_blank : ℕ → Bool
is_blank b = b == 32 || b == 9

abbrev pub is_octal : ℕ → Bool
is_octal b = is_within 48 55 b

-- ---- reading, byte by byte: what a byte gives is put before what the rest gives

-- outside strings, in a string, in a comment
pub data Mode : Type 0 where
  outside : Mode
  within : Quoted → Mode
  comment : Mode

abbrev pub inside : Mode
inside = within Inside

-- a byte of a string that is no digit of an escape
abbrev pub next_inside : ℕ → Mode
next_inside b = if b == 34 then outside else (if b == 92 then within Escaped else inside)

-- what stands after a byte of a string: after `\`, and after `\` and one or two octal digits of this value
abbrev pub next_quoted : Quoted → ℕ → Mode
next_quoted Inside b = next_inside b
next_quoted Escaped b = if is_octal b then within (One (b - 48)) else inside
next_quoted (One v) b = if is_octal b then within (Two (8 * v + (b - 48))) else next_inside b
next_quoted (Two v) b = if is_octal b then inside else next_inside b

-- what stands after a byte
abbrev pub next : Mode → ℕ → Mode
next outside b = if b == 34 then inside else (if b == 35 then comment else outside)
next (within q) b = next_quoted q b
next comment b = comment

-- a token in front
abbrev pub with_token : Token → Option (List Token) → Option (List Token)
with_token t None = None
with_token t (Some ts) = Some (t ∷ ts)

-- a byte before the first string
abbrev pub put_head : ℕ → List Token → List Token
put_head b (Str s ∷ ts) = Str (b ∷ s) ∷ ts
put_head b ts = ts

abbrev pub put : ℕ → Option (List Token) → Option (List Token)
put b None = None
put b (Some ts) = Some (put_head b ts)

-- a byte before a word that goes on, else a word of its own
abbrev pub glue_head : ℕ → Bool → List Token → List Token
glue_head b true (Word w ∷ ts) = Word (b ∷ w) ∷ ts
glue_head b _ ts = Word (b ∷ []) ∷ ts

abbrev pub glue : ℕ → Bool → Option (List Token) → Option (List Token)
glue b more None = None
glue b more (Some ts) = Some (glue_head b more ts)

abbrev pub begins_word : List ℕ → Bool
begins_word [] = false
begins_word (b ∷ rest) = in_word b

-- the closing `"` gives an empty string, to which the bytes before it are put
abbrev pub give_inside : ℕ → Option (List Token) → Option (List Token)
give_inside b read = if b == 34 then with_token (Str []) read else (if b == 92 then read else put b read)

abbrev pub give_outside : ℕ → Bool → Option (List Token) → Option (List Token)
give_outside b more read =
    if is_blank b || b == 34 || b == 35 then read else (if in_word b then glue b more read else with_token (Mark b) read)

-- a value over 255 is no escape
abbrev pub put_octal : ℕ → Option (List Token) → Option (List Token)
put_octal v read = if nat_le v 255 then put v read else None

abbrev pub give_escaped : ℕ → Option (List Token) → Option (List Token)
give_escaped b read =
    if is_octal b then read
    else (if b == 110 then put 10 read
    else (if b == 116 then put 9 read
    else (if b == 92 || b == 34 then put b read else None)))

abbrev pub give_quoted : Quoted → ℕ → Option (List Token) → Option (List Token)
give_quoted Inside b read = give_inside b read
give_quoted Escaped b read = give_escaped b read
give_quoted (One v) b read = if is_octal b then read else put_octal v (give_inside b read)
give_quoted (Two v) b read = if is_octal b then put_octal (8 * v + (b - 48)) read else put_octal v (give_inside b read)

-- what a byte gives before what the rest gives; `more`: the rest begins with a byte of a word
abbrev pub give : Mode → ℕ → Bool → Option (List Token) → Option (List Token)
give outside b more read = give_outside b more read
give (within q) b more read = give_quoted q b read
give comment b more read = read

-- the tokens of a text
abbrev pub read_in : Mode → List ℕ → Option (List Token)
read_in outside [] = Some []
read_in comment [] = Some []
read_in (within q) [] = None
read_in m (b ∷ rest) = give m b (begins_word rest) (read_in (next m b) rest)

abbrev pub tokens : List ℕ → Option (List Token)
tokens line = read_in outside line
