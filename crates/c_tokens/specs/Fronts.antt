-- What stands in front of a source: a blank, a comment, a name, a number, the line of an include, a mark, or a byte that begins none
-- of these; and how many bytes it takes.
use Rattle.std.specs.Prelude.{ℕ, ◌+◌, ◌-◌, ◌*◌, ◌==◌, ◌&&◌, ◌||◌, nat_le, not, Bool, false, if◌then◌else◌, List, [], ◌∷◌, length, take, drop, Option, Some, None, codes, bytes_eq, option_map}
use Rattle.std.specs.List.{prefix_len, list_all}
use Rattle.c_tokens.specs.declared.kind.Kind.{Kind}
use Rattle.c_tokens.specs.declared.kind.Kind.TheVariants as kind
use Rattle.c_tokens.specs.Words.{Piece, mark, named}
use Rattle.c_tokens.specs.Words.Piece.{plain}

-- ---- bytes

abbrev pub is_line_feed : ℕ → Bool
is_line_feed b = b == 10

-- a space or a tab
abbrev pub is_blank : ℕ → Bool
is_blank b = b == 32 || b == 9

abbrev pub is_digit : ℕ → Bool
is_digit b = nat_le 48 b && nat_le b 57

-- a letter or `_`
abbrev pub begins_name : ℕ → Bool
begins_name b = nat_le 65 b && nat_le b 90 || nat_le 97 b && nat_le b 122 || b == 95

abbrev pub in_name : ℕ → Bool
in_name b = begins_name b || is_digit b

abbrev pub is_no_quote : ℕ → Bool
is_no_quote b = not (b == 34)

abbrev pub is_no_line_feed : ℕ → Bool
is_no_line_feed b = not (b == 10)

-- the first byte is this one
abbrev pub begins_with : ℕ → List ℕ → Bool
begins_with b [] = false
begins_with b (c ∷ rest) = c == b

-- the longest run in front whose bytes pass a test, and what stands behind it
abbrev pub run : (ℕ → Bool) → List ℕ → List ℕ
run test bytes = take (prefix_len test bytes) bytes

abbrev pub behind_run : (ℕ → Bool) → List ℕ → List ℕ
behind_run test bytes = drop (prefix_len test bytes) bytes

-- ---- fronts

-- what stands in front: the piece that it gives (none for a blank and a comment), and how many bytes it takes behind its first
pub record Front : Type 0 where
  pub piece : Option Piece
  pub more : ℕ

abbrev pub front : Option Piece → ℕ → Front
front p n = record { piece = p; more = n }

-- ---- numbers

-- the number of decimal digits, the most significant first, behind those of a number
abbrev pub number_after : ℕ → List ℕ → ℕ
number_after n [] = n
number_after n (d ∷ ds) = number_after (10 * n + (d - 48)) ds

-- a number, unless it is over the largest one
abbrev pub small_number : ℕ → Option ℕ
small_number n = if nat_le n 2147483647 then Some n else None

abbrev pub number_piece : Option ℕ → Piece
number_piece (Some n) = plain kind.Number [] n
number_piece None = mark kind.Bad

-- a longest run of digits: a number up to 2147483647 without a leading zero
abbrev pub numeral : List ℕ → Piece
numeral ds =
    if bytes_eq ds (codes "0") then mark kind.Zero
    else (if begins_with 48 ds then mark kind.Bad else number_piece (small_number (number_after 0 ds)))

-- ---- comments

-- how many bytes there are up to the end of the first `*/`, if there is one; `star`: a `*` stands before them
abbrev pub comment_end : Bool → List ℕ → Option ℕ
comment_end star [] = None
comment_end star (b ∷ rest) = if star && b == 47 then Some 1 else option_map (λ n. 1 + n) (comment_end (b == 42) rest)

-- a comment of which this much stands behind the two bytes that open it; else all that is left is one piece that no form allows
abbrev pub comment_of : Option ℕ → ℕ → Front
comment_of (Some n) left = front None (1 + n)
comment_of None left = front (Some (mark kind.Bad)) left

abbrev pub opens_comment : ℕ → List ℕ → Bool
opens_comment b rest = b == 47 && begins_with 42 rest

-- what `/*` opens, behind the `/`: a comment up to the next `*/` behind these two bytes
abbrev pub comment : List ℕ → Front
comment rest = comment_of (comment_end false (drop 1 rest)) (length rest)

-- ---- includes

-- a quoted name up to the end of a line; only blanks stand behind it
abbrev pub closed : List ℕ → List ℕ → Option (List ℕ)
closed x [] = None
closed x (quote ∷ rest) = if not (length x == 0) && list_all is_blank rest then Some x else None

abbrev pub quoted : List ℕ → Option (List ℕ)
quoted [] = None
quoted (b ∷ rest) = if b == 34 then closed (run is_no_quote rest) (behind_run is_no_quote rest) else None

-- the name of the file where the rest of a line behind `#` is an include's
abbrev pub include_name : List ℕ → Option (List ℕ)
include_name line = if bytes_eq (take 7 line) (codes "include") then quoted (behind_run is_blank (drop 7 line)) else None

abbrev pub include_of : Option (List ℕ) → ℕ → Front
include_of (Some x) n = front (Some (plain kind.Include x 0)) n
include_of None n = front (Some (mark kind.Bad)) 0

-- a `#`; an include takes its line, without the line feed, and only blanks stand before it there, which `fresh` says
abbrev pub include : Bool → List ℕ → Front
include fresh rest =
    if fresh then include_of (include_name (run is_no_line_feed rest)) (prefix_len is_no_line_feed rest) else front (Some (mark kind.Bad)) 0

-- ---- marks

-- a byte that stands alone
abbrev pub mark_of : ℕ → Kind
mark_of b =
    if b == 123 then kind.OpenBrace
    else (if b == 125 then kind.CloseBrace
    else (if b == 40 then kind.OpenParen
    else (if b == 41 then kind.CloseParen
    else (if b == 91 then kind.OpenBracket
    else (if b == 93 then kind.CloseBracket
    else (if b == 59 then kind.Semi
    else (if b == 44 then kind.Comma
    else (if b == 42 then kind.Star
    else (if b == 61 then kind.Equals
    else (if b == 45 then kind.Minus else kind.Bad))))))))))

-- ---- all of them

-- a name or word that begins with this byte
abbrev pub name : ℕ → List ℕ → Front
name b rest = front (Some (named (b ∷ run in_name rest))) (prefix_len in_name rest)

-- a number that begins with this digit
abbrev pub digits : ℕ → List ℕ → Front
digits b rest = front (Some (numeral (b ∷ run is_digit rest))) (prefix_len is_digit rest)

-- what stands in front, by its first byte and the bytes behind it; `fresh`: only blanks stand before it on its line
abbrev pub front_of : Bool → ℕ → List ℕ → Front
front_of fresh b rest =
    if is_blank b || is_line_feed b then front None 0
    else (if begins_name b then name b rest
    else (if is_digit b then digits b rest
    else (if opens_comment b rest then comment rest
    else (if b == 35 then include fresh rest
    else front (Some (mark (mark_of b))) 0))))
