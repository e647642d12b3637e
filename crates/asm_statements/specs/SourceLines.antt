-- The lines of a source, and the statements of a line: any number of labels, then at most one directive. A line ends in a line feed or
-- at the end of the text.
use Rattle.std.specs.Prelude.{◌≡◌, ℕ, ◌+◌, ◌==◌, Bool, false, if◌then◌else◌, List, [], ◌∷◌, ◌++◌, map, Option, Some, None, Result, Ok, Err}
use Rattle.st_base.specs.Faults.{fault_at}
use Rattle.st_base.specs.declared.fault.Refused.{Refused}
use Rattle.st_base.specs.declared.fault.Refused.TheVariants as refused
use Rattle.st_base.specs.declared.fault.TheConstants.{LINE_SYNTAX}
use Rattle.asm_statements.specs.Tokens.{Token, tokens}
use Rattle.asm_statements.specs.Tokens.Token.{Word, Str, Mark}
use Rattle.asm_statements.specs.Operands.{◌>>=◌, name_in, pieces}
use Rattle.asm_statements.specs.Directives.{directive_of, operands}
use Rattle.asm_statements.specs.declared.statement.What.{What}
use Rattle.asm_statements.specs.declared.statement.What.TheVariants as what
use Rattle.asm_statements.specs.declared.statement.Statement.{Statement}

-- a directive with its operands
abbrev pub directive_with : List ℕ → List Token → Option (List What)
directive_with w ts = directive_of w >>= λ d. operands d (pieces ts)

abbrev pub is_colon : Token → Bool
is_colon (Mark m) = m == 58
is_colon (Word w) = false
is_colon (Str s) = false

-- a word, and what stands after it
abbrev pub word_in : Token → Option (List ℕ)
word_in (Word w) = Some w
word_in (Str s) = None
word_in (Mark m) = None

-- at most one directive
abbrev pub rest_of : List Token → Option (List What)
rest_of [] = Some []
rest_of (t ∷ ts) = word_in t >>= λ w. directive_with w ts

-- any number of labels, then at most one directive
abbrev pub statements_of : List Token → Option (List What)
statements_of [] = rest_of []
statements_of (t ∷ []) = rest_of (t ∷ [])
statements_of (t ∷ u ∷ ts) =
    if is_colon u then (name_in t >>= λ w. statements_of ts >>= λ ws. Some (what.Label w ∷ ws)) else rest_of (t ∷ u ∷ ts)

-- what a line is; none where it does not parse
abbrev pub line_of : List ℕ → Option (List What)
line_of text = tokens text >>= statements_of

-- ---- sources

-- a statement of the line with this number
abbrev pub at_line : ℕ → What → Statement
at_line n w = record { line = n; what = w }

abbrev pub is_feed : ℕ → Bool
is_feed b = b == 10

abbrev pub put_line : ℕ → List (List ℕ) → List (List ℕ)
put_line b [] = (b ∷ []) ∷ []
put_line b (l ∷ ls) = (b ∷ l) ∷ ls

-- a line ends in a line feed or at the end of the text
abbrev pub lines_of : List ℕ → List (List ℕ)
lines_of [] = [] ∷ []
lines_of (b ∷ text) = if is_feed b then [] ∷ lines_of text else put_line b (lines_of text)

-- the statements of a line before others
abbrev pub with_line : ℕ → List What → Result (List Statement) ℕ → Result (List Statement) ℕ
with_line n ws (Ok ss) = Ok (map (at_line n) ws ++ ss)
with_line n ws (Err bad) = Err bad

abbrev pub read_line : ℕ → Option (List What) → Result (List Statement) ℕ → Result (List Statement) ℕ
read_line n None rest = Err n
read_line n (Some ws) rest = with_line n ws rest

-- the statements of lines of which the first has the number n, or the number of the first line that does not parse
abbrev pub read_lines : ℕ → List (List ℕ) → Result (List Statement) ℕ
read_lines n [] = Ok []
read_lines n (l ∷ ls) = read_line n (line_of l) (read_lines (n + 1) ls)

-- the statements of a source, or the number of its first line that does not parse
abbrev pub read_source : List ℕ → Result (List Statement) ℕ
read_source text = read_lines 1 (lines_of text)

-- the code answers the statements, or the fault of the first line that does not parse; out of memory is free
abbrev pub ReadsSource : Result (List Statement) Refused → Result (List Statement) ℕ → Type 0
ReadsSource (Ok ss) read = read ≡ Ok ss
ReadsSource (Err refused.Memory) read = Unit {0}
ReadsSource (Err (refused.At f)) read = (line : ℕ) × (read ≡ Err line) × (f ≡ fault_at LINE_SYNTAX line)
