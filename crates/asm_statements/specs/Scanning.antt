-- What the code of reading keeps on its way, and in which words its calls answer.
use Rattle.std.specs.Prelude.{◌≡◌, ◌<◌, ◌≤◌, ◌^◌, ℕ, ◌+◌, ◌-◌, ◌*◌, ◌==◌, ◌||◌, nat_le, if◌then◌else◌, List, [], ◌∷◌, ◌++◌, take, drop, map, Option, Some, None, Result, Ok, Err}
use Rattle.asm_statements.specs.Tokens.{Token, is_octal, with_token}
use Rattle.asm_statements.specs.Tokens.Token.{Str}
use Rattle.asm_statements.specs.Fits.{NamesFit}
use Rattle.asm_statements.specs.Operands.{pieces}
use Rattle.asm_statements.specs.SourceLines.{at_line, lines_of}
use Rattle.asm_statements.specs.declared.scan.Bad.{Bad}
use Rattle.asm_statements.specs.declared.scan.Bad.TheVariants as bad
use Rattle.asm_statements.specs.declared.token.Quoted.{Quoted}
use Rattle.asm_statements.specs.declared.token.Quoted.TheVariants.{Inside, Escaped, One, Two}
use Rattle.asm_statements.specs.declared.out.Out.{Out}
use Rattle.asm_statements.specs.declared.statement.Sum.{Sum}
use Rattle.asm_statements.specs.declared.statement.What.{What}
use Rattle.asm_statements.specs.declared.statement.Statement.{Statement}

-- the code answers what reading gives, unless memory ran out
abbrev pub Reads : {X Y : Type 0} → (X → Y) → Result X Bad → Option Y → Type 0
Reads view (Ok x) read = read ≡ Some (view x)
Reads view (Err bad.Form) read = read ≡ None
Reads view (Err bad.Memory) read = Unit {0}

-- one byte of a string: where the next one stands (none after the closing `"`), and the bytes so far
abbrev pub step_inside : ℕ → List ℕ → Option (Option Quoted × List ℕ)
step_inside b s = if b == 34 then Some (None, s) else (if b == 92 then Some (Some Escaped, s) else Some (Some Inside, s ++ b ∷ []))

abbrev pub put_step : ℕ → List ℕ → Option (Option Quoted × List ℕ)
put_step b s = Some (Some Inside, s ++ b ∷ [])

abbrev pub step_done : ℕ → ℕ → List ℕ → Option (Option Quoted × List ℕ)
step_done v b s = if nat_le v 255 then step_inside b (s ++ v ∷ []) else None

abbrev pub step : Quoted → ℕ → List ℕ → Option (Option Quoted × List ℕ)
step Inside b s = step_inside b s
step Escaped b s =
    if is_octal b then Some (Some (One (b - 48)), s)
    else (if b == 110 then Some (Some Inside, s ++ 10 ∷ [])
    else (if b == 116 then Some (Some Inside, s ++ 9 ∷ [])
    else (if b == 92 || b == 34 then Some (Some Inside, s ++ b ∷ []) else None)))
step (One v) b s = if is_octal b then Some (Some (Two (8 * v + (b - 48))), s) else step_done v b s
step (Two v) b s = if is_octal b then (if nat_le (8 * v + (b - 48)) 255 then Some (Some Inside, s ++ (8 * v + (b - 48)) ∷ []) else None) else step_done v b s

-- the code makes this step, unless memory ran out
abbrev pub Steps : Result (Option Quoted) Bad → List ℕ → Option (Option Quoted × List ℕ) → Type 0
Steps (Ok next) text step = step ≡ Some (next, text)
Steps (Err bad.Form) text step = step ≡ None
Steps (Err bad.Memory) text step = Unit {0}

-- bytes before the first string
abbrev pub text_head : List ℕ → List Token → List Token
text_head s (Str t ∷ ts) = Str (s ++ t) ∷ ts
text_head s ts = ts

abbrev pub with_text : List ℕ → Option (List Token) → Option (List Token)
with_text s None = None
with_text s (Some ts) = Some (text_head s ts)

-- a token in front, if there is one
abbrev pub with_maybe : Option Token → Option (List Token) → Option (List Token)
with_maybe None read = read
with_maybe (Some t) read = with_token t read

abbrev pub with_front : List Token → Option (List Token) → Option (List Token)
with_front front None = None
with_front front (Some ts) = Some (front ++ ts)

-- the code refuses: memory ran out, or nothing is read
abbrev pub Refuses : {Y : Type 0} → Bad → Option Y → Type 0
Refuses bad.Form read = read ≡ None
Refuses bad.Memory read = Unit {0}

-- a term adds at most one number, and a name only if it is one
pub record Grows (old new : Sum) : Type 0 where
  pub more : new.more ≤ old.more + 4294967296
  pub less : new.less ≤ old.less + 4294967296
  pub added : NamesFit old.added → NamesFit new.added

-- the sums of an expression have room for what `.` adds, and its added names are names
pub record IsSmall (s : Sum) : Type 0 where
  pub more : s.more < 2 ^ 99
  pub less : s.less < 2 ^ 99
  pub added : NamesFit s.added

-- the pieces of tokens whose first comma stands here
abbrev pub pieces_at : List Token → Option ℕ → List (List Token)
pieces_at ts None = ts ∷ []
pieces_at ts (Some at) = take at ts ∷ pieces (drop (at + 1) ts)

-- the pieces after a comma, if there is one
abbrev pub pieces_behind : Option (List Token) → List (List Token)
pieces_behind None = []
pieces_behind (Some ts) = pieces ts

-- a statement of the line after others
abbrev pub with_what : Out → What → Out
with_what out w = record out { statements = out.statements ++ at_line out.number w ∷ [] }

-- the statements of the line after others
abbrev pub with_whats : Out → Option (List What) → Option Out
with_whats out None = None
with_whats out (Some ws) = Some (record out { statements = out.statements ++ map (at_line out.number) ws })

-- the code puts the statements that are read after others, unless memory ran out
abbrev pub Puts : Result (Unit {0}) Bad → Out → Out → Option (List What) → Type 0
Puts (Ok u) old new read = with_whats old read ≡ Some new
Puts (Err bad.Form) old new read = read ≡ None
Puts (Err bad.Memory) old new read = Unit {0}

-- the lines after a line feed, if there is one
abbrev pub lines_behind : Option (List ℕ) → List (List ℕ)
lines_behind None = []
lines_behind (Some text) = lines_of text

-- statements in front
abbrev pub with_statements : List Statement → Result (List Statement) ℕ → Result (List Statement) ℕ
with_statements front (Ok ss) = Ok (front ++ ss)
with_statements front (Err n) = Err n
