-- The lines of a unit's text, each with its line feed.
use Rattle.std.specs.Prelude.{ℕ, List, [], ◌∷◌, ◌++◌, codes, decimal, if◌then◌else◌, Bool}
use Rattle.c_types.specs.declared.ctype.TypeNumber.{TypeNumber}
use Rattle.c_types.specs.Types.{number_text}

-- `.stabs "`
abbrev pub stabs_front : List ℕ
stabs_front = codes ".stabs " ++ 34 ∷ []

-- a symbol of a type or a tag
abbrev pub symbol_end : List ℕ
symbol_end = 34 ∷ (codes ",128,0,0,0" ++ 10 ∷ [])

abbrev pub symbol_line : List ℕ → List ℕ
symbol_line symbol = stabs_front ++ (symbol ++ symbol_end)

-- `NAME:t(f,n)=`, with the descriptor between the colon and the number
abbrev pub definition_front : List ℕ → List ℕ → TypeNumber → List ℕ
definition_front name descriptor number = name ++ (58 ∷ (descriptor ++ (number_text number ++ 61 ∷ [])))

-- the symbol that defines the type of a number
abbrev pub definition_line : List ℕ → List ℕ → TypeNumber → List ℕ → List ℕ
definition_line name descriptor number text = symbol_line (definition_front name descriptor number ++ text)

-- ---- the unit and its files

-- the end of the line of the main source, and the two lines where its text begins
unfoldable pub text_front : List ℕ
text_front = 34 ∷ (codes ",100,0,0,Ltext0" ++ (10 ∷ (codes ".text" ++ (10 ∷ (codes "Ltext0:" ++ 10 ∷ [])))))

abbrev pub end_lines : List ℕ
end_lines = codes "Letext:" ++ (10 ∷ (codes ".stabn 100,0,0,Letext" ++ 10 ∷ []))

abbrev pub header_line : List ℕ → List ℕ
header_line name = stabs_front ++ (name ++ (34 ∷ (codes ",130,0,0,0" ++ 10 ∷ [])))

abbrev pub header_end_line : List ℕ
header_end_line = codes ".stabn 162,0,0,0" ++ 10 ∷ []

-- ---- variables

-- the bytes of a variable that other units see
abbrev pub common_line : List ℕ → ℕ → List ℕ
common_line name size = codes ".comm _" ++ (name ++ (44 ∷ (decimal size ++ 10 ∷ [])))

-- that variable: its bytes, and its symbol
abbrev pub variable_lines : List ℕ → List ℕ → ℕ → List ℕ
variable_lines name text size =
    common_line name size ++ (stabs_front ++ (name ++ (codes ":G" ++ (text ++ (34 ∷ (codes ",32,0,0,0" ++ 10 ∷ []))))))

-- the bytes of a static variable
abbrev pub local_common_line : List ℕ → ℕ → List ℕ
local_common_line name size = codes ".lcomm _" ++ (name ++ (44 ∷ (decimal size ++ 10 ∷ [])))

-- its symbol
abbrev pub static_line : List ℕ → List ℕ → List ℕ
static_line name text = stabs_front ++ (name ++ (codes ":S" ++ (text ++ (34 ∷ (codes ",40,0,0,_" ++ (name ++ 10 ∷ []))))))

abbrev pub static_lines : List ℕ → List ℕ → ℕ → List ℕ
static_lines name text size = local_common_line name size ++ static_line name text

-- ---- functions

-- other units see a function unless it is static
abbrev pub global_line : Bool → List ℕ → List ℕ
global_line static name = if static then [] else codes ".globl _" ++ (name ++ 10 ∷ [])

abbrev pub label_line : List ℕ → List ℕ
label_line name = 95 ∷ (name ++ (58 ∷ 10 ∷ []))

-- its symbol, in front of the type of the result: `f` where it is static, else `F`
abbrev pub function_front : Bool → List ℕ → List ℕ
function_front static name = stabs_front ++ (name ++ (58 ∷ (if static then 102 else 70) ∷ []))

-- and behind it, with the line of the name
abbrev pub function_end : List ℕ → ℕ → List ℕ
function_end name line = 34 ∷ (codes ",36,0," ++ (decimal line ++ (codes ",_" ++ (name ++ 10 ∷ []))))

-- the lines of a function
abbrev pub function_lines : Bool → List ℕ → ℕ → List ℕ → List ℕ
function_lines static name line text =
    global_line static name ++ (label_line name ++ (function_front static name ++ (text ++ function_end name line)))

-- a parameter at its place in the frame
abbrev pub param_line : List ℕ → List ℕ → ℕ → List ℕ
param_line name text offset = stabs_front ++ (name ++ (codes ":p" ++ (text ++ (34 ∷ (codes ",160,0,0," ++ (decimal offset ++ 10 ∷ []))))))

-- a local is below the frame
unfoldable pub local_mark : List ℕ
local_mark = 34 ∷ codes ",128,0,0,-"

abbrev pub local_end : ℕ → List ℕ
local_end offset = local_mark ++ (decimal offset ++ 10 ∷ [])

abbrev pub local_line : List ℕ → List ℕ → ℕ → List ℕ
local_line name text offset = stabs_front ++ (name ++ (58 ∷ (text ++ local_end offset)))

-- one whose type takes a number
abbrev pub numbered_local_line : List ℕ → TypeNumber → List ℕ → ℕ → List ℕ
numbered_local_line name number text offset = stabs_front ++ (definition_front name [] number ++ (text ++ local_end offset))

-- a block begins at its label
unfoldable pub block_begin_mark : List ℕ
block_begin_mark = codes ".stabn 192,0,0,Lb"

-- a label's place in the text
unfoldable pub from_start : List ℕ
from_start = codes "-Ltext0" ++ 10 ∷ []

abbrev pub block_begin_line : ℕ → List ℕ
block_begin_line number = block_begin_mark ++ (decimal number ++ from_start)

abbrev pub block_begin_lines : ℕ → List ℕ
block_begin_lines number = block_begin_line number ++ (codes "Lb" ++ (decimal number ++ (58 ∷ 10 ∷ [])))

-- and ends at another
unfoldable pub block_end_mark : List ℕ
block_end_mark = codes ".stabn 224,0,0,Le"

abbrev pub block_end_line : ℕ → List ℕ
block_end_line number = block_end_mark ++ (decimal number ++ from_start)

abbrev pub block_end_lines : ℕ → List ℕ
block_end_lines number = codes "Le" ++ (decimal number ++ ((58 ∷ 10 ∷ []) ++ block_end_line number))

-- a statement: its line, and four bytes of code
unfoldable pub line_mark : List ℕ
line_mark = codes ".stabd 68,0,"

unfoldable pub code_line : List ℕ
code_line = 10 ∷ (codes ".long 0" ++ 10 ∷ [])

abbrev pub statement_lines : ℕ → List ℕ
statement_lines line = line_mark ++ (decimal line ++ code_line)
