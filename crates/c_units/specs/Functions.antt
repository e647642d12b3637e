-- Functions of a unit: parameters, blocks, locals and statements.
use Rattle.std.specs.Prelude.{ℕ, ◌+◌, ◌&&◌, ◌||◌, not, if◌then◌else◌, Bool, true, false, List, [], ◌∷◌, Option, Some, None, Result, Ok, Err}
use Rattle.st_base.specs.declared.fault.Fault.{Fault}
use Rattle.st_base.specs.declared.fault.TheConstants.{C_AGAIN, C_INCOMPLETE, C_LARGE}
use Rattle.c_types.specs.declared.sizes.Extent.{Extent}
use Rattle.c_types.specs.declared.sizes.TheConstants.{SIZE_LIMIT}
use Rattle.c_types.specs.declared.ctype.Declared.{Declared}
use Rattle.c_units.specs.declared.draft.Draft.{Draft}
use Rattle.c_units.specs.declared.draft.Scope.{Scope}
use Rattle.c_types.specs.Acts.{on_ok}
use Rattle.c_types.specs.Sizes.{padded}
use Rattle.c_types.specs.Named.{given}
use Rattle.c_types.specs.Stacks.{top, below}
use Rattle.c_units.specs.Drafts.{fault, number_limit, line_limit, is_over, unless, with_text, next_number, declared_extent}
use Rattle.c_types.specs.Lines.{function_lines, param_line, local_line, numbered_local_line, block_begin_lines, block_end_lines, statement_lines}
use Rattle.c_types.specs.Types.{declared_text, is_numbered}

-- the first parameter of a function is at this place of its frame
abbrev pub first_param : ℕ
first_param = 8

-- a function of this result begins, or its line is too large, at its name
unfoldable pub begin_function : Bool → List ℕ → Declared → ℕ → Draft → Result Draft Fault
begin_function static name d line u =
    unless (is_over line_limit line) (fault C_LARGE line u)
    (with_text (function_lines static name line (declared_text d)) (record u { offset = first_param; params = [] }))

-- ---- parameters

-- the name of a parameter is given, again where another has it
unfoldable pub give_param : List ℕ → ℕ → Draft → Result Draft Fault
give_param name line u = on_ok (given (fault C_AGAIN line u) name u.params) (λ names. Ok (record u { params = names }))

-- the place behind a parameter or a local, each padded to 4
abbrev pub offset_with : Extent → Draft → ℕ
offset_with extent u = u.offset + padded extent.size

abbrev pub param_of : Option Extent → List ℕ → Declared → ℕ → Draft → Result Draft Fault
param_of None name d line u = Err (fault C_INCOMPLETE line u)
param_of (Some extent) name d line u =
    unless (is_over SIZE_LIMIT extent.size || is_over SIZE_LIMIT u.offset) (fault C_LARGE line u)
    (with_text (param_line name (declared_text d) u.offset) (record u { offset = offset_with extent u }))

-- a parameter; large also where its place is
unfoldable pub add_param : List ℕ → Declared → ℕ → Draft → Result Draft Fault
add_param name d line u = param_of (declared_extent d u) name d line u

-- ---- blocks

-- the locals of a function begin at 0, and go on over all its blocks
abbrev pub offset_in : List Scope → ℕ → ℕ
offset_in [] offset = 0
offset_in (s ∷ ss) offset = offset

-- a block begins
unfoldable pub begin_block : Draft → Draft
begin_block u = record u {
  offset = offset_in u.scopes u.offset;
  blocks = u.blocks + 1;
  scopes = record { number = u.blocks; names = []; begun = false } ∷ u.scopes;
}

-- the locals of the innermost block are over: its beginning is put into the text, once
abbrev pub begun_in : Option Scope → Draft → Draft
begun_in None u = u
begun_in (Some s) u =
    with_text (if s.begun then [] else block_begin_lines s.number) (record u { scopes = record s { begun = true } ∷ below u.scopes })

unfoldable pub end_locals : Draft → Draft
end_locals u = begun_in (top u.scopes) u

abbrev pub ended_in : Option Scope → Draft → Draft
ended_in None u = u
ended_in (Some s) u = with_text (block_end_lines s.number) (record u { scopes = below u.scopes })

-- the innermost block ends
unfoldable pub end_block : Draft → Draft
end_block u = ended_in (top u.scopes) u

-- a statement `;`, whose line may be too large
unfoldable pub add_statement : ℕ → Draft → Result Draft Fault
add_statement line u = unless (is_over line_limit line) (fault C_LARGE line u) (with_text (statement_lines line) u)

-- ---- locals

abbrev pub local_given : Option Scope → List ℕ → ℕ → Draft → Result Draft Fault
local_given None name line u = Ok u
local_given (Some s) name line u =
    on_ok (given (fault C_AGAIN line u) name s.names) (λ names. Ok (record u { scopes = record s { names = names } ∷ below u.scopes }))

-- the name of a local is given in the innermost block, again where that block has it
unfoldable pub give_local : List ℕ → ℕ → Draft → Result Draft Fault
give_local name line u = local_given (top u.scopes) name line u

-- a local at its place; a type that is not a number alone takes the next number
abbrev pub with_local : List ℕ → Declared → Draft → Draft
with_local name d u = with_text (local_line name (declared_text d) u.offset) u

abbrev pub with_numbered_local : List ℕ → Declared → Draft → Draft
with_numbered_local name d u =
    with_text (numbered_local_line name (next_number u) (declared_text d) u.offset) (record u { next = u.next + 1 })

abbrev pub local_here : List ℕ → Declared → Draft → Draft
local_here name d u = if is_numbered d then with_local name d u else with_numbered_local name d u

-- a number over the limit is wanted
abbrev pub lacks_number : Declared → Draft → Bool
lacks_number d u = not (is_numbered d) && is_over number_limit u.next

abbrev pub local_of : Option Extent → List ℕ → Declared → ℕ → Draft → Result Draft Fault
local_of None name d line u = Err (fault C_INCOMPLETE line u)
local_of (Some extent) name d line u =
    unless (is_over SIZE_LIMIT extent.size || (is_over SIZE_LIMIT (offset_with extent u) || lacks_number d u)) (fault C_LARGE line u)
    (local_here name d (record u { offset = offset_with extent u }))

-- a local; large also where its place or the number of its type is
unfoldable pub add_local : List ℕ → Declared → ℕ → Draft → Result Draft Fault
add_local name d line u = local_of (declared_extent d u) name d line u
