-- Typedefs and variables of a unit.
use Rattle.std.specs.Prelude.{ℕ, ◌+◌, ◌||◌, List, Option, Some, None, Result, Ok, Err, codes}
use Rattle.st_base.specs.FirstUses.{used}
use Rattle.st_base.specs.declared.fault.Fault.{Fault}
use Rattle.st_base.specs.declared.fault.TheConstants.{C_AGAIN, C_INCOMPLETE, C_LARGE}
use Rattle.c_types.specs.declared.sizes.Extent.{Extent}
use Rattle.c_types.specs.declared.sizes.Size.{Size}
use Rattle.c_types.specs.declared.sizes.TheConstants.{SIZE_LIMIT}
use Rattle.c_types.specs.declared.ctype.Declared.{Declared}
use Rattle.c_units.specs.declared.draft.Draft.{Draft}
use Rattle.c_types.specs.Acts.{on_ok}
use Rattle.c_types.specs.Sizes.{padded}
use Rattle.c_types.specs.Named.{given, same_name}
use Rattle.c_units.specs.Drafts.{fault, number_limit, is_over, unless, with_text, next_number, extent_of, declared_size, declared_extent, is_large}
use Rattle.c_types.specs.Lines.{definition_line, variable_lines, static_lines}
use Rattle.c_types.specs.Types.{declared_text}

-- a name of the unit is given, again where it was given before
unfoldable pub give_name : List ℕ → ℕ → Draft → Result Draft Fault
give_name name line u = on_ok (given (fault C_AGAIN line u) name u.names) (λ names. Ok (record u { names = names }))

-- ---- typedefs

-- the typedef takes the next number; its size is looked at when it is used
abbrev pub with_typedef : List ℕ → Declared → Size → Draft → Draft
with_typedef name d size u =
    with_text (definition_line name (codes "t") (next_number u) (declared_text d))
    (record u { next = u.next + 1; typedefs = used same_name u.typedefs (name, record { number = next_number u; size = size }) })

abbrev pub typedef_of : Option Size → List ℕ → Declared → ℕ → Draft → Result Draft Fault
typedef_of None name d line u = Err (fault C_INCOMPLETE line u)
typedef_of (Some size) name d line u =
    unless (is_large (extent_of size u) || is_over number_limit u.next) (fault C_LARGE line u) (with_typedef name d size u)

-- a typedef; incomplete where an array has items without a size, large where its type or its number is over a limit
unfoldable pub add_typedef : List ℕ → Declared → ℕ → Draft → Result Draft Fault
add_typedef name d line u = typedef_of (declared_size d u) name d line u

-- ---- variables

abbrev pub variable_of : Option Extent → List ℕ → Declared → ℕ → Draft → Result Draft Fault
variable_of None name d line u = Err (fault C_INCOMPLETE line u)
variable_of (Some extent) name d line u =
    unless (is_over SIZE_LIMIT extent.size) (fault C_LARGE line u) (with_text (variable_lines name (declared_text d) extent.size) u)

-- a variable
unfoldable pub add_variable : List ℕ → Declared → ℕ → Draft → Result Draft Fault
add_variable name d line u = variable_of (declared_extent d u) name d line u

-- the static variables with one more, each padded to 4
abbrev pub statics_with : Extent → Draft → ℕ
statics_with extent u = u.statics + padded extent.size

abbrev pub with_static : List ℕ → Declared → Extent → Draft → Draft
with_static name d extent u = with_text (static_lines name (declared_text d) extent.size) (record u { statics = statics_with extent u })

abbrev pub static_of : Option Extent → List ℕ → Declared → ℕ → Draft → Result Draft Fault
static_of None name d line u = Err (fault C_INCOMPLETE line u)
static_of (Some extent) name d line u =
    unless (is_over SIZE_LIMIT extent.size || is_over SIZE_LIMIT (statics_with extent u)) (fault C_LARGE line u) (with_static name d extent u)

-- a static variable; large also where all of them are
unfoldable pub add_static : List ℕ → Declared → ℕ → Draft → Result Draft Fault
add_static name d line u = static_of (declared_extent d u) name d line u

abbrev pub extern_of : Option Size → ℕ → Draft → Result Draft Fault
extern_of None line u = Err (fault C_INCOMPLETE line u)
extern_of (Some size) line u = unless (is_large (extent_of size u)) (fault C_LARGE line u) u

-- an `extern` gives nothing; its type may have no size, but is not over the limit where it has one
unfoldable pub add_extern : Declared → ℕ → Draft → Result Draft Fault
add_extern d line u = extern_of (declared_size d u) line u
