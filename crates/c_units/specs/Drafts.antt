-- A unit as it is being written: its faults, and what is known of its tags and sizes.
use Rattle.std.specs.Prelude.{ℕ, zero, suc, ◌+◌, nat_le, if◌then◌else◌, Bool, false, List, [], ◌∷◌, ◌++◌, Option, Some, None, Result, Ok, Err, slice_get}
use Rattle.std.specs.Option.{option_map, option_and_then}
use Rattle.st_base.specs.declared.fault.Fault.{Fault}
use Rattle.c_types.specs.declared.sizes.Extent.{Extent}
use Rattle.c_types.specs.declared.sizes.Size.{Size}
use Rattle.c_types.specs.declared.sizes.Size.TheVariants as size
use Rattle.c_types.specs.declared.sizes.TheConstants.{SIZE_LIMIT}
use Rattle.c_types.specs.declared.ctype.Tag.{Tag}
use Rattle.c_types.specs.declared.ctype.Declared.{Declared}
use Rattle.c_types.specs.declared.ctype.TypeNumber.{TypeNumber}
use Rattle.c_units.specs.declared.draft.Draft.{Draft}
use Rattle.c_types.specs.Sizes.{array_extent, word_extent}

-- the greatest number of a type, and of a line that a stab has room for
abbrev pub number_limit : ℕ
number_limit = 2147483647

abbrev pub line_limit : ℕ
line_limit = 65535

-- the greatest number of a file
abbrev pub file_limit : ℕ
file_limit = 65535

-- a fault on a line of the file that is read
abbrev pub fault : ℕ → ℕ → Draft → Fault
fault number line u = record { number = number; place = line; within = u.place }

-- a value over a limit
abbrev pub is_over : ℕ → ℕ → Bool
is_over limit n = nat_le (limit + 1) n

-- the value, unless there is a reason for a fault
abbrev pub unless : {A : Type 0} → Bool → Fault → A → Result A Fault
unless wrong why x = if wrong then Err why else Ok x

-- the text with more at its end
abbrev pub with_text : List ℕ → Draft → Draft
with_text more u = record u { text = u.text ++ more }

-- ---- numbers and sizes

-- the number that the next type of the file gets
abbrev pub next_number : Draft → TypeNumber
next_number u = record { file = u.file; number = u.next }

-- the extent of a tag whose body has ended
abbrev pub tag_extent : Option Tag → Option Extent
tag_extent None = None
tag_extent (Some tag) = tag.extent

-- how large a type is now: none for `void`, and for a tag whose body has not ended
unfoldable pub extent_of : Size → Draft → Option Extent
extent_of size.Nothing u = None
extent_of (size.OfTag place) u = tag_extent (slice_get u.tags place)
extent_of (size.Known extent) u = Some extent

-- the size of a declared type without its arrays: a pointer has that of a word
abbrev pub pointed : ℕ → Size → Size
pointed zero base = base
pointed (suc stars) base = size.Known word_extent

-- the size of arrays of these lengths; none where the items have none
abbrev pub arrayed : List ℕ → Size → Draft → Option Size
arrayed [] base u = Some base
arrayed (n ∷ ns) base u = option_map (λ item. size.Known (array_extent (n ∷ ns) item)) (extent_of base u)

-- the size of a declared type; none where an array has items without a size
unfoldable pub declared_size : Declared → Draft → Option Size
declared_size d u = arrayed d.lengths (pointed d.stars d.base.size) u

-- how large a declared type is now
unfoldable pub declared_extent : Declared → Draft → Option Extent
declared_extent d u = option_and_then (λ now. extent_of now u) (declared_size d u)

-- a size over the limit
abbrev pub is_large : Option Extent → Bool
is_large None = false
is_large (Some extent) = is_over SIZE_LIMIT extent.size
