-- Sizes in bytes and alignments, and where a thing of some size stands.
use Rattle.std.specs.Prelude.{ℕ, ◌+◌, ◌*◌, ◌/◌, ◌==◌, ◌||◌, nat_le, if◌then◌else◌, List, [], ◌∷◌}
use Rattle.c_types.specs.declared.sizes.Alignment.{Alignment}
use Rattle.c_types.specs.declared.sizes.Alignment.TheVariants.{One, Two, Four}
use Rattle.c_types.specs.declared.sizes.Extent.{Extent}
use Rattle.c_types.specs.declared.sizes.Size.{Size}
use Rattle.c_types.specs.declared.sizes.Size.TheVariants as size
use Rattle.c_types.specs.declared.sizes.TheConstants.{SIZE_LIMIT}

-- the greater of two alignments
abbrev pub greater : Alignment → Alignment → Alignment
greater One other = other
greater Two One = Two
greater Two other = other
greater Four other = Four

-- the next multiple of an alignment
abbrev pub rounded : ℕ → Alignment → ℕ
rounded n One = n
rounded n Two = (n + 1) / 2 * 2
rounded n Four = (n + 3) / 4 * 4

-- a size over the limit counts as the limit and 1, so that no sum and no product of sizes is large
abbrev pub cut : ℕ → ℕ
cut n = if nat_le n SIZE_LIMIT then n else SIZE_LIMIT + 1

-- a size padded to 4
abbrev pub padded : ℕ → ℕ
padded size = rounded size Four

-- so many items of an extent, one after another
abbrev pub repeated : Extent → ℕ → Extent
repeated item count = record { size = cut (item.size * count); alignment = item.alignment }

-- an array of these lengths, from the outermost to the innermost, of items of an extent
abbrev pub array_extent : List ℕ → Extent → Extent
array_extent [] item = item
array_extent (n ∷ ns) item = repeated (array_extent ns item) n

-- pointers, enums and their alignment
abbrev pub word_extent : Extent
word_extent = record { size = 4; alignment = Four }

-- the size of the basic type of this number, 1 to 12
abbrev pub of_basic : ℕ → Size
of_basic n =
    if n == 10 then size.Nothing
    else (if n == 2 || (n == 8 || n == 9) then size.Known (record { size = 1; alignment = One })
    else (if n == 6 || n == 7 then size.Known (record { size = 2; alignment = Two })
    else (if n == 11 || n == 12 then size.Known (record { size = 8; alignment = Four }) else size.Known word_extent)))
