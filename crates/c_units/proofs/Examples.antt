-- Worked values: where fields stand, and the sizes of bodies and arrays.
use Rattle.std.proofs.Common.{◌≡◌, ◌≢◌, [], ◌∷◌, refl}
use Rattle.c_types.specs.declared.sizes.Alignment.TheVariants.{One, Four}
use Rattle.c_types.specs.declared.ctype.Word.{Word}
use Rattle.c_types.specs.declared.ctype.Word.TheVariants as word
use Rattle.c_units.specs.declared.layout.Layout.{Layout}
use Rattle.c_types.specs.Sizes.{array_extent}
use Rattle.c_units.specs.Layouts.{empty, with_field, body_size, place_in}

-- a place for a field of four bytes behind one byte, in a structure and in a union
struct_place : place_in word.Struct 1 (record { size = 4; alignment = Four }) ≡ 4
struct_place = refl

union_place : place_in word.Union 1 (record { size = 4; alignment = Four }) ≡ 0
union_place = refl

fields : Word → Layout
fields w = with_field [] [] (record { size = 4; alignment = Four }) (with_field [] [] (record { size = 5; alignment = One }) (empty w))

struct_size : body_size (fields word.Struct) ≡ 12
unfolding fields
struct_size = refl

-- `union { char c[5]; int x; }` is padded to the alignment of int
union_size : body_size (fields word.Union) ≡ 8
unfolding fields
union_size = refl

-- an array of arrays of chars, and one over the limit, which counts as the limit and 1
array_size : array_extent (3 ∷ 5 ∷ []) (record { size = 1; alignment = One }) ≡ record { size = 15; alignment = One }
array_size = refl

large_array : array_extent (134217728 ∷ 2147483647 ∷ []) (record { size = 8; alignment = Four }) ≡ record { size = 134217729; alignment = Four }
large_array = refl

-- the size of the structure without its padding is refused
no_padding : body_size (fields word.Struct) ≢ 9
unfolding fields
no_padding e = cc
