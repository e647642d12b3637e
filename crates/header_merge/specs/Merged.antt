-- The entries of an image whose header ranges are grouped: a range that is kept for itself stays, with its instance as the value of its
-- N_BINCL; every other range loses its own entries and its N_EINCL, and its N_BINCL becomes an N_EXCL with the instance of the range
-- that is kept for it. After "The stabs debug format", on include files; which ranges are kept, and instances, are this project's own.
use Rattle.std.specs.Prelude.{ℕ, ◌==◌, Bool, true, List, slice_get}
use Rattle.std.specs.List.{slice_index_or}
use Rattle.std.specs.Option.{option_map_or}
use Rattle.nlist_codec.specs.declared.named.Named.{Named}
use Rattle.stab_units.specs.Changing.{Change, changed}
use Rattle.bincl_match.specs.declared.range.Grouping.{Grouping}

-- the range at this place is kept for itself; a place past the last range counts as kept
abbrev pub is_kept : Grouping → ℕ → Bool
is_kept g place = option_map_or (λ first. first == place) (slice_get g.kept place) true

-- what becomes of each header. In entries without an N_EXCL the headers are the ranges, place by place
abbrev pub change_of : Grouping → Change
change_of g = record { kept = is_kept g; value = λ place. slice_index_or g.instance place 0 }

-- the entries of the image
abbrev pub merged : Grouping → List Named → List Named
merged g entries = changed (change_of g) entries
