-- The values of the names that C source gives: in an object file the name of an external is the one in the source with `_` before
-- it. Of several externals of one name the first counts. After "The stabs debug format", on global variables; the `_` and the order
-- are this project's own.
use Rattle.std.specs.Prelude.{ℕ, List, ◌∷◌, Bool, if◌then◌else◌, Option, Some, None, option_map}
use Rattle.std.specs.Option.{option_or}
use Rattle.std.specs.List.{find}
use Rattle.std.specs.Ordering.{nat_cmp}
use Rattle.std.specs.Str.{bytes_eq}
use Rattle.std.specs.Cmp.Lexicographic.{slice_cmp}
use Rattle.std.specs.BTreeMap.{BTreeMap, get_by}
use Rattle.std.specs.Borrow.{Bor}
use Rattle.type_graph.specs.declared.world.External.{External}

-- the value of the first external that is `_` and the name
abbrev pub external_value : List External → List ℕ → Option ℕ
external_value externals name = option_map (λ e. e.value) (find (λ e. bytes_eq e.name (95 ∷ name)) externals)

-- ---- a map from names without their `_` to values

-- what the map has for a name
abbrev pub look : BTreeMap (Bor (List ℕ)) ℕ → List ℕ → Option ℕ
look map name = get_by (λ k. slice_cmp nat_cmp name k.now) map

-- the value, where it is that of the name
abbrev pub value_if : Bool → ℕ → Option ℕ
value_if same value = if same then Some value else None

-- what is known of a name with one external more: the first stays
abbrev pub noted : List ℕ → ℕ → List ℕ → Option ℕ → Option ℕ
noted full value name known = option_or known (value_if (bytes_eq full (95 ∷ name)) value)
