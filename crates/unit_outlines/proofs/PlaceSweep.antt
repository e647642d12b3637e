-- One pass that keeps whether a unit is being read and how many headers it has tells what the definition tells.
use Rattle.std.proofs.Common.{◌≡◌, ℕ, ◌+◌, refl, ap, List, [], ◌∷◌}
use Rattle.nlist_codec.specs.declared.named.Named.{Named}
use Rattle.unit_outlines.specs.declared.outline_types.Marks.{Marks}
use Rattle.unit_outlines.specs.Firsts.{told_at, first_told}
use Rattle.unit_outlines.specs.Marks.{in_unit, headers_in}
use Rattle.unit_outlines.specs.Outlines.{place_tell, unit_tell}
use Rattle.unit_outlines.specs.Sweeps.{sweep_places}
use Rattle.std.specs.Prelude.{false}

module _ (marks : Marks) where
  sweep_behind : (back es : List Named) (p : ℕ) → sweep_places marks (in_unit back) (headers_in back) p es ≡ first_told (unit_tell marks) back p es
  sweep_behind back [] p = refl
  sweep_behind back (x ∷ es) p = ap (told_at (place_tell marks (in_unit back) (headers_in back) x) p) (sweep_behind (x ∷ back) es (p + 1))

  pub places_are : (es : List Named) → sweep_places marks false 0 0 es ≡ first_told (unit_tell marks) [] 0 es
  places_are es = sweep_behind [] es 0

pub ruleset places_laws = places_are
