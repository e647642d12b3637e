-- The world of entries has no more units than there are entries.
use Rattle.std.proofs.Common.{◌≡◌, ◌<◌, ◌≤◌, ◌^◌, ℕ, suc, ◌+◌, List, [], ◌∷◌, length, Result, Ok, Err, refl, ap, ◌∙◌, arith}
use Rattle.std.specs.Prelude.{IfOk}
use Rattle.nlist_codec.specs.declared.named.Named.{Named}
use Rattle.unit_outlines.specs.declared.outline_types.UnitSpan.{UnitSpan}
use Rattle.stab_units.specs.declared.unit.Unit.{Unit}
use Rattle.unit_outlines.specs.Outlines.{units_of}
use Rattle.stab_units.specs.Units.{AreUnitsOf}
use Rattle.type_graph.specs.declared.world.World.{World}
use Rattle.unit_index.specs.declared.owner.Owner.{Owner}
use Rattle.unit_index.specs.Owners.{rows_of, owners_of}
use Rattle.unit_index.specs.Expanding.{IsExpanded, units_expanded}
use Rattle.unit_index.proofs.FewLemmas.{units_few}

-- there is a unit for each span, expanded or not
as_many : (entries : List Named) (owners : List Owner) (read : List Unit) (number : ℕ) (spans : List UnitSpan) (units : List Unit) → AreUnitsOf entries spans units
    → length (units_expanded owners read number spans units) ≡ length spans
as_many entries owners read number [] [] are = refl
as_many entries owners read number [] (u ∷ units) are = absurd are
as_many entries owners read number (s ∷ spans) [] are = absurd are
as_many entries owners read number (s ∷ spans) (u ∷ units) are = ap suc (as_many entries owners read (number + 1) spans units are.1)

pub few_in_world : (end : ℕ) (entries : List Named) (world : World) → IsExpanded end entries world → length world.units ≤ length entries
few_in_world end entries world is =
    let spans = units_of end entries in
    let many : length world.units ≡ length spans = ap length is.is ∙ as_many entries (owners_of (rows_of spans)) is.units 0 spans is.units is.are in
    let few = units_few end [] 0 entries in
    omega (arith, many, few)

-- so where these are fewer than 2^32, those are too
pub few_if_read : {E : Type 0} (end : ℕ) (entries : List Named) (res : Result World E) → length entries < 2 ^ 32 → IfOk res (IsExpanded end entries)
    → IfOk res (λ w. length w.units < 2 ^ 32)
few_if_read end entries (Err e) short is = tt
few_if_read end entries (Ok world) short is = let few = few_in_world end entries world is in omega (arith, few, short)
