-- A list of entries has no more units than entries.
use Rattle.std.proofs.Common.{◌≡◌, ◌≤◌, ℕ, suc, List, [], ◌∷◌, length, refl, ap, arith}
use Rattle.nlist_codec.specs.declared.named.Named.{Named}
use Rattle.unit_outlines.specs.declared.outline_types.UnitSpan.{UnitSpan}
use Rattle.stab_units.specs.declared.unit.Unit.{Unit}
use Rattle.unit_outlines.specs.Outlines.{units_of}
use Rattle.stab_units.specs.Units.{AreUnitsOf}
use Rattle.stab_units.specs.ObjectUnits.{AreUnits}
use Rattle.unit_outlines.proofs.FewSpans.{few_spans}

-- there is a unit for each span
one_each : (entries : List Named) (spans : List UnitSpan) (units : List Unit) → AreUnitsOf entries spans units → length units ≡ length spans
one_each entries [] [] are = refl
one_each entries [] (u ∷ units) are = absurd are
one_each entries (s ∷ spans) [] are = absurd are
one_each entries (s ∷ spans) (u ∷ units) are = ap suc (one_each entries spans units are.1)

-- no more units than entries
pub few : (end : ℕ) (entries : List Named) (units : List Unit) → AreUnits end entries units → length units ≤ length entries
few end entries units are =
    let spans = few_spans end entries in
    let each = one_each entries (units_of end entries) units are.are in
    omega (arith, spans, each)
