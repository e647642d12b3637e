-- Units in order, and the steps up to the first fault among them.
use Rattle.std.proofs.Common.{◌≡◌, ℕ, ◌+◌, inl, inr, arith, refl, sym, ap, subst, ◌∙◌, List, [], ◌∷◌, ◌++◌, append-nil, append_assoc}
use Rattle.st_base.specs.declared.fault.Fault.{Fault}
use Rattle.nlist_codec.specs.declared.named.Named.{Named}
use Rattle.unit_outlines.specs.declared.outline_types.UnitSpan.{UnitSpan}
use Rattle.stab_units.specs.declared.unit.Unit.{Unit}
use Rattle.stab_units.specs.Units.{stabs_of, parsed, parsed_in, IsUnitOf, AreUnitsOf, UnitFaultAfter, SpansFaultAfter}
use Rattle.stab_units.specs.ReadingWalk.{HaveUnits}

units-append : (entries : List Named) (ss : List UnitSpan) (us : List Unit) (s : UnitSpan) (u : Unit) → AreUnitsOf entries ss us → IsUnitOf entries s u → AreUnitsOf entries (ss ++ s ∷ []) (us ++ u ∷ [])
units-append entries [] [] s u a b = (b, tt)
units-append entries [] (v ∷ us) s u a b = absurd a
units-append entries (t ∷ ss) [] s u a b = absurd a
units-append entries (t ∷ ss) (v ∷ us) s u a b = (a.0, units-append entries ss us s u a.1 b)

parsed_in-append : (entries : List Named) (ss : List UnitSpan) (s : UnitSpan) → parsed_in entries (ss ++ s ∷ []) ≡ parsed_in entries ss + parsed (stabs_of entries s)
parsed_in-append entries [] s = omega arith
parsed_in-append entries (t ∷ ss) s = let h = parsed_in-append entries ss s in omega arith

fault-behind : (entries : List Named) (done rest : List UnitSpan) (us : List Unit) (s : UnitSpan) (f : Fault) (old new : ℕ) → AreUnitsOf entries done us
    → UnitFaultAfter entries s f (old + parsed_in entries done) new → SpansFaultAfter entries (done ++ s ∷ rest) f old new
fault-behind entries [] rest us s f old new a h = let e : old + 0 ≡ old = omega arith in inl (subst (λ (z : ℕ). UnitFaultAfter entries s f z new) e h)
fault-behind entries (t ∷ done) rest [] s f old new a h = absurd a
fault-behind entries (t ∷ done) rest (u ∷ us) s f old new a h =
    let e : old + (parsed (stabs_of entries t) + parsed_in entries done) ≡ old + parsed (stabs_of entries t) + parsed_in entries done = omega arith in
    inr (u, a.0, fault-behind entries done rest us s f (old + parsed (stabs_of entries t)) new a.1 (subst (λ (z : ℕ). UnitFaultAfter entries s f z new) e h))

-- no unit was read yet
pub units_start : (entries : List Named) (all : List UnitSpan) (start : ℕ) (units : List Unit) → units ≡ [] → HaveUnits entries all all start units start
units_start entries all start units is = subst (λ (z : List Unit). HaveUnits entries all all start z start) (sym is)
    (record { done = []; read = tt; whole = refl; counted = omega arith })

-- one unit more
pub units_more : (entries : List Named) (all left rest : List UnitSpan) (start : ℕ) (units units_new : List Unit) (steps steps_new : ℕ) (s : UnitSpan) (u : Unit) → left ≡ s ∷ rest
    → IsUnitOf entries s u → units_new ≡ units ++ u ∷ [] → steps_new ≡ steps + parsed (stabs_of entries s) → HaveUnits entries all left start units steps → HaveUnits entries all rest start units_new steps_new
units_more entries all left rest start units units_new steps steps_new s u is one pushed ticks was = record {
  done = was.done ++ s ∷ [];
  read = subst (λ (z : List Unit). AreUnitsOf entries (was.done ++ s ∷ []) z) (sym pushed) (units-append entries was.done units s u was.read one);
  whole = append_assoc was.done (s ∷ []) rest ∙ ap (λ (z : List UnitSpan). was.done ++ z) (sym is) ∙ was.whole;
  counted = let c = was.counted in let a = parsed_in-append entries was.done s in omega arith;
}

-- the next unit has a fault
pub units_fault : (entries : List Named) (all left rest : List UnitSpan) (start : ℕ) (units : List Unit) (steps new : ℕ) (s : UnitSpan) (f : Fault) → left ≡ s ∷ rest
    → UnitFaultAfter entries s f steps new → HaveUnits entries all left start units steps → SpansFaultAfter entries all f start new
units_fault entries all left rest start units steps new s f is fault was =
    subst (λ (z : List UnitSpan). SpansFaultAfter entries z f start new) (ap (λ (z : List UnitSpan). was.done ++ z) (sym is) ∙ was.whole)
    (fault-behind entries was.done rest units s f start new was.read (subst (λ (z : ℕ). UnitFaultAfter entries s f z new) was.counted fault))

-- all units are read
pub units_all : (entries : List Named) (all left : List UnitSpan) (start : ℕ) (units : List Unit) (steps : ℕ) → left ≡ [] → HaveUnits entries all left start units steps
    → AreUnitsOf entries all units × (steps ≡ start + parsed_in entries all)
units_all entries all left start units steps is was =
    let same : was.done ≡ all = sym (append-nil was.done) ∙ ap (λ (z : List UnitSpan). was.done ++ z) (sym is) ∙ was.whole in
    (subst (λ (z : List UnitSpan). AreUnitsOf entries z units) same was.read, was.counted ∙ ap (λ (z : List UnitSpan). start + parsed_in entries z) same)
