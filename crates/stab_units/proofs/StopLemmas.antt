-- Steps up to a fault: the fault is the first, and each first fault has a count of steps.
use Rattle.std.proofs.Common.{ℕ, ◌+◌, inl, inr, cond, refl, List, [], ◌∷◌}
use Rattle.st_base.specs.declared.fault.Fault.{Fault}
use Rattle.nlist_codec.specs.declared.named.Named.{Named}
use Rattle.unit_outlines.specs.declared.outline_types.UnitSpan.{UnitSpan}
use Rattle.unit_outlines.specs.Outlines.{units_of}
use Rattle.stab_units.specs.Units.{Stab, has_symbol, parsed, stabs_of, FirstFault, FaultAfter, UnitFault, UnitFaultAfter, SpansFault, SpansFaultAfter}
use Rattle.stab_units.specs.ObjectUnits.{UnitsFault, UnitsFaultAfter}

-- ---- the fault is the first

stabs_fault : (ss : List Stab) (f : Fault) (old new : ℕ) → FaultAfter ss f old new → FirstFault ss f
stabs_fault [] f old new h = absurd h
stabs_fault (s ∷ ss) f old new h = elim h [ inl a ↦ inl a.0 | inr b ↦ inr (b.0, b.1, stabs_fault ss f (old + cond (has_symbol s) 1 0) new b.2) ]

pub unit_fault : (entries : List Named) (span : UnitSpan) (f : Fault) (old new : ℕ) → UnitFaultAfter entries span f old new → UnitFault entries span f
unit_fault entries span f old new h = stabs_fault (stabs_of entries span) f old new h

pub spans_fault : (entries : List Named) (spans : List UnitSpan) (f : Fault) (old new : ℕ) → SpansFaultAfter entries spans f old new → SpansFault entries spans f
spans_fault entries [] f old new h = absurd h
spans_fault entries (s ∷ spans) f old new h = elim h [
  | inl a ↦ inl (unit_fault entries s f old new a)
  | inr b ↦ inr (b.0, b.1, spans_fault entries spans f (old + parsed (stabs_of entries s)) new b.2)
]

-- ---- a count for each first fault

stabs_count : (ss : List Stab) (f : Fault) (old : ℕ) → FirstFault ss f → (new : ℕ) × FaultAfter ss f old new
stabs_count [] f old h = absurd h
stabs_count (s ∷ ss) f old h = elim h [
  | inl a ↦ (old + 1, inl (a, refl))
  | inr b ↦ let more = stabs_count ss f (old + cond (has_symbol s) 1 0) b.2 in (more.0, inr (b.0, b.1, more.1))
]

pub unit_count : (entries : List Named) (span : UnitSpan) (f : Fault) (old : ℕ) → UnitFault entries span f → (new : ℕ) × UnitFaultAfter entries span f old new
unit_count entries span f old h = stabs_count (stabs_of entries span) f old h

pub spans_count : (entries : List Named) (spans : List UnitSpan) (f : Fault) (old : ℕ) → SpansFault entries spans f → (new : ℕ) × SpansFaultAfter entries spans f old new
spans_count entries [] f old h = absurd h
spans_count entries (s ∷ spans) f old h = elim h [
  | inl a ↦ let here = unit_count entries s f old a in (here.0, inl here.1)
  | inr b ↦ let more = spans_count entries spans f (old + parsed (stabs_of entries s)) b.2 in (more.0, inr (b.0, b.1, more.1))
]

pub units_count : (t : ℕ) (entries : List Named) (f : Fault) (old : ℕ) → UnitsFault t entries f → (new : ℕ) × UnitsFaultAfter t entries f old new
units_count t entries f old h = elim h [
  | inl a ↦ (old, inl (a, refl))
  | inr b ↦ let more = spans_count entries (units_of t entries) f old b.1 in (more.0, inr (b.0, more.1))
]
