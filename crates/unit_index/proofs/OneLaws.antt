-- The entries of an image have one index or one fault, and are one world or have one fault.
use Rattle.std.proofs.Common.{◌≡◌, ℕ, ◌⊎◌, inl, inr, Option, Some, None, refl, sym, ap, ◌∙◌, List}
use Rattle.st_base.specs.declared.fault.Fault.{Fault}
use Rattle.nlist_codec.specs.declared.named.Named.{Named}
use Rattle.unit_outlines.specs.declared.outline_types.Marks.{Marks}
use Rattle.unit_outlines.specs.declared.outline_types.Marks.TheVariants.{Image}
use Rattle.unit_outlines.specs.declared.outline_types.UnitSpan.{UnitSpan}
use Rattle.stab_units.specs.declared.unit.Unit.{Unit}
use Rattle.unit_outlines.specs.Outlines.{OutlineFault, units_of}
use Rattle.stab_units.specs.Units.{AreUnitsOf, SpansFault, SpansFaultAfter}
use Rattle.stab_units.proofs.StopLemmas.{spans_count}
use Rattle.type_graph.specs.declared.world.World.{World}
use Rattle.type_graph.specs.Worlds.{externals_of}
use Rattle.unit_index.specs.Owners.{rows_of, index_fault}
use Rattle.unit_index.specs.Expanding.{IndexFault, expanded, IsExpanded, ExpandFault, ExpandFaultAfter}

differ : (f : Fault) → None ≡ Some f → ⊥
differ f e = absurd cc

same_some : (f g : Fault) → Some f ≡ Some g → f ≡ g
same_some f g e = cc

-- ---- the index

module _ (some_outline : (marks : Marks) (entries : List Named) → (f : Option Fault) × OutlineFault marks entries f)
    (one_outline : (marks : Marks) (entries : List Named) (f g : Option Fault) → OutlineFault marks entries f → OutlineFault marks entries g → f ≡ g) where
  behind : (t : ℕ) (entries : List Named) (o : Option Fault) → OutlineFault Image entries None → index_fault (rows_of (units_of t entries)) ≡ o → (f : Option Fault) × IndexFault t entries f
  behind t entries None none is = (None, (none, is))
  behind t entries (Some f) none is = (Some f, inr (none, is))

  found : (t : ℕ) (entries : List Named) (o : Option Fault) → OutlineFault Image entries o → (f : Option Fault) × IndexFault t entries f
  found t entries None h = behind t entries (index_fault (rows_of (units_of t entries))) h refl
  found t entries (Some f) h = (Some f, inl h)

  -- an index has a fault or none
  pub some_index : (t : ℕ) (entries : List Named) → (f : Option Fault) × IndexFault t entries f
  some_index t entries = let o = some_outline Image entries in found t entries o.0 o.1

  no_other : (t : ℕ) (entries : List Named) (f : Fault) → IndexFault t entries None → IndexFault t entries (Some f) → ⊥
  no_other t entries f a b = elim b [
    | inl y ↦ differ f (one_outline Image entries None (Some f) a.0 y)
    | inr y ↦ differ f (sym a.1 ∙ y.1)
  ]

  -- and no two
  pub one_index : (t : ℕ) (entries : List Named) (f g : Option Fault) → IndexFault t entries f → IndexFault t entries g → f ≡ g
  one_index t entries None None a b = refl
  one_index t entries None (Some g) a b = absurd (no_other t entries g a b)
  one_index t entries (Some f) None a b = absurd (no_other t entries f b a)
  one_index t entries (Some f) (Some g) a b = elim a [
    | inl x ↦ elim b [ inl y ↦ one_outline Image entries (Some f) (Some g) x y | inr y ↦ absurd (differ f (one_outline Image entries None (Some f) y.0 x)) ]
    | inr x ↦ elim b [ inl y ↦ absurd (differ g (one_outline Image entries None (Some g) x.0 y)) | inr y ↦ sym x.1 ∙ y.1 ]
  ]

-- ---- worlds

module _ (some_index : (t : ℕ) (entries : List Named) → (f : Option Fault) × IndexFault t entries f)
    (one_index : (t : ℕ) (entries : List Named) (f g : Option Fault) → IndexFault t entries f → IndexFault t entries g → f ≡ g)
    (spans_some : (entries : List Named) (spans : List UnitSpan) → ((units : List Unit) × AreUnitsOf entries spans units) ⊎ ((f : Fault) × SpansFault entries spans f))
    (spans_one : (entries : List Named) (spans : List UnitSpan) (us vs : List Unit) → AreUnitsOf entries spans us → AreUnitsOf entries spans vs → us ≡ vs)
    (spans_fault_one : (entries : List Named) (spans : List UnitSpan) (f g : Fault) → SpansFault entries spans f → SpansFault entries spans g → f ≡ g)
    (spans_not_both : (entries : List Named) (spans : List UnitSpan) (units : List Unit) (f : Fault) → AreUnitsOf entries spans units → SpansFault entries spans f → ⊥) where
  world_behind : (t : ℕ) (entries : List Named) (o : Option Fault) → IndexFault t entries o → ((world : World) × IsExpanded t entries world) ⊎ ((f : Fault) × ExpandFault t entries f)
  world_behind t entries (Some f) h = inr (f, inl h)
  world_behind t entries None h = elim (spans_some entries (units_of t entries)) [
    | inl us ↦ inl (record { units = expanded (units_of t entries) us.0; externals = externals_of entries }, record { index = h; units = us.0; are = us.1; is = refl; externals = refl })
    | inr f ↦ inr (f.0, inr (h, f.1))
  ]

  pub some_world : (t : ℕ) (entries : List Named) → ((world : World) × IsExpanded t entries world) ⊎ ((f : Fault) × ExpandFault t entries f)
  some_world t entries = let o = some_index t entries in world_behind t entries o.0 o.1

  pub one_world : (t : ℕ) (entries : List Named) (v w : World) → IsExpanded t entries v → IsExpanded t entries w → v ≡ w
  one_world t entries v w a b =
      let units = a.is ∙ ap (expanded (units_of t entries)) (spans_one entries (units_of t entries) a.units b.units a.are b.are) ∙ sym b.is in
      let externals = a.externals ∙ sym b.externals in
      rw (units, externals) refl

  pub one_world_fault : (t : ℕ) (entries : List Named) (f g : Fault) → ExpandFault t entries f → ExpandFault t entries g → f ≡ g
  one_world_fault t entries f g a b = elim a [
    | inl x ↦ elim b [ inl y ↦ same_some f g (one_index t entries (Some f) (Some g) x y) | inr y ↦ absurd (differ f (one_index t entries None (Some f) y.0 x)) ]
    | inr x ↦ elim b [ inl y ↦ absurd (differ g (one_index t entries None (Some g) x.0 y)) | inr y ↦ spans_fault_one entries (units_of t entries) f g x.1 y.1 ]
  ]

  pub world_not_both : (t : ℕ) (entries : List Named) (world : World) (f : Fault) → IsExpanded t entries world → ExpandFault t entries f → ⊥
  world_not_both t entries world f a h = elim h [
    | inl x ↦ differ f (one_index t entries None (Some f) a.index x)
    | inr x ↦ spans_not_both entries (units_of t entries) a.units f a.are x.1
  ]

-- ---- steps up to the fault of a world

pub world_count : (t : ℕ) (entries : List Named) (f : Fault) (old : ℕ) → ExpandFault t entries f → (new : ℕ) × ExpandFaultAfter t entries f old new
world_count t entries f old h = elim h [
  | inl a ↦ (old, inl (a, refl))
  | inr b ↦ let more = spans_count entries (units_of t entries) f old b.1 in (more.0, inr (b.0, more.1))
]

module _ (one_index : (t : ℕ) (entries : List Named) (f g : Option Fault) → IndexFault t entries f → IndexFault t entries g → f ≡ g)
    (spans_count_one : (entries : List Named) (spans : List UnitSpan) (f g : Fault) (old m n : ℕ) → SpansFaultAfter entries spans f old m → SpansFaultAfter entries spans g old n → m ≡ n) where
  pub world_count_one : (t : ℕ) (entries : List Named) (f g : Fault) (old m n : ℕ) → ExpandFaultAfter t entries f old m → ExpandFaultAfter t entries g old n → m ≡ n
  world_count_one t entries f g old m n a b = elim a [
    | inl x ↦ elim b [ inl y ↦ x.1 ∙ sym y.1 | inr y ↦ absurd (differ f (one_index t entries None (Some f) y.0 x.0)) ]
    | inr x ↦ elim b [ inl y ↦ absurd (differ g (one_index t entries None (Some g) x.0 y.0)) | inr y ↦ spans_count_one entries (units_of t entries) f g old m n x.1 y.1 ]
  ]
