-- The stabs of a unit are read as one unit, or have one first fault; so do all units.
use Rattle.std.proofs.Common.{◌≡◌, ℕ, ◌⊎◌, inl, inr, Option, Some, None, Bool, true, false, refl, sym, ap, ◌∙◌, List, [], ◌∷◌, ◌+◌, cond}
use Rattle.st_base.specs.declared.fault.Fault.{Fault}
use Rattle.nlist_codec.specs.declared.named.Named.{Named}
use Rattle.stab_symbols.specs.declared.tree.Symbol.{Symbol}
use Rattle.stab_grammar.specs.StringFaults.{IsSpelling, IsStringFault}
use Rattle.stab_codes.specs.Table.{carries_symbol}
use Rattle.unit_outlines.specs.declared.outline_types.Marks.TheVariants.{Object}
use Rattle.unit_outlines.specs.declared.outline_types.UnitSpan.{UnitSpan}
use Rattle.stab_units.specs.declared.unit.ItemText.{ItemText}
use Rattle.stab_units.specs.declared.unit.ItemText.TheVariants as texts
use Rattle.stab_units.specs.declared.unit.Unit.{Unit}
use Rattle.unit_outlines.specs.Outlines.{OutlineFault, units_of}
use Rattle.stab_units.specs.Units.{Stab, Filed, spells, has_symbol, IsTextOf, HasFaultOf, HasFault, at_entry, item_of, IsRead, AreRead, FirstFault, FaultAfter, unit_of, stabs_of, parsed, IsUnitOf, AreUnitsOf, UnitFault, UnitFaultAfter, SpansFault, SpansFaultAfter}
use Rattle.stab_units.specs.ObjectUnits.{AreUnits, UnitsFault, UnitsFaultAfter}
use Rattle.unit_outlines.proofs.Together.{one_fault, some_outline}
use Rattle.stab_units.proofs.StopLemmas.{unit_fault}

differ : (f : Fault) → None ≡ Some f → ⊥
differ f e = absurd cc

same_some : (f g : Fault) → Some f ≡ Some g → f ≡ g
same_some f g e = cc

-- ---- over the law of one string

module _ (some_string : (text : List ℕ) → ((s : Symbol) × IsSpelling s text) ⊎ ((f : Fault) × IsStringFault text f))
    (one_string : (text : List ℕ) (s t : Symbol) → IsSpelling s text → IsSpelling t text → s ≡ t)
    (one_string_fault : (text : List ℕ) (f g : Fault) → IsStringFault text f → IsStringFault text g → f ≡ g)
    (not_both_of_string : (text : List ℕ) (s : Symbol) (f : Fault) → IsSpelling s text → IsStringFault text f → ⊥) where
  -- ---- one stab

  text_some : (carries : Bool) (string : List ℕ) (place : ℕ) (b : Bool) → spells carries string ≡ b → ((t : ItemText) × IsTextOf carries string t) ⊎ ((f : Fault) × HasFaultOf carries string place f)
  text_some carries string place true e = elim (some_string string) [
    | inl s ↦ inl (texts.Symbol s.0, (e, s.1))
    | inr f ↦ inr (at_entry place f.0, record { to_spell = e; fault = f.0; is_fault = f.1; told = refl })
  ]
  text_some carries string place false e = inl (texts.Raw string, (e, refl))

  text_one : (carries : Bool) (string : List ℕ) (t u : ItemText) → IsTextOf carries string t → IsTextOf carries string u → t ≡ u
  text_one carries string (texts.Symbol s) (texts.Symbol r) a b = ap texts.Symbol (one_string string s r a.1 b.1)
  text_one carries string (texts.Symbol s) (texts.Raw r) a b = let x = a.0 in let y = b.0 in absurd cc
  text_one carries string (texts.Raw t) (texts.Symbol r) a b = let x = a.0 in let y = b.0 in absurd cc
  text_one carries string (texts.Raw t) (texts.Raw u) a b = ap texts.Raw (a.1 ∙ sym b.1)

  text_no_fault : (carries : Bool) (string : List ℕ) (place : ℕ) (t : ItemText) (f : Fault) → IsTextOf carries string t → HasFaultOf carries string place f → ⊥
  text_no_fault carries string place (texts.Symbol s) f a h = not_both_of_string string s h.fault a.1 h.is_fault
  text_no_fault carries string place (texts.Raw t) f a h = let x = a.0 in let y = h.to_spell in absurd cc

  fault_one : (s : Stab) (f g : Fault) → HasFault s f → HasFault s g → f ≡ g
  fault_one s f g a b = a.told ∙ ap (at_entry s.place) (one_string_fault s.string a.fault b.fault a.is_fault b.is_fault) ∙ sym b.told

  read_some : (s : Stab) → ((i : Filed) × IsRead s i) ⊎ ((f : Fault) × HasFault s f)
  read_some s = elim (text_some (carries_symbol s.entry.kind) s.string s.place (has_symbol s) refl) [
    | inl t ↦ inl (record { file = s.file; item = item_of s.entry t.0 }, record { text = t.0; is = refl; reads = t.1 })
    | inr f ↦ inr f
  ]

  read_one : (s : Stab) (i j : Filed) → IsRead s i → IsRead s j → i ≡ j
  read_one s i j a b = a.is ∙ ap (λ (z : ItemText). record { file = s.file; item = item_of s.entry z }) (text_one (carries_symbol s.entry.kind) s.string a.text b.text a.reads b.reads) ∙ sym b.is

  read_no_fault : (s : Stab) (i : Filed) (f : Fault) → IsRead s i → HasFault s f → ⊥
  read_no_fault s i f a h = text_no_fault (carries_symbol s.entry.kind) s.string s.place a.text f a.reads h

  -- ---- stabs in order

  all_some : (ss : List Stab) → ((is : List Filed) × AreRead ss is) ⊎ ((f : Fault) × FirstFault ss f)
  all_some [] = inl ([], tt)
  all_some (s ∷ ss) = elim (read_some s) [
    | inr f ↦ inr (f.0, inl f.1)
    | inl i ↦ elim (all_some ss) [ inl more ↦ inl (i.0 ∷ more.0, (i.1, more.1)) | inr f ↦ inr (f.0, inr (i.0, i.1, f.1)) ]
  ]

  all_one : (ss : List Stab) (is js : List Filed) → AreRead ss is → AreRead ss js → is ≡ js
  all_one [] [] [] a b = refl
  all_one [] [] (j ∷ js) a b = absurd b
  all_one [] (i ∷ is) js a b = absurd a
  all_one (s ∷ ss) [] js a b = absurd a
  all_one (s ∷ ss) (i ∷ is) [] a b = absurd b
  all_one (s ∷ ss) (i ∷ is) (j ∷ js) a b = ap (λ (z : Filed). z ∷ is) (read_one s i j a.0 b.0) ∙ ap (λ (z : List Filed). j ∷ z) (all_one ss is js a.1 b.1)

  first_one : (ss : List Stab) (f g : Fault) → FirstFault ss f → FirstFault ss g → f ≡ g
  first_one [] f g a b = absurd a
  first_one (s ∷ ss) f g a b = elim a [
    | inl x ↦ elim b [ inl y ↦ fault_one s f g x y | inr y ↦ absurd (read_no_fault s y.0 f y.1 x) ]
    | inr x ↦ elim b [ inl y ↦ absurd (read_no_fault s x.0 g x.1 y) | inr y ↦ first_one ss f g x.2 y.2 ]
  ]

  not_both : (ss : List Stab) (is : List Filed) (f : Fault) → AreRead ss is → FirstFault ss f → ⊥
  not_both [] is f a h = absurd h
  not_both (s ∷ ss) [] f a h = absurd a
  not_both (s ∷ ss) (i ∷ is) f a h = elim h [ inl x ↦ read_no_fault s i f a.0 x | inr x ↦ not_both ss is f a.1 x.2 ]

  count_one : (ss : List Stab) (f g : Fault) (old m n : ℕ) → FaultAfter ss f old m → FaultAfter ss g old n → m ≡ n
  count_one [] f g old m n a b = absurd a
  count_one (s ∷ ss) f g old m n a b = elim a [
    | inl x ↦ elim b [ inl y ↦ x.1 ∙ sym y.1 | inr y ↦ absurd (read_no_fault s y.0 f y.1 x.0) ]
    | inr x ↦ elim b [ inl y ↦ absurd (read_no_fault s x.0 g x.1 y.0) | inr y ↦ count_one ss f g (old + cond (has_symbol s) 1 0) m n x.2 y.2 ]
  ]

  -- ---- one unit

  pub some_unit : (entries : List Named) (span : UnitSpan) → ((u : Unit) × IsUnitOf entries span u) ⊎ ((f : Fault) × UnitFault entries span f)
  some_unit entries span = elim (all_some (stabs_of entries span)) [
    | inl is ↦ inl (unit_of span is.0, record { items = is.0; read = is.1; is = refl })
    | inr f ↦ inr f
  ]

  pub one_unit : (entries : List Named) (span : UnitSpan) (u v : Unit) → IsUnitOf entries span u → IsUnitOf entries span v → u ≡ v
  one_unit entries span u v a b = a.is ∙ ap (unit_of span) (all_one (stabs_of entries span) a.items b.items a.read b.read) ∙ sym b.is

  pub one_unit_fault : (entries : List Named) (span : UnitSpan) (f g : Fault) → UnitFault entries span f → UnitFault entries span g → f ≡ g
  one_unit_fault entries span f g a b = first_one (stabs_of entries span) f g a b

  pub unit_not_both : (entries : List Named) (span : UnitSpan) (u : Unit) (f : Fault) → IsUnitOf entries span u → UnitFault entries span f → ⊥
  unit_not_both entries span u f a h = not_both (stabs_of entries span) a.items f a.read h

  pub one_unit_count : (entries : List Named) (span : UnitSpan) (f g : Fault) (old m n : ℕ) → UnitFaultAfter entries span f old m → UnitFaultAfter entries span g old n → m ≡ n
  one_unit_count entries span f g old m n a b = count_one (stabs_of entries span) f g old m n a b

  -- ---- units of spans

  pub spans_some : (entries : List Named) (spans : List UnitSpan) → ((us : List Unit) × AreUnitsOf entries spans us) ⊎ ((f : Fault) × SpansFault entries spans f)
  spans_some entries [] = inl ([], tt)
  spans_some entries (s ∷ spans) = elim (some_unit entries s) [
    | inr f ↦ inr (f.0, inl f.1)
    | inl u ↦ elim (spans_some entries spans) [ inl more ↦ inl (u.0 ∷ more.0, (u.1, more.1)) | inr f ↦ inr (f.0, inr (u.0, u.1, f.1)) ]
  ]

  pub spans_one : (entries : List Named) (spans : List UnitSpan) (us vs : List Unit) → AreUnitsOf entries spans us → AreUnitsOf entries spans vs → us ≡ vs
  spans_one entries [] [] [] a b = refl
  spans_one entries [] [] (v ∷ vs) a b = absurd b
  spans_one entries [] (u ∷ us) vs a b = absurd a
  spans_one entries (s ∷ spans) [] vs a b = absurd a
  spans_one entries (s ∷ spans) (u ∷ us) [] a b = absurd b
  spans_one entries (s ∷ spans) (u ∷ us) (v ∷ vs) a b = ap (λ (z : Unit). z ∷ us) (one_unit entries s u v a.0 b.0) ∙ ap (λ (z : List Unit). v ∷ z) (spans_one entries spans us vs a.1 b.1)

  pub spans_fault_one : (entries : List Named) (spans : List UnitSpan) (f g : Fault) → SpansFault entries spans f → SpansFault entries spans g → f ≡ g
  spans_fault_one entries [] f g a b = absurd a
  spans_fault_one entries (s ∷ spans) f g a b = elim a [
    | inl x ↦ elim b [ inl y ↦ one_unit_fault entries s f g x y | inr y ↦ absurd (unit_not_both entries s y.0 f y.1 x) ]
    | inr x ↦ elim b [ inl y ↦ absurd (unit_not_both entries s x.0 g x.1 y) | inr y ↦ spans_fault_one entries spans f g x.2 y.2 ]
  ]

  pub spans_not_both : (entries : List Named) (spans : List UnitSpan) (us : List Unit) (f : Fault) → AreUnitsOf entries spans us → SpansFault entries spans f → ⊥
  spans_not_both entries [] us f a h = absurd h
  spans_not_both entries (s ∷ spans) [] f a h = absurd a
  spans_not_both entries (s ∷ spans) (u ∷ us) f a h = elim h [ inl x ↦ unit_not_both entries s u f a.0 x | inr x ↦ spans_not_both entries spans us f a.1 x.2 ]

  pub spans_count_one : (entries : List Named) (spans : List UnitSpan) (f g : Fault) (old m n : ℕ) → SpansFaultAfter entries spans f old m → SpansFaultAfter entries spans g old n → m ≡ n
  spans_count_one entries [] f g old m n a b = absurd a
  spans_count_one entries (s ∷ spans) f g old m n a b = elim a [
    | inl x ↦ elim b [ inl y ↦ one_unit_count entries s f g old m n x y | inr y ↦ absurd (unit_not_both entries s y.0 f y.1 (unit_fault entries s f old m x)) ]
    | inr x ↦ elim b [ inl y ↦ absurd (unit_not_both entries s x.0 g x.1 (unit_fault entries s g old n y)) | inr y ↦ spans_count_one entries spans f g (old + parsed (stabs_of entries s)) m n x.2 y.2 ]
  ]

  -- ---- all units

  units_behind : (t : ℕ) (entries : List Named) (o : Option Fault) → OutlineFault Object entries o → ((us : List Unit) × AreUnits t entries us) ⊎ ((f : Fault) × UnitsFault t entries f)
  units_behind t entries (Some f) h = inr (f, inl h)
  units_behind t entries None h = elim (spans_some entries (units_of t entries)) [
    | inl us ↦ inl (us.0, record { no_fault = h; are = us.1 })
    | inr f ↦ inr (f.0, inr (h, f.1))
  ]

  pub some_units : (t : ℕ) (entries : List Named) → ((us : List Unit) × AreUnits t entries us) ⊎ ((f : Fault) × UnitsFault t entries f)
  some_units t entries = let o = some_outline Object entries in units_behind t entries o.0 o.1

  pub one_units : (t : ℕ) (entries : List Named) (us vs : List Unit) → AreUnits t entries us → AreUnits t entries vs → us ≡ vs
  one_units t entries us vs a b = spans_one entries (units_of t entries) us vs a.are b.are

  pub one_units_fault : (t : ℕ) (entries : List Named) (f g : Fault) → UnitsFault t entries f → UnitsFault t entries g → f ≡ g
  one_units_fault t entries f g a b = elim a [
    | inl x ↦ elim b [ inl y ↦ same_some f g (one_fault Object entries (Some f) (Some g) x y) | inr y ↦ absurd (differ f (one_fault Object entries None (Some f) y.0 x)) ]
    | inr x ↦ elim b [ inl y ↦ absurd (differ g (one_fault Object entries None (Some g) x.0 y)) | inr y ↦ spans_fault_one entries (units_of t entries) f g x.1 y.1 ]
  ]

  pub units_not_both : (t : ℕ) (entries : List Named) (us : List Unit) (f : Fault) → AreUnits t entries us → UnitsFault t entries f → ⊥
  units_not_both t entries us f a h = elim h [
    | inl x ↦ differ f (one_fault Object entries None (Some f) a.no_fault x)
    | inr x ↦ spans_not_both entries (units_of t entries) us f a.are x.1
  ]

  pub units_count_one : (t : ℕ) (entries : List Named) (f g : Fault) (old m n : ℕ) → UnitsFaultAfter t entries f old m → UnitsFaultAfter t entries g old n → m ≡ n
  units_count_one t entries f g old m n a b = elim a [
    | inl x ↦ elim b [ inl y ↦ x.1 ∙ sym y.1 | inr y ↦ absurd (differ f (one_fault Object entries None (Some f) y.0 x.0)) ]
    | inr x ↦ elim b [ inl y ↦ absurd (differ g (one_fault Object entries None (Some g) x.0 y.0)) | inr y ↦ spans_count_one entries (units_of t entries) f g old m n x.1 y.1 ]
  ]
