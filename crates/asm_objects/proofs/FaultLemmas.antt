-- The first fault of statements is one of theirs, and none of theirs stands before it.
use Rattle.std.proofs.Common.{◌≡◌, ◌⊎◌, true, false, List, [], ◌∷◌, Option, None, Some, refl, sym, ap, ◌∙◌, subst, inl, inr, arith}
use Rattle.std.proofs.lemmas.Bool.{cases_Bool}
use Rattle.std.proofs.lemmas.Bool.Decides.{nat_tests}
use Rattle.std.proofs.lemmas.Option.{none-some}
use Rattle.st_base.specs.declared.fault.Fault.{Fault}
use Rattle.asm_objects.specs.Meaning.{is_later, earlier, faults, fault_of, at_line, first_fault_of}
use Rattle.asm_objects.specs.FirstOfSource.{HasFault, IsFirst}
use Rattle.asm_objects.specs.Layout.{after, table_of, start}
use Rattle.asm_objects.specs.declared.table.Places.{Places}
use Rattle.asm_objects.specs.declared.table.Table.{Table}
use Rattle.asm_statements.specs.declared.statement.Statement.{Statement}

later_itself : (f : Fault) → is_later f f ≡ false
later_itself f = grind (arith, nat_tests)

-- g isn't before f, and h isn't before g
not_before : (f g h : Fault) → is_later f g ≡ false → is_later g h ≡ false → is_later f h ≡ false
not_before f g h a b = grind (arith, nat_tests)

before_not : (f g : Fault) → is_later f g ≡ true → is_later g f ≡ false
before_not f g a = grind (arith, nat_tests)

-- the earlier of two is one of them, and neither is before it
Either : Option Fault → Option Fault → Fault → Type 0
Either a b f = ((a ≡ Some f) ⊎ (b ≡ Some f)) × ((g : Fault) → (a ≡ Some g) ⊎ (b ≡ Some g) → is_later f g ≡ false)

either : (a b : Option Fault) (f : Fault) → earlier a b ≡ Some f → Either a b f
unfolding Either
either None b f e = (inr e, λ g h. elim h [ inl n ↦ absurd (none-some g n) | inr m ↦ let same : f ≡ g = cc in rw (← same) (later_itself f) ])
either (Some a) None f e = (inl e, λ g h. elim h [ inl m ↦ let same : f ≡ g = cc in rw (← same) (later_itself f) | inr n ↦ absurd (none-some g n) ])
either (Some a) (Some b) f e =
    elim (cases_Bool (is_later a b)) [
      | inl h ↦
          let is : b ≡ f = let k : Some b ≡ Some f = rw h at e in cc in (
            inr (ap Some is),
            λ g k. elim k [
              | inl m ↦ let same : a ≡ g = cc in rw (← same, ← is) (before_not a b h)
              | inr m ↦ let same : f ≡ g = cc in rw (← same) (later_itself f)
            ],
          )
      | inr h ↦
          let is : a ≡ f = let k : Some a ≡ Some f = rw h at e in cc in (
            inl (ap Some is),
            λ g k. elim k [
              | inl m ↦ let same : f ≡ g = cc in rw (← same) (later_itself f)
              | inr m ↦ let same : b ≡ g = cc in rw (← same, ← is) h
            ],
          )
    ]

no_faults : (t : Table) (p : Places) (ss : List Statement) → faults t p ss ≡ None → (f : Fault) → HasFault t p ss f → ⊥
no_faults t p [] e f h = h
no_faults t p (s ∷ ss) e f h = by (at_line s.line (fault_of t p s.what)) (faults t (after p s) ss) refl refl e h (λ k m. no_faults t (after p s) ss k f m)
  where
    by : (a b : Option Fault) → at_line s.line (fault_of t p s.what) ≡ a → faults t (after p s) ss ≡ b → earlier a b ≡ None
        → (at_line s.line (fault_of t p s.what) ≡ Some f) ⊎ HasFault t (after p s) ss f → (faults t (after p s) ss ≡ None → HasFault t (after p s) ss f → ⊥) → ⊥
    by None b x y k (inl m) rest = none-some f (sym x ∙ m)
    by None b x y k (inr m) rest = rest (y ∙ k) m
    by (Some a) None x y k m rest = none-some a (sym k)
    by (Some a) (Some b) x y k m rest = elim (cases_Bool (is_later a b)) [ inl h ↦ none-some b (sym (rw h at k)) | inr h ↦ none-some a (sym (rw h at k)) ]

first_at : (t : Table) (p : Places) (ss : List Statement) (f : Fault) → faults t p ss ≡ Some f → HasFault t p ss f × ((g : Fault) → HasFault t p ss g → is_later f g ≡ false)
unfolding Either
first_at t p [] f e = absurd (none-some f e)
first_at t p (s ∷ ss) f e = by (faults t (after p s) ss) refl (λ b y. first_at t (after p s) ss b y)
  where
    by : (b : Option Fault) → faults t (after p s) ss ≡ b
        → ((h : Fault) → faults t (after p s) ss ≡ Some h → HasFault t (after p s) ss h × ((g : Fault) → HasFault t (after p s) ss g → is_later h g ≡ false))
        → HasFault t p (s ∷ ss) f × ((g : Fault) → HasFault t p (s ∷ ss) g → is_later f g ≡ false)
    by None y others =
        let k : earlier (at_line s.line (fault_of t p s.what)) None ≡ Some f = ap (earlier (at_line s.line (fault_of t p s.what))) (sym y) ∙ e in
        let o = either (at_line s.line (fault_of t p s.what)) None f k in (
          elim o.0 [ inl m ↦ inl m | inr m ↦ absurd (none-some f m) ],
          λ g h. elim h [ inl m ↦ o.1 g (inl m) | inr m ↦ absurd (no_faults t (after p s) ss y g m) ],
        )
    by (Some b) y others =
        let k : earlier (at_line s.line (fault_of t p s.what)) (Some b) ≡ Some f = ap (earlier (at_line s.line (fault_of t p s.what))) (sym y) ∙ e in
        let o = either (at_line s.line (fault_of t p s.what)) (Some b) f k in
        let rest = others b y in (
          elim o.0 [ inl m ↦ inl m | inr m ↦ let is : b ≡ f = cc in inr (subst (HasFault t (after p s) ss) is rest.0) ],
          λ g h. elim h [ inl m ↦ o.1 g (inl m) | inr m ↦ not_before f b g (o.1 b (inr refl)) (rest.1 g m) ],
        )

pub first_is : (ss : List Statement) (f : Fault) → first_fault_of ss ≡ Some f → IsFirst ss f
first_is ss f e = let r = first_at (table_of ss) start ss f e in record { has = r.0; first = r.1 }

pub none_has : (ss : List Statement) → first_fault_of ss ≡ None → (f : Fault) → HasFault (table_of ss) start ss f → ⊥
none_has ss e = no_faults (table_of ss) start ss e
