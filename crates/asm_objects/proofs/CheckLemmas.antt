-- The earlier of faults is the same in whatever order they are joined.
use Rattle.std.proofs.Common.{◌≡◌, true, false, Option, None, Some, List, ◌∷◌, refl, ◌∙◌, inl, inr, arith}
use Rattle.std.proofs.lemmas.Bool.{cases_Bool}
use Rattle.std.proofs.lemmas.Bool.Decides.{nat_tests}
use Rattle.st_base.specs.declared.fault.Fault.{Fault}
use Rattle.asm_statements.specs.Fits.{AllFit, StatementFits}
use Rattle.asm_objects.specs.Meaning.{is_later, earlier, faults, fault_of, at_line}
use Rattle.asm_objects.specs.Layout.{after}
use Rattle.asm_objects.specs.declared.table.Places.{Places}
use Rattle.asm_objects.specs.declared.table.Table.{Table}
use Rattle.asm_statements.specs.declared.statement.Statement.{Statement}

later-trans : (f g h : Fault) → is_later f g ≡ true → is_later g h ≡ true → is_later f h ≡ true
later-trans f g h a b = grind (arith, nat_tests)

not-later-trans : (f g h : Fault) → is_later f g ≡ false → is_later g h ≡ false → is_later f h ≡ false
not-later-trans f g h a b = grind (arith, nat_tests)

earlier-three : (f g h : Fault) → earlier (earlier (Some f) (Some g)) (Some h) ≡ earlier (Some f) (earlier (Some g) (Some h))
earlier-three f g h =
    elim (cases_Bool (is_later f g)) [
      | inl a ↦ elim (cases_Bool (is_later g h)) [
        | inl b ↦ rw (a, b, later-trans f g h a b) refl
        | inr b ↦ rw (a, b, a) refl
      ]
      | inr a ↦ elim (cases_Bool (is_later g h)) [
        | inl b ↦ rw (a, b) refl
        | inr b ↦ rw (a, b, not-later-trans f g h a b, a) refl
      ]
    ]

pub earlier_assoc : (a b c : Option Fault) → earlier (earlier a b) c ≡ earlier a (earlier b c)
earlier_assoc None b c = refl
earlier_assoc (Some f) None c = refl
earlier_assoc (Some f) (Some g) None = elim (cases_Bool (is_later f g)) [ inl a ↦ rw a refl | inr a ↦ rw a refl ]
earlier_assoc (Some f) (Some g) (Some h) = earlier-three f g h

-- one statement more is looked at
pub faults_step : (t : Table) (p q : Places) (ss rest : List Statement) (s : Statement) (first next whole : Option Fault) → ss ≡ s ∷ rest
    → earlier first (faults t p ss) ≡ whole → next ≡ earlier first (at_line s.line (fault_of t p s.what)) → q ≡ after p s → earlier next (faults t q rest) ≡ whole
faults_step t p q ss rest s first next whole e invariant is moves =
    rw (is, moves) (earlier_assoc first (at_line s.line (fault_of t p s.what)) (faults t (after p s) rest) ∙ (rw e at invariant))

-- the statements after one fit
pub fits_step : (ss rest : List Statement) (s : Statement) → ss ≡ s ∷ rest → AllFit ss → StatementFits s.what × AllFit rest
fits_step ss rest s e fit = rw e at fit
