-- What holds of statements that are left: none has a fault, and none stands past the end.
use Rattle.std.proofs.Common.{◌≡◌, ℕ, ◌≤◌, Bool, true, false, List, [], ◌∷◌, Option, None, Some, refl, sym, subst, inl, inr, arith}
use Rattle.std.specs.Prelude.{IfSome}
use Rattle.std.specs.Map.{lookup}
use Rattle.std.proofs.lemmas.Bool.{cases_Bool}
use Rattle.std.proofs.lemmas.Option.{none-some}
use Rattle.st_base.specs.declared.fault.Fault.{Fault}
use Rattle.asm_objects.specs.Emitting.{CommonBelow, CommonsBelow, Left, Stands}
use Rattle.asm_objects.specs.Layout.{after, home_of, moved, grown_in, listed, reserved, is_local, end_of}
use Rattle.asm_objects.specs.Meaning.{is_later, earlier, faults, fault_of, at_line}
use Rattle.asm_statements.specs.declared.statement.Part.{Part}
use Rattle.asm_statements.specs.declared.statement.Part.TheVariants as part
use Rattle.asm_statements.specs.declared.statement.Statement.{Statement}
use Rattle.asm_statements.specs.declared.statement.What.{What}
use Rattle.asm_statements.specs.declared.statement.What.TheVariants as what
use Rattle.asm_objects.specs.declared.table.Definition.{Definition}
use Rattle.asm_objects.specs.declared.table.Home.{Home}
use Rattle.asm_objects.specs.declared.table.Home.TheVariants as home
use Rattle.asm_objects.specs.declared.table.Places.{Places}
use Rattle.asm_objects.specs.declared.table.Table.{Table}

-- ---- commons

-- what is at most a number is at most a greater one
below-more : (least most : ℕ) (h : Home) (offset : ℕ) → least ≤ most → CommonBelow least h offset → CommonBelow most h offset
below-more least most home.Common offset more below = omega (arith, more, below)
below-more least most home.Text offset more below = tt
below-more least most home.Data offset more below = tt
below-more least most home.Bss offset more below = tt

-- `.` is in a segment
pub here_below : (q : Part) (most offset : ℕ) → CommonBelow most (home_of q) offset
here_below part.Text most offset = tt
here_below part.Data most offset = tt

-- a definition that a look-up gives
pub common_found : (least most : ℕ) (test : List ℕ → Bool) (es : List (List ℕ × Definition)) → CommonsBelow least es → least ≤ most
    → IfSome (lookup test es) (λ d. CommonBelow most d.home d.offset)
common_found least most test [] below more = tt
common_found least most test (e ∷ es) below more =
    elim (cases_Bool (test e.0)) [ inl h ↦ rw h (below-more least most e.1.home e.1.offset more below.0) | inr h ↦ rw h (common_found least most test es below.1 more) ]

-- ---- places

-- the second places are not before the first
pub record Past (p q : Places) : Type 0 where
  pub text : p.text ≤ q.text
  pub datum : p.datum ≤ q.datum
  pub bss : p.bss ≤ q.bss
  pub entries : p.entries ≤ q.entries

-- places are not before themselves, nor before those that they are after
past_same : (p : Places) → Past p p
past_same p = record { text = omega arith; datum = omega arith; bss = omega arith; entries = omega arith }

past_trans : (p q r : Places) → Past p q → Past q r → Past p r
past_trans p q r a b =
    record { text = omega (arith, a.text, b.text); datum = omega (arith, a.datum, b.datum); bss = omega (arith, a.bss, b.bss); entries = omega (arith, a.entries, b.entries) }

-- entries, bss and bytes only grow
past_listed : (p : Places) (without : Bool) → Past p (listed p without)
past_listed p true = past_same p
past_listed p false = record { text = omega arith; datum = omega arith; bss = omega arith; entries = omega arith }

past_reserved : (p : Places) (without : Bool) (n : ℕ) → Past p (listed (reserved p n) without)
past_reserved p true n = record { text = omega arith; datum = omega arith; bss = omega arith; entries = omega arith }
past_reserved p false n = record { text = omega arith; datum = omega arith; bss = omega arith; entries = omega arith }

past_grown : (q : Part) (p : Places) (n : ℕ) → Past p (grown_in q p n)
past_grown part.Text p n = record { text = omega arith; datum = omega arith; bss = omega arith; entries = omega arith }
past_grown part.Data p n = record { text = omega arith; datum = omega arith; bss = omega arith; entries = omega arith }

-- so do places after a statement
past_moved : (p : Places) (w : What) → Past p (moved p w)
past_moved p (what.Label name) = past_listed p (is_local name)
past_moved p (what.Switch q) = record { text = omega arith; datum = omega arith; bss = omega arith; entries = omega arith }
past_moved p (what.Field width sum) = past_grown p.part p _
past_moved p (what.Space n) = past_grown p.part p n
past_moved p (what.Comm name n) = past_listed p false
past_moved p (what.Lcomm name n) = past_reserved p (is_local name) n
past_moved p (what.Stab s) = past_listed p false
past_moved p (what.Bytes bytes) = past_grown p.part p _
past_moved p (what.Align n) = past_grown p.part p _
past_moved p _ = past_same p

-- nor are they after a statement
pub past_after : (p : Places) (s : Statement) → Past p (after p s)
past_after p s = let m = past_moved p s.what in record { text = m.text; datum = m.datum; bss = m.bss; entries = m.entries }

-- places are not past the end
pub past_end : (p : Places) (ss : List Statement) → Past p (end_of p ss)
past_end p [] = past_same p
past_end p (s ∷ ss) = past_trans p (after p s) (end_of (after p s) ss) (past_after p s) (past_end (after p s) ss)

-- ---- faults

-- where two have no earlier fault, neither has one
no_earlier : (a b : Option Fault) → earlier a b ≡ None → (a ≡ None) × (b ≡ None)
no_earlier None b e = (refl, e)
no_earlier (Some f) None e = absurd (none-some f (sym e))
no_earlier (Some f) (Some g) e = elim (cases_Bool (is_later f g)) [ inl h ↦ absurd (none-some g (sym (rw h at e))) | inr h ↦ absurd (none-some f (sym (rw h at e))) ]

-- no fault stands at a line, where there is none
no_fault_at : (line : ℕ) (o : Option ℕ) → at_line line o ≡ None → o ≡ None
no_fault_at line None e = refl
no_fault_at line (Some n) e = absurd (none-some _ (sym e))

-- ---- statements that are left

-- the first of them
pub left_stands : (t : Table) (p : Places) (ss rest : List Statement) (s : Statement) → ss ≡ s ∷ rest → Left t p ss → Stands t p s.what
left_stands t p ss rest s e left = by (rw e at left)
  where
    by : Left t p (s ∷ rest) → Stands t p s.what
    by l =
        let here = past_end p (s ∷ rest) in
        let behind = past_end (after p s) rest in
        let end = l.end in
        record {
          no_fault = no_fault_at s.line (fault_of t p s.what) (no_earlier (at_line s.line (fault_of t p s.what)) (faults t (after p s) rest) l.no_fault).0;
          fits = l.fits.0;
          text = subst (λ (q : Places). p.text ≤ q.text) end here.text;
          datum = subst (λ (q : Places). p.datum ≤ q.datum) end here.datum;
          bss = subst (λ (q : Places). (moved p s.what).bss ≤ q.bss) end behind.bss;
          entries = subst (λ (q : Places). p.entries ≤ q.entries) end here.entries;
        }

-- those after it
pub left_step : (t : Table) (p q : Places) (ss rest : List Statement) (s : Statement) → ss ≡ s ∷ rest → Left t p ss → q ≡ after p s → Left t q rest
left_step t p q ss rest s e left moves = rw moves (by (rw e at left))
  where
    by : Left t p (s ∷ rest) → Left t (after p s) rest
    by l = record {
      no_fault = (no_earlier (at_line s.line (fault_of t p s.what)) (faults t (after p s) rest) l.no_fault).1;
      fits = l.fits.1;
      end = l.end;
    }
