-- What reading a whole string answers.
use Rattle.std.proofs.Common.{◌≡◌, ℕ, ◌≤◌, ◌⊎◌, inl, inr, List, length, Result, Ok, Err, refl, sym, ap, ◌∙◌, arith}
use Rattle.std.specs.Prelude.{IfOk}
use Rattle.st_base.specs.declared.fault.Fault.{Fault}
use Rattle.readers.specs.declared.stop.Stop.{Stop}
use Rattle.readers.specs.declared.stop.Refusal.{Refusal}
use Rattle.readers.specs.declared.fault.TextFault.{TextFault}
use Rattle.readers.specs.declared.fault.Unread.{Unread}
use Rattle.readers.specs.declared.fault.Unread.TheVariants as unread
use Rattle.readers.specs.Spelling.{Spells}
use Rattle.readers.specs.Readers.{Fails}
use Rattle.readers.specs.TextFaults.{place_of, placed, told, LeavesWithin}
use Rattle.readers.proofs.First as firsts
use Rattle.readers.proofs.Answers as answers
use Rattle.stab_symbols.specs.declared.limits.TheConstants.{GREATEST_DEPTH}
use Rattle.stab_symbols.specs.declared.tree.Symbol.{Symbol}
use Rattle.stab_grammar.specs.StringFaults.{IsSpelling, symbol_form, HasStringFault, IsFirstStringFault, fault_of, IsStringFault}
use Rattle.stab_grammar.specs.Grammar.{symbol_at, whole_symbol}
use Rattle.stab_grammar.proofs.Fields.{ends_type}
use Rattle.stab_grammar.proofs.Symbols.{symbol_laws}

-- ---- a spelling, as a record and as its three facts

-- its three facts make a spelling
pub to_spelling : (s : Symbol) (text : List ℕ) → Spells GREATEST_DEPTH symbol_form s text → IsSpelling s text
to_spelling s text h = record { shaped = h.0; depth = h.1; spelled = h.2 }

-- a spelling has its three facts
pub from_spelling : (s : Symbol) (text : List ℕ) → IsSpelling s text → Spells GREATEST_DEPTH symbol_form s text
from_spelling s text h = (h.shaped, h.depth, h.spelled)

-- ---- what the call answers, by what reading gives

-- the call answers what reading gives
pub Answers : List ℕ → Result Symbol Unread → Type 0
Answers = answers.Answers GREATEST_DEPTH symbol_at symbol_form ends_type symbol_laws

-- a symbol that was read
pub answers_ok : (text : List ℕ) (s : Symbol) → whole_symbol text ≡ Ok s → Answers text (Ok s)
unfolding whole_symbol Answers
answers_ok text s e = e

-- a refusal, with its place
pub answers_err : (text : List ℕ) (e : Refusal) → Fails e (whole_symbol text) → Answers text (Err (told (length text) e))
unfolding whole_symbol Answers
answers_err text e g = answers.answers_err GREATEST_DEPTH symbol_at symbol_form ends_type symbol_laws text e g

-- no more is left than there is
pub may_tell : (text : List ℕ) (e : Refusal) → Fails e (whole_symbol text) → LeavesWithin (length text) e
unfolding whole_symbol
may_tell text e g = answers.may_tell GREATEST_DEPTH symbol_at symbol_form ends_type symbol_laws text e g

-- what is read is spelled so
pub by_found : (text : List ℕ) (v : Result Symbol Unread) → Answers text v → IfOk v (λ s. IsSpelling s text)
unfolding Answers
by_found text (Ok s) h = to_spelling s text (answers.by_found GREATEST_DEPTH symbol_at symbol_form ends_type symbol_laws text (Ok s) h)
by_found text (Err e) h = tt

-- what is spelled so is read
pub by_only : (text : List ℕ) (v : Result Symbol Unread) → Answers text v → (s : Symbol) → IsSpelling s text → (v ≡ Ok s) ⊎ (v ≡ Err unread.Memory)
unfolding Answers
by_only text v h s is = answers.by_only GREATEST_DEPTH symbol_at symbol_form ends_type symbol_laws text v h s (from_spelling s text is)

-- the fault that is reported is the first
pub by_fault : (text : List ℕ) (v : Result Symbol Unread) → Answers text v → (f : TextFault) → v ≡ Err (unread.At f) → IsFirstStringFault text f
unfolding Answers
by_fault text v h f e = answers.by_fault GREATEST_DEPTH symbol_at symbol_form ends_type symbol_laws text v h f e

-- the first fault is reported
pub by_first : (text : List ℕ) (v : Result Symbol Unread) → Answers text v → (f : TextFault) → IsFirstStringFault text f → (v ≡ Err (unread.At f)) ⊎ (v ≡ Err unread.Memory)
unfolding Answers
by_first text v h f is = answers.by_first GREATEST_DEPTH symbol_at symbol_form ends_type symbol_laws text v h f is

-- ---- the laws

-- two faults never have one place
pub one_place : (text : List ℕ) (f g : TextFault) → HasStringFault text f → HasStringFault text g → place_of f ≡ place_of g → f ≡ g
one_place text f g h k e = firsts.one_place GREATEST_DEPTH symbol_at symbol_form ends_type symbol_laws text f g h k e

-- there is a symbol, or a fault that is reported
pub some : (text : List ℕ) → ((s : Symbol) × IsSpelling s text) ⊎ ((f : Fault) × IsStringFault text f)
unfolding whole_symbol
some text = by_answer (whole_symbol text) refl
  where
    by_answer : (v : Result Symbol Stop) → whole_symbol text ≡ v → ((s : Symbol) × IsSpelling s text) ⊎ ((f : Fault) × IsStringFault text f)
    by_answer (Ok s) e = inl (s, to_spelling s text (firsts.found GREATEST_DEPTH symbol_at symbol_form ends_type symbol_laws text s e))
    by_answer (Err d) e =
        let g = firsts.first GREATEST_DEPTH symbol_at symbol_form ends_type symbol_laws text d e in
        inr (fault_of (placed (length text) d), record { first = placed (length text) d; is_first = g; told = refl })

-- and only one
pub one : (text : List ℕ) (s t : Symbol) → IsSpelling s text → IsSpelling t text → s ≡ t
one text s t h k = answers.one GREATEST_DEPTH symbol_at symbol_form ends_type symbol_laws text s t (from_spelling s text h) (from_spelling t text k)

-- two numbers of which neither is greater are one
both_least : (p q : ℕ) → p ≤ q → q ≤ p → p ≡ q
both_least p q h k = omega (arith, h, k)

-- the first fault is one
one_first : (text : List ℕ) (f g : TextFault) → IsFirstStringFault text f → IsFirstStringFault text g → f ≡ g
one_first text f g h k = one_place text f g h.0 k.0 (both_least (place_of f) (place_of g) (h.1 g k.0) (k.1 f h.0))

-- so one fault is reported
pub one_fault : (text : List ℕ) (f g : Fault) → IsStringFault text f → IsStringFault text g → f ≡ g
one_fault text f g h k = h.told ∙ ap fault_of (one_first text h.first k.first h.is_first k.is_first) ∙ sym k.told

-- nothing is read where reading stops
clash : (v : Result Symbol Stop) (s : Symbol) (d : Stop) → v ≡ Ok s → v ≡ Err d → ⊥
clash v s d e f = absurd cc

-- a spelling has no fault
pub not_both : (text : List ℕ) (s : Symbol) (f : Fault) → IsSpelling s text → IsStringFault text f → ⊥
unfolding whole_symbol
not_both text s f is h =
    let k = firsts.answered GREATEST_DEPTH symbol_at symbol_form ends_type symbol_laws text h.first h.is_first in
    clash (whole_symbol text) s k.0 (firsts.only GREATEST_DEPTH symbol_at symbol_form ends_type symbol_laws text s is.shaped is.depth is.spelled) k.1

-- ---- from the first fault to the fault that is reported

-- what is reported of the first fault is reported of the string
pub told_fault : (text : List ℕ) (g : TextFault) (h f : Fault) → IsFirstStringFault text g → h ≡ fault_of g → h ≡ f → IsStringFault text f
told_fault text g h f is e same = record { first = g; is_first = is; told = sym same ∙ e }
