-- Steps of the readers of operands: one term more, and the tokens up to a comma.
use Rattle.std.proofs.Common.{◌≡◌, ℕ, suc, ◌+◌, ◌-◌, ◌*◌, ◌<◌, ◌≤◌, List, [], ◌∷◌, length, take, drop, Option, None, Some, refl, sym, ap, ◌∙◌, inl, inr, arith, get_or}
use Rattle.std.specs.Prelude.{nat_lt, not, position}
use Rattle.std.specs.List.{prefix_len}
use Rattle.std.proofs.lemmas.Option.{none-some}
use Rattle.std.proofs.lemmas.Bool.{cases_Bool, ltb-true, ltb-false}
use Rattle.std.proofs.lemmas.List.{take_all, length-take, length-drop}
use Rattle.asm_statements.specs.Directives.{one_of}
use Rattle.asm_statements.specs.Operands.{◌>>=◌, terms, with_signed, pieces, is_comma}
use Rattle.asm_statements.specs.Scanning.{pieces_at, pieces_behind}
use Rattle.asm_statements.specs.Tokens.{Token}
use Rattle.asm_statements.specs.declared.statement.Sum.{Sum}

-- one term more
pub terms_next : (s t : Sum) (a b : Token) (rest : List Token) (whole : Option Sum) → terms s rest ≡ whole → 2 ≤ length rest → a ≡ get_or rest 0 a → b ≡ get_or rest 1 b
    → with_signed a b s ≡ Some t → terms t (take (length rest - 2) (drop 2 rest)) ≡ whole
terms_next s t a b [] whole is two x y signed = absurd (omega arith)
terms_next s t a b (c ∷ []) whole is two x y signed = absurd (omega arith)
terms_next s t a b (c ∷ d ∷ more) whole is two x y signed =
    let all : take (length (c ∷ d ∷ more) - 2) more ≡ more = take_all (length (c ∷ d ∷ more) - 2) more (omega arith) in
    let one : with_signed c d s ≡ Some t = ap (λ z. with_signed z d s) (sym x) ∙ ap (λ z. with_signed a z s) (sym y) ∙ signed in
    ap (terms t) all ∙ sym (ap (λ r. r >>= λ u. terms u more) one) ∙ is

-- and there is room for as many numbers as there are tokens left
pub room_next : (old new most : ℕ) (rest : List Token) → new ≤ old + 4294967296 → 2 ≤ length rest → old + 4294967296 * length rest ≤ most
    → new + 4294967296 * length (take (length rest - 2) (drop 2 rest)) ≤ most
room_next old new most rest grows two room = simp (length-take, length-drop) (omega arith)

-- ---- cutting at a comma

abbrev before_comma : List Token → ℕ
before_comma ts = prefix_len (λ t. not (is_comma t)) ts

cut_at : (ts : List Token) → before_comma ts < length ts → pieces ts ≡ take (before_comma ts) ts ∷ pieces (drop (before_comma ts + 1) ts)
cut_at [] h = absurd (omega arith)
cut_at (t ∷ ts) h =
    elim (cases_Bool (is_comma t)) [
      | inl e ↦ rw e refl
      | inr e ↦
          let k : 1 + before_comma ts < length (t ∷ ts) = rw e at h in
          let a : 1 + before_comma ts ≡ suc (before_comma ts) = omega arith in
          let b : suc (before_comma ts) + 1 ≡ suc (before_comma ts + 1) = omega arith in
          rw (e, cut_at ts (omega arith), a, b) refl
    ]

cut_none : (ts : List Token) → length ts ≤ before_comma ts → pieces ts ≡ ts ∷ []
cut_none [] h = refl
cut_none (t ∷ ts) h =
    elim (cases_Bool (is_comma t)) [
      | inl e ↦ let k : length (t ∷ ts) ≤ 0 = rw e at h in absurd (omega arith)
      | inr e ↦ let k : length (t ∷ ts) ≤ 1 + before_comma ts = rw e at h in rw (e, cut_none ts (omega arith)) refl
    ]

-- the pieces by the first comma
pub comma_cuts : (ts : List Token) (o : Option ℕ) → o ≡ position is_comma ts → pieces ts ≡ pieces_at ts o
comma_cuts ts None h =
    elim (cases_Bool (nat_lt (before_comma ts) (length ts))) [
      | inl e ↦ absurd (none-some (before_comma ts) (h ∙ rw e refl))
      | inr e ↦ cut_none ts (ltb-false (before_comma ts) (length ts) e)
    ]
comma_cuts ts (Some i) h =
    elim (cases_Bool (nat_lt (before_comma ts) (length ts))) [
      | inl e ↦
          let k : Some i ≡ Some (before_comma ts) = h ∙ rw e refl in
          let same : before_comma ts ≡ i = cc in
          cut_at ts (ltb-true (before_comma ts) (length ts) e) ∙ rw same refl
      | inr e ↦ absurd (none-some i (sym (h ∙ rw e refl)))
    ]

-- there is a piece always
record Filled (ps : List (List Token)) : Type 0 where
  first : List Token
  others : List (List Token)
  is : ps ≡ first ∷ others

filled : (ts : List Token) → Filled (pieces ts)
filled [] = record { first = []; others = []; is = refl }
filled (t ∷ ts) =
    elim (cases_Bool (is_comma t)) [
      | inl e ↦ record { first = []; others = pieces ts; is = rw e refl }
      | inr e ↦ let r = filled ts in record { first = t ∷ r.first; others = r.others; is = rw (e, r.is) refl }
    ]

one_more : (p : List Token) (ts : List Token) → one_of (p ∷ pieces ts) ≡ None
one_more p ts = let r = filled ts in rw r.is refl

-- more than one piece
pub one_refused : (ts p : List Token) (o : Option (List Token)) (r : List Token) → pieces ts ≡ p ∷ pieces_behind o → o ≡ Some r → one_of (pieces ts) ≡ None
one_refused ts p o r is some = rw (is, some) (one_more p r)
