-- Statements say where the next one stands in one way, and what a name stands for in one way.
use Rattle.std.proofs.Common.{◌≡◌, ℕ, zero, suc, ◌+◌, ◌*◌, ◌^◌, ◌<◌, ◌≤◌, List, [], ◌∷◌, ◌++◌, length, take, sum, slice_get, get_or, Option, None, Some, refl, sym, ap, subst, ◌∙◌, inl, inr, arith}
use Rattle.std.specs.Map.{lookup}
use Rattle.std.specs.Str.{bytes_eq}
use Rattle.std.proofs.Math.Seq.{take-suc, take-length}
use Rattle.std.proofs.lemmas.Bool.{cases_lt}
use Rattle.std.proofs.lemmas.Option.{same_Some, slice_get-get_or}
use Rattle.asm_objects.specs.declared.limits.TheConstants.{GREATEST_POWER}
use Rattle.asm_objects.specs.Positions.{Defines, IsDefinition, IsLeastMultiple, IsNowhere, IsPlace, IsSum, IsTable, Pads, Reserves, Takes, TakesIn, segment}
use Rattle.asm_statements.specs.declared.statement.Part.{Part}
use Rattle.asm_statements.specs.declared.statement.Part.TheVariants as part
use Rattle.asm_statements.specs.declared.statement.Statement.{Statement}
use Rattle.asm_statements.specs.declared.statement.What.{What}
use Rattle.asm_statements.specs.declared.statement.What.TheVariants as what
use Rattle.asm_objects.specs.declared.table.Definition.{Definition}
use Rattle.asm_objects.specs.declared.table.Places.{Places}
use Rattle.asm_objects.specs.declared.table.Table.{Table}

-- ---- sizes

-- two least multiples are not above each other, so they are one
one_multiple : (unit place a b : ℕ) → IsLeastMultiple unit place a → IsLeastMultiple unit place b → a ≡ b
one_multiple unit place a b x y =
    let at_x : place ≤ x.times * unit = subst (λ (n : ℕ). place ≤ n) x.is x.reaches in
    let at_y : place ≤ y.times * unit = subst (λ (n : ℕ). place ≤ n) y.is y.reaches in
    let below : b ≤ a = subst (λ (n : ℕ). b ≤ n) (sym x.is) (y.least x.times at_x) in
    let above : a ≤ b = subst (λ (n : ℕ). a ≤ n) (sym y.is) (x.least y.times at_y) in
    omega (arith, below, above)

both_are : (n a b : ℕ) → a ≡ n → b ≡ n → a ≡ b
both_are n a b x y = x ∙ sym y

one_padding : (power place a b : ℕ) → Pads power place a → Pads power place b → a ≡ b
one_padding power place a b x y =
    elim (cases_lt GREATEST_POWER power) [
      | inl large ↦ both_are 0 a b (x.1 large) (y.1 large)
      | inr small ↦ let end = one_multiple (2 ^ power) place (place + a) (place + b) (x.0 small) (y.0 small) in omega (arith, end)
    ]

one_taken : (w : What) (place a b : ℕ) → Takes w place a → Takes w place b → a ≡ b
one_taken (what.Field width expression) place a b x y = both_are _ a b x y
one_taken (what.Space n) place a b x y = both_are _ a b x y
one_taken (what.Bytes bytes) place a b x y = both_are _ a b x y
one_taken (what.Align power) place a b x y = one_padding power place a b x y
one_taken _ place a b x y = both_are 0 a b x y

one_taken_in : (q r : Part) (w : What) (place a b : ℕ) → TakesIn q r w place a → TakesIn q r w place b → a ≡ b
one_taken_in part.Text part.Text w place a b x y = one_taken w place a b x y
one_taken_in part.Text part.Data w place a b x y = both_are 0 a b x y
one_taken_in part.Data part.Text w place a b x y = both_are 0 a b x y
one_taken_in part.Data part.Data w place a b x y = one_taken w place a b x y

one_reserved : (w : What) (place a b : ℕ) → Reserves w place a → Reserves w place b → a ≡ b
one_reserved (what.Lcomm name n) place a b x y =
    let from = one_multiple 4 place x.0 y.0 x.1 y.1 in
    let end = x.2 in
    let other = y.2 in
    omega (arith, from, end, other)
one_reserved _ place a b x y = both_are 0 a b x y

-- ---- sums

module _ (Size : Part → What → ℕ → ℕ → Type 0) (one : (q : Part) (w : What) (place a b : ℕ) → Size q w place a → Size q w place b → a ≡ b) (before : List Statement) (a b : ℕ)
    (x : IsSum Size before a) (y : IsSum Size before b) where
  -- where the sizes before a statement are the same, so is its size
  same_fronts : (n : ℕ) → n ≤ length before → take n x.sizes ≡ take n y.sizes
  same_fronts zero within = refl
  same_fronts (suc n) within =
      let front = same_fronts n (omega (arith, within)) in
      let many = x.as_many in
      let as_many = y.as_many in
      let none : Statement = record { line = 0; what = what.Space 0 } in
      let at = slice_get-get_or before n none (omega (arith, within)) in
      let in_x : n < length x.sizes = omega (arith, within, many) in
      let in_y : n < length y.sizes = omega (arith, within, as_many) in
      let size_x = x.each n (get_or before n none) (get_or x.sizes n 0) at (slice_get-get_or x.sizes n 0 in_x) in
      let size_y = y.each n (get_or before n none) (get_or y.sizes n 0) at (slice_get-get_or y.sizes n 0 in_y) in
      let same : get_or x.sizes n 0 ≡ get_or y.sizes n 0 =
      one (segment (take n before)) (get_or before n none).what (sum (take n x.sizes)) _ _ size_x
      (subst (λ (l : List ℕ). Size (segment (take n before)) (get_or before n none).what (sum l) (get_or y.sizes n 0)) (sym front) size_y) in
      take-suc x.sizes n 0 in_x ∙ ap (λ (l : List ℕ). l ++ (get_or x.sizes n 0 ∷ [])) front ∙ ap (λ (k : ℕ). take n y.sizes ++ (k ∷ [])) same ∙ sym (take-suc y.sizes n 0 in_y)

  one_sum : a ≡ b
  one_sum =
      let whole_x : take (length before) x.sizes ≡ x.sizes = rw (← x.as_many) (take-length x.sizes) in
      let whole_y : take (length before) y.sizes ≡ y.sizes = rw (← y.as_many) (take-length y.sizes) in
      x.is ∙ ap sum (sym whole_x ∙ same_fronts (length before) (omega arith) ∙ whole_y) ∙ sym y.is

-- ---- places

same_places : (p q : Places) → p.part ≡ q.part → p.text ≡ q.text → p.datum ≡ q.datum → p.bss ≡ q.bss → p.entries ≡ q.entries → p.number ≡ q.number → p ≡ q
same_places p q in_part text datum bss entries number =
    let same : record { part = p.part; text = p.text; datum = p.datum; bss = p.bss; entries = p.entries; number = p.number } ≡ q =
    rw (in_part, text, datum, bss, entries, number) refl in
    same

pub one_place : (before : List Statement) (p q : Places) → IsPlace before p → IsPlace before q → p ≡ q
one_place before p q x y =
    same_places p q (x.stands_in ∙ sym y.stands_in) (one_sum (TakesIn part.Text) (one_taken_in part.Text) before p.text q.text x.text y.text)
    (one_sum (TakesIn part.Data) (one_taken_in part.Data) before p.datum q.datum x.datum y.datum) (one_sum (λ q w. Reserves w) (λ q. one_reserved) before p.bss q.bss x.bss y.bss)
    (x.entries ∙ sym y.entries) (x.number ∙ sym y.number)

-- ---- definitions

one_defined : (w : What) (p : Places) (d e : Definition) → Defines w p d → Defines w p e → (d.home ≡ e.home) × (d.offset ≡ e.offset)
one_defined (what.Label name) p d e x y = (x.0 ∙ sym y.0, x.1 ∙ sym y.1)
one_defined (what.Comm name n) p d e x y = (x.0 ∙ sym y.0, x.1 ∙ sym y.1)
one_defined (what.Lcomm name n) p d e x y = (x.0 ∙ sym y.0, one_multiple 4 p.bss d.offset e.offset x.1 y.1)
one_defined _ p d e x y = absurd x

same_definition : (d e : Definition) → d.home ≡ e.home → d.offset ≡ e.offset → d.number ≡ e.number → d ≡ e
same_definition d e home offset number =
    let same : record { home = d.home; offset = d.offset; number = d.number } ≡ e = rw (home, offset, number) refl in
    same

slice_front : {X : Type 0} (xs : List X) (i n : ℕ) (x : X) → i < n → slice_get xs i ≡ Some x → slice_get (take n xs) i ≡ Some x
slice_front xs i zero x less at = absurd (omega (arith, less))
slice_front [] i (suc n) x less at = at
slice_front (y ∷ xs) zero (suc n) x less at = at
slice_front (y ∷ xs) (suc i) (suc n) x less at = slice_front xs i n x (omega (arith, less)) at

module _ (ss : List Statement) (name : List ℕ) where
  not_before : (d e : Definition) → IsDefinition ss name d → IsDefinition ss name e → e.number ≤ d.number
  not_before d e x y =
      elim (cases_lt d.number e.number) [
        | inl less ↦ absurd (y.first d.number x.statement (slice_front ss d.number e.number x.statement less x.at) x.named)
        | inr more ↦ more
      ]

  pub one_definition : (d e : Definition) → IsDefinition ss name d → IsDefinition ss name e → d ≡ e
  one_definition d e x y =
      let up = not_before d e x y in
      let down = not_before e d y x in
      let number : d.number ≡ e.number = omega (arith, up, down) in
      let at : slice_get ss d.number ≡ Some y.statement = subst (λ (k : ℕ). slice_get ss k ≡ Some y.statement) (sym number) y.at in
      let statement : y.statement ≡ x.statement = same_Some y.statement x.statement (sym at ∙ x.at) in
      let placed : IsPlace (take d.number ss) y.places = subst (λ (k : ℕ). IsPlace (take k ss) y.places) (sym number) y.placed in
      let places : y.places ≡ x.places = one_place (take d.number ss) y.places x.places placed x.placed in
      let defines : Defines x.statement.what x.places e =
      subst (λ (p : Places). Defines x.statement.what p e) places (subst (λ (s : Statement). Defines s.what y.places e) statement y.defines) in
      let both = one_defined x.statement.what x.places d e x.defines defines in
      same_definition d e both.0 both.1 number

  -- what one table has the other has
  pub one_lookup : (t u : Table) → IsTable ss t → IsTable ss u → lookup (bytes_eq name) t.names ≡ lookup (bytes_eq name) u.names
  one_lookup t u x y = by (lookup (bytes_eq name) t.names) (lookup (bytes_eq name) u.names) refl refl
    where
      nowhere : (d : Definition) → IsDefinition ss name d → IsNowhere ss name → ⊥
      nowhere d is none = none d.number is.statement is.at is.named

      by : (a b : Option Definition) → lookup (bytes_eq name) t.names ≡ a → lookup (bytes_eq name) u.names ≡ b → a ≡ b
      by None None e f = refl
      by (Some d) None e f = absurd (nowhere d (x.defined name d e) (y.undefined name f))
      by None (Some d) e f = absurd (nowhere d (y.defined name d f) (x.undefined name e))
      by (Some d) (Some c) e f = ap Some (one_definition d c (x.defined name d e) (y.defined name c f))
