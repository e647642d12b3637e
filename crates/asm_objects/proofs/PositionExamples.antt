-- Worked places: `.byte 1`, `.p2align 2`, `.data`, `.space 3`, `.lcomm b,5`, and what the definitions refuse.
use Rattle.std.proofs.Common.{◌≡◌, ℕ, zero, suc, ◌*◌, ◌≤◌, true, false, List, [], ◌∷◌, ◌++◌, length, get_or, None, Some, refl, ap, arith}
use Rattle.std.specs.Prelude.{codes}
use Rattle.std.proofs.lemmas.Option.{none-some, same_Some}
use Rattle.asm_objects.specs.Given.{StandsAt, alone, relocs_given}
use Rattle.asm_objects.specs.Positions.{IsLeastMultiple, IsNowhere, Takes, TakesIn, defined_name, gives_entry, segment}
use Rattle.asm_statements.specs.declared.statement.Name.TheVariants.{Here, Named}
use Rattle.asm_statements.specs.declared.statement.Part.TheVariants as part
use Rattle.asm_statements.specs.declared.statement.Statement.{Statement}
use Rattle.asm_statements.specs.declared.statement.What.{What}
use Rattle.asm_statements.specs.declared.statement.What.TheVariants as what

at_line : ℕ → What → Statement
at_line line w = record { line = line; what = w }

-- ---- segments

-- text comes first, and the last switch counts
first_segment : segment (at_line 1 (what.Space 3) ∷ []) ≡ part.Text
unfolding at_line
first_segment = refl

last_segment : segment (at_line 1 (what.Switch part.Data) ∷ at_line 2 (what.Switch part.Text) ∷ at_line 3 (what.Space 1) ∷ at_line 4 (what.Switch part.Data) ∷ []) ≡ part.Data
unfolding at_line
last_segment = refl

-- ---- least multiples

-- 8 is the least multiple of 4 from 5 on; a place that is one is its own
eight : IsLeastMultiple 4 5 8
eight = record { times = 2; is = refl; reaches = omega arith; least = λ k h. omega (arith, h) }

itself : IsLeastMultiple 4 8 8
itself = record { times = 2; is = refl; reaches = omega arith; least = λ k h. h }

-- 12 is not the least, and 6 is none
not_twelve : IsLeastMultiple 4 5 12 → ⊥
not_twelve l = let at_eight : 12 ≤ 2 * 4 = l.least 2 (omega arith) in omega (arith, at_eight)

not_six : IsLeastMultiple 4 5 6 → ⊥
not_six l = let times = l.is in omega (arith, times)

-- ---- sizes

-- `.p2align 2` takes three bytes at place 5, and not seven; `.p2align 13` takes none
three_bytes : Takes (what.Align 2) 5 3
three_bytes = (λ small. eight, λ large. absurd (omega (arith, large)))

not_seven : Takes (what.Align 2) 5 7 → ⊥
not_seven takes = not_twelve (takes.0 (omega arith))

no_power : Takes (what.Align 13) 5 3 → ⊥
no_power takes = let none : 3 ≡ 0 = takes.1 (omega arith) in omega (arith, none)

-- a statement of data takes nothing of text
not_of_text : TakesIn part.Text part.Data (what.Space 3) 0 3 → ⊥
not_of_text takes = omega (arith, takes)

-- ---- names and entries

-- a label defines its name, and `.globl` does not
label_defines : defined_name (what.Label (codes "a")) ≡ Some (codes "a")
label_defines = refl

globl_defines : defined_name (what.Globl (codes "a")) ≡ None
globl_defines = refl

-- a label that begins with `L` has no entry
local_label : gives_entry (what.Label (codes "La")) ≡ false
local_label = refl

common_entry : gives_entry (what.Comm (codes "La") 4) ≡ true
common_entry = refl

-- `a` is nowhere in `.globl a`, and is somewhere in `a:`
nowhere : IsNowhere (at_line 1 (what.Globl (codes "a")) ∷ []) (codes "a")
unfolding at_line
nowhere zero s at = let same = same_Some (at_line 1 (what.Globl (codes "a"))) s at in rw (← same) (none-some (codes "a"))
nowhere (suc n) s at = absurd (none-some s at)

somewhere : IsNowhere (at_line 1 (what.Label (codes "a")) ∷ []) (codes "a") → ⊥
unfolding at_line
somewhere none = none 0 (at_line 1 (what.Label (codes "a"))) refl refl

-- ---- what is given

-- 7 stands at place 1 of 5, 7, 9, and 9 does not
seven : StandsAt {X = ℕ} (5 ∷ 7 ∷ 9 ∷ []) 1 (7 ∷ [])
seven = record { before = 5 ∷ []; after = 9 ∷ []; whole = refl; place = refl }

not_nine : StandsAt {X = ℕ} (5 ∷ 7 ∷ 9 ∷ []) 1 (9 ∷ []) → ⊥
not_nine r = by r.before r.whole r.place
  where
    by : (before : List ℕ) → (5 ∷ 7 ∷ 9 ∷ []) ≡ before ++ (9 ∷ r.after) → length before ≡ 1 → ⊥
    by [] whole place = omega (arith, place)
    by (x ∷ []) whole place = let same : 7 ≡ 9 = ap (λ (l : List ℕ). get_or l 1 0) whole in omega (arith, same)
    by (x ∷ y ∷ before) whole place = omega (arith, place)

-- `.long a` uses `a`; `.long .` and `.long a-b` use no name
used : alone (Named (codes "a") ∷ []) [] ≡ Some (codes "a")
used = refl

here_used : alone (Here ∷ []) [] ≡ None
here_used = refl

difference_used : alone (Named (codes "a") ∷ []) (Named (codes "b") ∷ []) ≡ None
difference_used = refl

-- `.rel data,0,4,0` in text gives one relocation of data
written : (relocs_given part.Data part.Text (what.Rel (record { part = part.Data; address = 0; symbol = 4; flags = 0 })) ≡ 1)
    × (relocs_given part.Text part.Text (what.Rel (record { part = part.Data; address = 0; symbol = 4; flags = 0 })) ≡ 0)
written = (refl, refl)
