-- What stands after the items of a list: reading an N_LBRAC takes the value of its N_RBRAC from the stack.
use Rattle.std.proofs.Common.{◌≡◌, ℕ, List, [], ◌∷◌, ◌++◌, length, reverse, Bool, true, Option, Some, None, refl, sym, ap, ◌∙◌, arith, subst, length-append}
use Rattle.std.specs.Prelude.{slice_get, MatchOption}
use Rattle.std.specs.Global.{Vec}
use Rattle.std.proofs.lemmas.List.{reverse-append, same_from_push}
use Rattle.scope_lines.specs.declared.role.Role.{Role}
use Rattle.scope_lines.specs.declared.role.Role.TheVariants.{Opens}
use Rattle.scope_lines.specs.declared.behind.Behind.{Behind}
use Rattle.scope_lines.specs.declared.behind.Reading.{Reading}
use Rattle.scope_lines.specs.Blocks.{end_value}
use Rattle.scope_lines.specs.Scopes.{opens_next}
use Rattle.scope_lines.specs.Behind.{unopened, rest_of, behind_of, Reads}
use Rattle.scope_lines.proofs.EndLemmas.{end_value-unopened}

-- ---- the last number of a stack

reverse-cons : (value : ℕ) (values : List ℕ) → reverse (value ∷ values) ≡ reverse values ++ value ∷ []
reverse-cons value values = reverse-append (value ∷ []) values

not_empty : (xs : List ℕ) (x : ℕ) → xs ++ x ∷ [] ≡ [] → ⊥
not_empty xs x e = let n : length (xs ++ x ∷ []) ≡ 0 = ap length e in omega (arith, length-append xs (x ∷ []))

-- what is taken from a stack that holds a list backwards is the list's first
taken_first : (values old new : List ℕ) (result : Option ℕ) → old ≡ reverse values → MatchOption result (old ≡ [] × new ≡ []) (λ x. old ≡ new ++ x ∷ [])
    → (result ≡ slice_get values 0) × (new ≡ reverse (rest_of values))
taken_first [] old new None is m = (refl, m.1)
taken_first [] old new (Some x) is m = absurd (not_empty new x (sym m ∙ is))
taken_first (value ∷ values) old new None is m = absurd (not_empty (reverse values) value (sym (reverse-cons value values) ∙ sym is ∙ m.0))
taken_first (value ∷ values) old new (Some x) is m =
    let same = same_from_push new (reverse values) x value (sym m ∙ is ∙ reverse-cons value values) in (ap Some same.1, same.0)

-- ---- an N_LBRAC is read

pub read_open : (xs : List Role) (role : Role) (value : ℕ) (old : Reading) (ends : Vec ℕ) (end : Option ℕ) → role ≡ Opens value → Reads xs old
    → MatchOption end (old.ends.items ≡ [] × ends.items ≡ []) (λ x. old.ends.items ≡ ends.items ++ x ∷ [])
    → (let b : Behind = record { opens_next = old.opens_next; end = end } in b ≡ behind_of role xs) × Reads (role ∷ xs) (record { opens_next = true; ends = ends })
read_open xs role value old ends end is was m =
    let t = taken_first (unopened xs) old.ends.items ends.items end was.ends_are m in
    subst (λ (r : Role). (let b : Behind = record { opens_next = old.opens_next; end = end } in b ≡ behind_of r xs) × Reads (r ∷ xs) (record { opens_next = true; ends = ends })) (sym is)
    (same_behind old.opens_next (opens_next xs) end (end_value (Opens value) xs) was.next_is (t.0 ∙ sym (end_value-unopened value xs)), record { next_is = refl; ends_are = t.1 })
  where
    same_behind : (a b : Bool) (u v : Option ℕ) → a ≡ b → u ≡ v → ◌≡◌ {A = Behind} (record { opens_next = a; end = u }) (record { opens_next = b; end = v })
    same_behind a b u v p q = cc
