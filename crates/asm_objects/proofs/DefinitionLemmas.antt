-- A name stands for the first statement that defines it, and the table of a source is what its statements say by their positions.
use Rattle.std.proofs.Common.{◌≡◌, ◌≢◌, ◌⊎◌, ℕ, zero, suc, Bool, true, cond, List, [], ◌∷◌, ◌++◌, take, slice_get, fold, flat_map, Option, None, Some, is_some, refl, sym, ap, subst, ◌∙◌, inl, inr, arith}
use Rattle.std.specs.Prelude.{Contains, ◌↔◌}
use Rattle.std.specs.List.{list_any}
use Rattle.std.specs.Map.{lookup}
use Rattle.std.specs.Str.{bytes_eq}
use Rattle.std.proofs.lemmas.Bool.{cases_Bool, true≢false}
use Rattle.std.proofs.lemmas.List.{length-take-le}
use Rattle.std.proofs.lemmas.List.Elements.{Contains-append_left, Contains-append_right, Contains-append_cases}
use Rattle.std.proofs.lemmas.Option.{none-some, same_Some, slice_get_within}
use Rattle.std.proofs.lemmas.Slice.Eq.{bytes_eq-Decides}
use Rattle.st_base.specs.Multiples.{aligned}
use Rattle.asm_objects.specs.Layout.{after, bss_size, defined, each, end_of, entry_word, global, home_of, last, machine_word, offset_in, start, table_of}
use Rattle.st_base.specs.FirstUses.{used}
use Rattle.asm_objects.specs.DefinedNames.{same_name}
use Rattle.asm_objects.specs.Positions.{last_or, defined_name, Defines, IsGlobal, IsNowhere, IsDefinition, IsPlace, IsTable}
use Rattle.asm_objects.proofs.NameLemmas.{any-lookup}
use Rattle.asm_objects.proofs.PositionLemmas.{four, last_is, placed}
use Rattle.asm_objects.proofs.WordLemmas.{none_in, one_in_has, one_in_is, words_have, words_in}
use Rattle.asm_statements.specs.declared.statement.Statement.{Statement}
use Rattle.asm_statements.specs.declared.statement.What.{What}
use Rattle.asm_statements.specs.declared.statement.What.TheVariants as what
use Rattle.asm_objects.specs.declared.table.Definition.{Definition}
use Rattle.asm_objects.specs.declared.table.Home.TheVariants as home
use Rattle.asm_objects.specs.declared.table.Places.{Places}

-- ---- look-ups

-- the first of two
abbrev or_else : {X : Type 0} → Option X → Option X → Option X
or_else None b = b
or_else (Some x) b = Some x

or_none : {X : Type 0} (a : Option X) → or_else a None ≡ a
or_none None = refl
or_none (Some x) = refl

or_assoc : {X : Type 0} (a b c : Option X) → or_else (or_else a b) c ≡ or_else a (or_else b c)
or_assoc None b c = refl
or_assoc (Some x) b c = refl

lookup-append : {V : Type 0} (test : List ℕ → Bool) (xs ys : List (List ℕ × V)) → lookup test (xs ++ ys) ≡ or_else (lookup test xs) (lookup test ys)
lookup-append test [] ys = refl
lookup-append test (x ∷ xs) ys =
    elim (cases_Bool (test x.0)) [ inl h ↦ rw h refl | inr h ↦ rw h (lookup-append test xs ys) ]

-- a name that is looked up where it is kept once
used_found : {V : Type 0} (name : List ℕ) (xs : List (List ℕ × V)) (x : List ℕ × V)
    → lookup (bytes_eq name) (used same_name xs x) ≡ or_else (lookup (bytes_eq name) xs) (lookup (bytes_eq name) (x ∷ []))
used_found {V} name xs x = elim (cases_Bool (list_any (same_name x) xs)) [ inl h ↦ rw h (there h) | inr h ↦ rw h (lookup-append (bytes_eq name) xs (x ∷ [])) ]
  where
    filled : (o : Option V) (b : Bool) → is_some o ≡ true → o ≡ or_else o (cond b (Some x.1) None)
    filled None b h = absurd (true≢false (sym h))
    filled (Some v) b h = refl

    there : list_any (same_name x) xs ≡ true → lookup (bytes_eq name) xs ≡ or_else (lookup (bytes_eq name) xs) (cond (bytes_eq name x.0) (Some x.1) None)
    there h =
        elim (cases_Bool (bytes_eq name x.0)) [
          | inl same ↦ let is : x.0 ≡ name = sym ((bytes_eq-Decides name x.0).0 same) in filled (lookup (bytes_eq name) xs) (bytes_eq name x.0) (rw is at (sym (any-lookup (bytes_eq x.0) xs) ∙ h))
          | inr other ↦ rw other (sym (or_none (lookup (bytes_eq name) xs)))
        ]

all_first_found : {V : Type 0} (name : List ℕ) (old xs : List (List ℕ × V))
    → lookup (bytes_eq name) (fold (used same_name) old xs) ≡ or_else (lookup (bytes_eq name) old) (lookup (bytes_eq name) xs)
all_first_found name old [] = sym (or_none (lookup (bytes_eq name) old))
all_first_found name old (x ∷ xs) =
    all_first_found name (used same_name old x) xs ∙ ap (λ (o : Option _). or_else o (lookup (bytes_eq name) xs)) (used_found name old x)
    ∙ or_assoc (lookup (bytes_eq name) old) (lookup (bytes_eq name) (x ∷ [])) (lookup (bytes_eq name) xs) ∙ ap (or_else (lookup (bytes_eq name) old)) (sym (lookup-append (bytes_eq name) (x ∷ []) xs))

-- ---- the definition of one statement

one_none : {V : Type 0} (name own : List ℕ) (d : V) → lookup (bytes_eq name) ((own, d) ∷ []) ≡ None → Some own ≢ Some name
one_none name own d e = λ same.
    let is : name ≡ own = sym (same_Some own name same) in
    let there : bytes_eq name own ≡ true = (bytes_eq-Decides name own).1 is in
    none-some d (sym (rw there at e))

one_some : {V : Type 0} (name own : List ℕ) (d found : V) → lookup (bytes_eq name) ((own, d) ∷ []) ≡ Some found → (own ≡ name) × (d ≡ found)
one_some name own d found e =
    elim (cases_Bool (bytes_eq name own)) [
      | inl h ↦ (sym ((bytes_eq-Decides name own).0 h), same_Some d found (rw h at e))
      | inr h ↦ absurd (none-some found (rw h at e))
    ]

-- what does not define a name
not_here : (name : List ℕ) (p : Places) (w : What) → lookup (bytes_eq name) (defined p w) ≡ None → defined_name w ≢ Some name
not_here name p (what.Label own) e = one_none name own _ e
not_here name p (what.Comm own n) e = one_none name own _ e
not_here name p (what.Lcomm own n) e = one_none name own _ e
not_here name p (what.Switch q) e = none-some name
not_here name p (what.Field width sum) e = none-some name
not_here name p (what.Space n) e = none-some name
not_here name p (what.Globl own) e = none-some name
not_here name p (what.Stab s) e = none-some name
not_here name p (what.Bytes bytes) e = none-some name
not_here name p (what.Align n) e = none-some name
not_here name p (what.Entry n) e = none-some name
not_here name p (what.Machine n) e = none-some name
not_here name p (what.Bsize n) e = none-some name
not_here name p (what.Rel r) e = none-some name

-- what does
record Here (name : List ℕ) (p : Places) (w : What) (d : Definition) : Type 0 where
  named : defined_name w ≡ Some name
  number : p.number ≡ d.number
  defines : Defines w p d

here : (name : List ℕ) (p : Places) (w : What) (d : Definition) → lookup (bytes_eq name) (defined p w) ≡ Some d → Here name p w d
here name p (what.Label own) d e =
    let own_is = one_some name own (record { home = home_of p.part; offset = offset_in p; number = p.number }) d e in
    rw (← own_is.0, ← own_is.1) (record { named = refl; number = refl; defines = (refl, refl) })
here name p (what.Comm own n) d e =
    let own_is = one_some name own (record { home = home.Common; offset = p.entries; number = p.number }) d e in
    rw (← own_is.0, ← own_is.1) (record { named = refl; number = refl; defines = (refl, refl) })
here name p (what.Lcomm own n) d e =
    let own_is = one_some name own (record { home = home.Bss; offset = aligned p.bss; number = p.number }) d e in
    rw (← own_is.0, ← own_is.1) (record { named = refl; number = refl; defines = (refl, four p.bss) })
here name p (what.Switch q) d e = absurd (none-some d e)
here name p (what.Field width sum) d e = absurd (none-some d e)
here name p (what.Space n) d e = absurd (none-some d e)
here name p (what.Globl own) d e = absurd (none-some d e)
here name p (what.Stab s) d e = absurd (none-some d e)
here name p (what.Bytes bytes) d e = absurd (none-some d e)
here name p (what.Align n) d e = absurd (none-some d e)
here name p (what.Entry n) d e = absurd (none-some d e)
here name p (what.Machine n) d e = absurd (none-some d e)
here name p (what.Bsize n) d e = absurd (none-some d e)
here name p (what.Rel r) d e = absurd (none-some d e)

-- ---- the first definition

none_before : (name : List ℕ) → IsNowhere [] name
none_before name n s at = absurd (none-some s at)

nowhere_more : (name : List ℕ) (x : Statement) (ss : List Statement) → defined_name x.what ≢ Some name → IsNowhere ss name → IsNowhere (x ∷ ss) name
nowhere_more name x ss not rest zero s at = let same : x ≡ s = same_Some x s at in subst (λ (y : Statement). defined_name y.what ≢ Some name) same not
nowhere_more name x ss not rest (suc n) s at = rest n s at

record FoundAt (p : Places) (ss : List Statement) (name : List ℕ) (d : Definition) : Type 0 where
  place : ℕ
  statement : Statement
  at : slice_get ss place ≡ Some statement
  here : lookup (bytes_eq name) (defined (end_of p (take place ss)) statement.what) ≡ Some d
  first : IsNowhere (take place ss) name

or_parts : {X : Type 0} (a b : Option X) (x : X) → or_else a b ≡ Some x → (a ≡ Some x) ⊎ ((a ≡ None) × (b ≡ Some x))
or_parts None b x e = inr (refl, e)
or_parts (Some a) b x e = inl e

or_neither : {X : Type 0} (a b : Option X) → or_else a b ≡ None → (a ≡ None) × (b ≡ None)
or_neither None b e = (refl, e)
or_neither (Some a) b e = absurd (none-some a (sym e))

found_at : (p : Places) (ss : List Statement) (name : List ℕ) (d : Definition) → lookup (bytes_eq name) (each defined p ss) ≡ Some d → FoundAt p ss name d
found_at p [] name d e = absurd (none-some d e)
found_at p (x ∷ ss) name d e =
    elim (or_parts _ _ d (sym (lookup-append (bytes_eq name) (defined p x.what) (each defined (after p x) ss)) ∙ e)) [
      | inl now ↦ record { place = 0; statement = x; at = refl; here = now; first = none_before name }
      | inr later ↦
          let r = found_at (after p x) ss name d later.1 in
          record { place = suc r.place; statement = r.statement; at = r.at; here = r.here; first = nowhere_more name x (take r.place ss) (not_here name p x.what later.0) r.first }
    ]

nowhere : (p : Places) (ss : List Statement) (name : List ℕ) → lookup (bytes_eq name) (each defined p ss) ≡ None → IsNowhere ss name
nowhere p [] name e = none_before name
nowhere p (x ∷ ss) name e =
    let both = or_neither _ _ (sym (lookup-append (bytes_eq name) (defined p x.what) (each defined (after p x) ss)) ∙ e) in
    nowhere_more name x ss (not_here name p x.what both.0) (nowhere (after p x) ss name both.1)

-- ---- the definitions of a source

is_definition : (ss : List Statement) (name : List ℕ) (d : Definition) → lookup (bytes_eq name) (table_of ss).names ≡ Some d → IsDefinition ss name d
is_definition ss name d e =
    let r = found_at start ss name d (sym (all_first_found name [] (each defined start ss)) ∙ e) in
    let h = here name (end_of start (take r.place ss)) r.statement.what d r.here in
    let within = slice_get_within ss r.place r.statement r.at in
    let placed_is = placed (take r.place ss) in
    let count = length-take-le r.place ss (omega (arith, within)) in
    let number = placed_is.number in
    let known = h.number in
    let same : d.number ≡ r.place = omega (arith, count, number, known) in
    record {
      statement = r.statement;
      at = subst (λ (k : ℕ). slice_get ss k ≡ Some r.statement) (sym same) r.at;
      named = h.named;
      first = subst (λ (k : ℕ). IsNowhere (take k ss) name) (sym same) r.first;
      places = end_of start (take r.place ss);
      placed = subst (λ (k : ℕ). IsPlace (take k ss) (end_of start (take r.place ss))) (sym same) placed_is;
      defines = h.defines;
    }

is_nowhere : (ss : List Statement) (name : List ℕ) → lookup (bytes_eq name) (table_of ss).names ≡ None → IsNowhere ss name
is_nowhere ss name e = nowhere start ss name (sym (all_first_found name [] (each defined start ss)) ∙ e)

-- ---- the names that `.globl` gives

global_is : (name : List ℕ) (w : What) → Contains (global w) name → w ≡ what.Globl name
global_is name (what.Globl own) h = ap what.Globl (one_in_is own name h)
global_is name _ h = absurd (none_in name h)

globals_are : (name : List ℕ) (p : Places) (ss : List Statement) → Contains (each (λ p. global) p ss) name → IsGlobal ss name
globals_are name p [] h = absurd (none_in name h)
globals_are name p (x ∷ ss) h =
    elim (Contains-append_cases (global x.what) (each (λ p. global) (after p x) ss) name h) [
      | inl now ↦ (0, x, refl, global_is name x.what now)
      | inr later ↦ let is = globals_are name (after p x) ss later in (suc is.0, is.1, is.2, is.3)
    ]

globals_have : (name : List ℕ) (p : Places) (ss : List Statement) (n : ℕ) (s : Statement) → slice_get ss n ≡ Some s → s.what ≡ what.Globl name → Contains (each (λ p. global) p ss) name
globals_have name p [] n s at is = absurd (none-some s at)
globals_have name p (x ∷ ss) zero s at is =
    let same : x ≡ s = same_Some x s at in
    let here : x.what ≡ what.Globl name = ap (λ (y : Statement). y.what) same ∙ is in
    Contains-append_left (global x.what) (each (λ p. global) (after p x) ss) name (rw here (one_in_has name name refl))
globals_have name p (x ∷ ss) (suc n) s at is = Contains-append_right (global x.what) (each (λ p. global) (after p x) ss) name (globals_have name (after p x) ss n s at is)

are_globals : (ss : List Statement) (name : List ℕ) → Contains (table_of ss).globals name ↔ IsGlobal ss name
are_globals ss name = (
  λ h. elim (words_in [] (each (λ p. global) start ss) name h) [ inl none ↦ absurd (none_in name none) | inr there ↦ globals_are name start ss there ],
  λ h. words_have [] (each (λ p. global) start ss) name (inr (globals_have name start ss h.0 h.1 h.2 h.3)),
)

-- ---- the last words

words_are : (f : What → List ℕ) (p : Places) (ss : List Statement) → each (λ p. f) p ss ≡ flat_map (λ s. f s.what) ss
words_are f p [] = refl
words_are f p (s ∷ ss) = ap (λ (l : List ℕ). f s.what ++ l) (words_are f (after p s) ss)

last_word : (f : What → List ℕ) (ss : List Statement) → fold last 0 (each (λ p. f) start ss) ≡ last_or 0 (flat_map (λ s. f s.what) ss)
last_word f ss = ap (fold last 0) (words_are f start ss) ∙ last_is 0 (flat_map (λ (s : Statement). f s.what) ss)

-- ---- the table

pub table_is : (ss : List Statement) → IsTable ss (table_of ss)
table_is ss = record {
  end = placed ss;
  defined = is_definition ss;
  undefined = is_nowhere ss;
  globals = are_globals ss;
  entry = last_word entry_word ss;
  machine = last_word machine_word ss;
  bsize = last_word bss_size ss;
}
