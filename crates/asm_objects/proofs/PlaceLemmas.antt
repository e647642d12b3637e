-- One step of a pass: what is done and what is left make the whole before and after a statement, and offsets and places have room.
use Rattle.std.proofs.Common.{◌≡◌, ℕ, ◌+◌, ◌*◌, ◌^◌, ◌%◌, ◌<◌, ◌≤◌, Bool, List, [], ◌∷◌, ◌++◌, length, get_or, drop, suc, sym, ap, subst, ◌∙◌, inl, inr, arith, add-one, drop-cons, append_assoc, fold, Option, None, Some}
use Rattle.std.proofs.Math.Pow.{pow_mono}
use Rattle.std.proofs.lemmas.Bool.{cases_Bool}
use Rattle.std.proofs.lemmas.Option.{none-some}
use Rattle.std.proofs.lemmas.List.Sums.{fold-append}
use Rattle.std.specs.List.{list_any}
use Rattle.std.specs.Map.{lookup}
use Rattle.std.specs.Str.{bytes_eq}
use Rattle.std.specs.Vec.Iter.{into_iter_items, into_iter_steps}
use Rattle.std.specs.declared.vec.IntoIter.{IntoIter}
use Rattle.asm_objects.specs.Emitting.{OffsetsFit, TableFits}
use Rattle.asm_objects.specs.declared.limits.TheConstants.{GREATEST_POWER}
use Rattle.asm_objects.specs.Layout.{Room, after, each, reached}
use Rattle.asm_objects.specs.Meaning.{found, here, with_address, unless_common}
use Rattle.st_base.specs.FirstUses.{used}
use Rattle.asm_objects.specs.DefinedNames.{same_name}
use Rattle.asm_objects.specs.declared.table.Places.{Places}
use Rattle.asm_objects.specs.declared.table.Definition.{Definition}
use Rattle.asm_objects.specs.declared.table.Home.{Home}
use Rattle.asm_objects.specs.declared.table.Home.TheVariants as home
use Rattle.asm_objects.specs.declared.table.Table.{Table}
use Rattle.asm_statements.specs.declared.statement.Name.{Name}
use Rattle.asm_statements.specs.declared.statement.Name.TheVariants.{Here, Named}
use Rattle.asm_statements.specs.declared.statement.Part.{Part}
use Rattle.asm_statements.specs.declared.statement.Part.TheVariants as part
use Rattle.asm_statements.specs.declared.statement.Statement.{Statement}
use Rattle.asm_statements.specs.declared.statement.What.{What}

-- an item of a list and what is after it
pub drop_item : {X : Type 0} (xs : List X) (i : ℕ) (x : X) → i < length xs → x ≡ get_or xs i x → drop i xs ≡ x ∷ drop (i + 1) xs
drop_item xs i x within is = drop-cons xs i x within ∙ ap (λ y. y ∷ drop (suc i) xs) (sym is) ∙ ap (λ j. x ∷ drop j xs) (sym (add-one i))

-- an item that is taken out of a list, and what is left
pub taken : {X Z : Type 0} (before behind : IntoIter X Z) (x : X) → into_iter_steps before (Some x) behind → into_iter_items before ≡ x ∷ into_iter_items behind
taken before behind x steps = steps.0

-- a power of two up to the twelfth
pub power_small : (n : ℕ) → n ≤ GREATEST_POWER → 1 * 2 ^ n % 340282366920938463463374607431768211456 ≤ 4096
power_small n small = omega (arith, pow_mono small)

-- there is room for the statements after one
pub room_step : (p q : Places) (ss rest : List Statement) (s : Statement) → ss ≡ s ∷ rest → Room p (length ss) → ((n : ℕ) → Room p (n + 1) → Room q n) → Room q (length rest)
room_step p q ss rest s e room step = step (length rest) (rw (add-one (length rest)) (rw e at room))

-- what one statement more gives is put after what was given before
pub each_step : {X : Type 0} (f : Places → What → List X) (p q : Places) (ss rest : List Statement) (s : Statement) (out next whole : List X) → ss ≡ s ∷ rest
    → out ++ each f p ss ≡ whole → next ≡ out ++ f p s.what → q ≡ after p s → next ++ each f q rest ≡ whole
each_step f p q ss rest s out next whole e invariant is moves = rw (is, moves) (append_assoc out (f p s.what) (each f (after p s) rest) ∙ (rw e at invariant))

-- what one statement more gives is gathered
pub fold_step : {X Y : Type 0} (g : Y → X → Y) (f : Places → What → List X) (p q : Places) (ss rest : List Statement) (s : Statement) (old next whole : Y) → ss ≡ s ∷ rest
    → fold g old (each f p ss) ≡ whole → next ≡ fold g old (f p s.what) → q ≡ after p s → fold g next (each f q rest) ≡ whole
fold_step g f p q ss rest s old next whole e invariant is moves =
    rw (is, moves) (sym (fold-append g old (f p s.what) (each f (after p s) rest)) ∙ (rw e at invariant))

-- a definition after others
offsets-push : (es : List (List ℕ × Definition)) (e : List ℕ × Definition) → OffsetsFit es → e.1.offset < 2 ^ 124 → OffsetsFit (es ++ e ∷ [])
offsets-push [] e fit small = (small, tt)
offsets-push (x ∷ es) e fit small = (fit.0, offsets-push es e fit.1 small)

-- a name with its definition
pub offsets-used : (old new : List (List ℕ × Definition)) (name : List ℕ) (d : Definition) → new ≡ used same_name old (name, d) → d.offset < 2 ^ 124 → OffsetsFit old → OffsetsFit new
offsets-used old new name d is small fit =
    subst OffsetsFit (sym is) (elim (cases_Bool (list_any (same_name (name, d)) old)) [ inl h ↦ rw h fit | inr h ↦ rw h (offsets-push old (name, d) fit small) ])

-- a definition that a look-up gives
lookup_small : (test : List ℕ → Bool) (es : List (List ℕ × Definition)) (d : Definition) → OffsetsFit es → lookup test es ≡ Some d → d.offset < 2 ^ 124
lookup_small test [] d fit e = absurd (none-some d e)
lookup_small test (x ∷ es) d fit e =
    elim (cases_Bool (test x.0)) [
      | inl h ↦ let same : Some x.1 ≡ Some d = rw h at e in let is : x.1 ≡ d = cc in subst (λ (v : Definition). v.offset < 2 ^ 124) is fit.0
      | inr h ↦ lookup_small test es d fit.1 (rw h at e)
    ]

-- a definition with an address
with_address_is : (o : Option Definition) (d : Definition) → with_address o ≡ Some d → o ≡ Some d
with_address_is None d e = absurd (none-some d e)
with_address_is (Some c) d e = by c.home e
  where
    by : (h : Home) → unless_common h c ≡ Some d → Some c ≡ Some d
    by home.Text k = k
    by home.Data k = k
    by home.Bss k = k
    by home.Common k = absurd (none-some d k)

-- the place of a statement
here_small : (p : Places) → Room p 1 → (here p).offset < 2 ^ 124
here_small p room = by p.part
  where
    by : (q : Part) → reached q p < 2 ^ 124
    by part.Text = omega (arith, room.text)
    by part.Data = omega (arith, room.datum)

-- a definition that a name has here
pub found_small : (t : Table) (p : Places) (name : Name) (d : Definition) → TableFits t → Room p 1 → found t p name ≡ Some d → d.offset < 2 ^ 124
found_small t p Here d fits room e = let is : here p ≡ d = cc in subst (λ (v : Definition). v.offset < 2 ^ 124) is (here_small p room)
found_small t p (Named name) d fits room e = lookup_small (bytes_eq name) t.names d fits.names (with_address_is (lookup (bytes_eq name) t.names) d e)
