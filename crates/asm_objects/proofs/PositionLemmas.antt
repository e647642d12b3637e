-- The places that a pass down the statements keeps are sums of the sizes before them.
use Rattle.std.proofs.Common.{◌≡◌, ℕ, zero, suc, ◌+◌, ◌-◌, ◌*◌, ◌/◌, ◌%◌, ◌^◌, ◌<◌, ◌≤◌, Bool, true, false, cond, not, List, [], ◌∷◌, ◌++◌, length, take, sum, slice_get, fold, Some, refl, sym, ap, subst, ◌∙◌, inl, inr, arith, flat_map}
use Rattle.std.specs.Prelude.{count_by}
use Rattle.std.proofs.lemmas.Bool.{cases_lt, lt-leb, le-leb}
use Rattle.std.proofs.lemmas.List.Sums.{sum_by-cons}
use Rattle.std.proofs.lemmas.Option.{none-some, same_Some, unwrap_or-slice_get}
use Rattle.std.proofs.lemmas.List.{get_or_default}
use Rattle.std.proofs.lemmas.Nat.{div-add-mod', mul-le, pow_pos}
use Rattle.std.proofs.Math.Nat.{mod-eq_of_lt, mod-lt, mod_self}
use Rattle.asm_objects.specs.declared.limits.TheConstants.{GREATEST_POWER}
use Rattle.st_base.specs.Multiples.{aligned}
use Rattle.asm_objects.specs.Layout.{after, moved, listed, reserved, grown_in, is_local, padding, end_of, reached, start}
use Rattle.asm_objects.specs.Positions.{last_or, switched, IsLeastMultiple, Pads, Takes, TakesIn, Reserves, IsSum, gives_entry, IsPlace}
use Rattle.asm_statements.specs.declared.statement.Part.{Part}
use Rattle.asm_statements.specs.declared.statement.Part.TheVariants as part
use Rattle.asm_statements.specs.declared.statement.Statement.{Statement}
use Rattle.asm_statements.specs.declared.statement.What.{What}
use Rattle.asm_statements.specs.declared.statement.What.TheVariants as what
use Rattle.asm_objects.specs.declared.table.Places.{Places}
use Rattle.asm_statements.specs.Directives.{size_of_width}
use Rattle.asm_objects.proofs.LeftLemmas.{past_after}

-- ---- the last item

pub last_or-cons : {X : Type 0} (none x : X) (xs : List X) → last_or none (x ∷ xs) ≡ last_or x xs
last_or-cons none x [] = refl
last_or-cons none x (y ∷ ys) =
    let e : length (x ∷ y ∷ ys) - 1 ≡ suc (length ys) = omega arith in
    let f : length (y ∷ ys) - 1 ≡ length ys = omega arith in
    rw (e, f)
    (unwrap_or-slice_get (y ∷ ys) (length ys) none ∙ get_or_default (y ∷ ys) (length ys) none x (omega arith) ∙ sym (unwrap_or-slice_get (y ∷ ys) (length ys) x))

pub last_is : {X : Type 0} (none : X) (xs : List X) → fold (λ old new. new) none xs ≡ last_or none xs
last_is none [] = refl
last_is none (x ∷ xs) = last_is x xs ∙ sym (last_or-cons none x xs)

-- ---- least multiples

pub four : (n : ℕ) → IsLeastMultiple 4 n (aligned n)
four n = record { times = (n + 3) / 4; is = refl; reaches = omega arith; least = λ k h. omega (arith, h) }

none_left : (u place : ℕ) → 0 ≡ place % u → (u - place % u) % u ≡ 0
none_left u place is = let e : u - place % u ≡ u = omega (arith, is) in ap (λ k. k % u) e ∙ mod_self u

padded_by : (u place q r : ℕ) → 0 < u → q * u + r ≡ place → r < u → r ≡ place % u → IsLeastMultiple u place (place + (u - place % u) % u)
padded_by u place q zero some whole below is = record {
  times = q;
  is = omega (arith, whole, none_left u place is);
  reaches = omega arith;
  least = λ k h. omega (arith, h, none_left u place is);
}
padded_by u place q (suc r) some whole below is =
    let size : (u - place % u) % u ≡ u - suc r = rw (← is) (mod-eq_of_lt (omega (arith, below, some))) in
    let end : place + (u - place % u) % u ≡ suc q * u = omega (arith, size, whole, below) in
    record {
      times = suc q;
      is = end;
      reaches = omega arith;
      least = λ k h. rw end (mul-le (suc q) u k u (later k h) (omega arith));
    }
  where
    later : (k : ℕ) → place ≤ k * u → suc q ≤ k
    later k h = elim (cases_lt q k) [
      | inl less ↦ less
      | inr few ↦ let small : k * u ≤ q * u = mul-le k u q u few (omega arith) in absurd (omega (arith, small, h, whole))
    ]

pub padded : (u place : ℕ) → 0 < u → IsLeastMultiple u place (place + (u - place % u) % u)
padded u place some = padded_by u place (place / u) (place % u) some (div-add-mod' place u) (mod-lt place some) refl

pads : (power place : ℕ) → Pads power place (padding power place)
pads power place = (
  λ small. rw (le-leb power GREATEST_POWER small) (padded (2 ^ power) place (pow_pos power)),
  λ large. rw (lt-leb power GREATEST_POWER large) (omega arith),
)

-- ---- one statement

same_less : (n : ℕ) → n - n ≡ 0
same_less n = omega arith

more_less : (n k : ℕ) → n + k - n ≡ k
more_less n k = omega arith

no_bytes : (q : Part) (p : Places) (without : Bool) → reached q (listed p without) - reached q p ≡ 0
no_bytes part.Text p true = same_less p.text
no_bytes part.Text p false = same_less p.text
no_bytes part.Data p true = same_less p.datum
no_bytes part.Data p false = same_less p.datum

reserved_no_bytes : (q : Part) (p : Places) (n : ℕ) (without : Bool) → reached q (listed (reserved p n) without) - reached q p ≡ 0
reserved_no_bytes part.Text p n true = same_less p.text
reserved_no_bytes part.Text p n false = same_less p.text
reserved_no_bytes part.Data p n true = same_less p.datum
reserved_no_bytes part.Data p n false = same_less p.datum

switch_no_bytes : (q r : Part) (p : Places) → reached q (record p { part = r }) - reached q p ≡ 0
switch_no_bytes part.Text r p = same_less p.text
switch_no_bytes part.Data r p = same_less p.datum

-- a statement that takes no bytes, and one that takes these
none_taken : (q r : Part) (w : What) (place size : ℕ) → Takes w place size → size ≡ 0 → TakesIn q r w place size
none_taken part.Text part.Text w place size takes none = takes
none_taken part.Text part.Data w place size takes none = none
none_taken part.Data part.Text w place size takes none = none
none_taken part.Data part.Data w place size takes none = takes

some_taken : (q r : Part) (p : Places) (w : What) (n : ℕ) → Takes w (reached r p) n → TakesIn q r w (reached q p) (reached q (grown_in r p n) - reached q p)
some_taken part.Text part.Text p w n takes = subst (λ (k : ℕ). Takes w p.text k) (sym (more_less p.text n)) takes
some_taken part.Text part.Data p w n takes = same_less p.text
some_taken part.Data part.Text p w n takes = same_less p.datum
some_taken part.Data part.Data p w n takes = subst (λ (k : ℕ). Takes w p.datum k) (sym (more_less p.datum n)) takes

-- what a statement adds to a segment is its size there
taken : (q : Part) (p : Places) (w : What) → TakesIn q p.part w (reached q p) (reached q (moved p w) - reached q p)
taken q p (what.Label name) = let none = no_bytes q p (is_local name) in none_taken q p.part _ _ _ none none
taken q p (what.Switch r) = let none = switch_no_bytes q r p in none_taken q p.part _ _ _ none none
taken q p (what.Field width expression) = some_taken q p.part p _ (size_of_width width) refl
taken q p (what.Space n) = some_taken q p.part p _ n refl
taken q p (what.Globl name) = let none = same_less (reached q p) in none_taken q p.part _ _ _ none none
taken q p (what.Comm name n) = let none = no_bytes q p false in none_taken q p.part _ _ _ none none
taken q p (what.Lcomm name n) = let none = reserved_no_bytes q p n (is_local name) in none_taken q p.part _ _ _ none none
taken q p (what.Stab s) = let none = no_bytes q p false in none_taken q p.part _ _ _ none none
taken q p (what.Bytes bytes) = some_taken q p.part p _ (length bytes) refl
taken q p (what.Align n) = some_taken q p.part p _ (padding n (reached p.part p)) (pads n (reached p.part p))
taken q p (what.Entry n) = let none = same_less (reached q p) in none_taken q p.part _ _ _ none none
taken q p (what.Machine n) = let none = same_less (reached q p) in none_taken q p.part _ _ _ none none
taken q p (what.Bsize n) = let none = same_less (reached q p) in none_taken q p.part _ _ _ none none
taken q p (what.Rel r) = let none = same_less (reached q p) in none_taken q p.part _ _ _ none none

-- bss
listed_bss : (p : Places) (without : Bool) → (listed p without).bss - p.bss ≡ 0
listed_bss p true = same_less p.bss
listed_bss p false = same_less p.bss

grown_bss : (q : Part) (p : Places) (n : ℕ) → (grown_in q p n).bss - p.bss ≡ 0
grown_bss part.Text p n = same_less p.bss
grown_bss part.Data p n = same_less p.bss

reserved_bss : (p : Places) (n : ℕ) (without : Bool) → p.bss + ((listed (reserved p n) without).bss - p.bss) ≡ aligned p.bss + n
reserved_bss p n true = let up = (four p.bss).reaches in omega (arith, up)
reserved_bss p n false = let up = (four p.bss).reaches in omega (arith, up)

kept : (p : Places) (w : What) → Reserves w p.bss ((moved p w).bss - p.bss)
kept p (what.Label name) = listed_bss p (is_local name)
kept p (what.Switch r) = same_less p.bss
kept p (what.Field width expression) = grown_bss p.part p (size_of_width width)
kept p (what.Space n) = grown_bss p.part p n
kept p (what.Globl name) = same_less p.bss
kept p (what.Comm name n) = listed_bss p false
kept p (what.Lcomm name n) = (aligned p.bss, four p.bss, reserved_bss p n (is_local name))
kept p (what.Stab s) = listed_bss p false
kept p (what.Bytes bytes) = grown_bss p.part p (length bytes)
kept p (what.Align n) = grown_bss p.part p (padding n (reached p.part p))
kept p (what.Entry n) = same_less p.bss
kept p (what.Machine n) = same_less p.bss
kept p (what.Bsize n) = same_less p.bss
kept p (what.Rel r) = same_less p.bss

-- the entries, and the segment
listed_entries : (p : Places) (without : Bool) → (listed p without).entries ≡ p.entries + cond (not without) 1 0
listed_entries p true = omega arith
listed_entries p false = refl

grown_entries : (q : Part) (p : Places) (n : ℕ) → (grown_in q p n).entries ≡ p.entries + 0
grown_entries part.Text p n = omega arith
grown_entries part.Data p n = omega arith

counted : (p : Places) (w : What) → (moved p w).entries ≡ p.entries + cond (gives_entry w) 1 0
counted p (what.Label name) = listed_entries p (is_local name)
counted p (what.Field width expression) = grown_entries p.part p (size_of_width width)
counted p (what.Space n) = grown_entries p.part p n
counted p (what.Comm name n) = refl
counted p (what.Lcomm name n) = listed_entries (reserved p n) (is_local name)
counted p (what.Stab s) = refl
counted p (what.Bytes bytes) = grown_entries p.part p (length bytes)
counted p (what.Align n) = grown_entries p.part p (padding n (reached p.part p))
counted p _ = omega arith

listed_part : (p : Places) (without : Bool) → (listed p without).part ≡ p.part
listed_part p true = refl
listed_part p false = refl

grown_part : (q : Part) (p : Places) (n : ℕ) → (grown_in q p n).part ≡ p.part
grown_part part.Text p n = refl
grown_part part.Data p n = refl

part_after : (p : Places) (w : What) → (moved p w).part ≡ last_or p.part (switched w)
part_after p (what.Label name) = listed_part p (is_local name)
part_after p (what.Switch r) = refl
part_after p (what.Field width expression) = grown_part p.part p (size_of_width width)
part_after p (what.Space n) = grown_part p.part p n
part_after p (what.Lcomm name n) = listed_part (reserved p n) (is_local name)
part_after p (what.Bytes bytes) = grown_part p.part p (length bytes)
part_after p (what.Align n) = grown_part p.part p (padding n (reached p.part p))
part_after p _ = refl

-- ---- the statements before a place

last_or-append : {X : Type 0} (none : X) (xs ys : List X) → last_or none (xs ++ ys) ≡ last_or (last_or none xs) ys
last_or-append none [] ys = refl
last_or-append none (x ∷ xs) ys =
    last_or-cons none x (xs ++ ys) ∙ last_or-append x xs ys ∙ ap (λ (d : _). last_or d ys) (sym (last_or-cons none x xs))

-- the segment is that of the last switch
pub part_is : (p : Places) (ss : List Statement) → (end_of p ss).part ≡ last_or p.part (flat_map (λ s. switched s.what) ss)
part_is p [] = refl
part_is p (s ∷ ss) =
    part_is (after p s) ss ∙ ap (λ (q : Part). last_or q (flat_map (λ (s : Statement). switched s.what) ss)) (part_after p s.what)
    ∙ sym (last_or-append p.part (switched s.what) (flat_map (λ (s : Statement). switched s.what) ss))

entries_are : (p : Places) (ss : List Statement) → (end_of p ss).entries ≡ p.entries + count_by (λ s. gives_entry s.what) ss
entries_are p [] = omega arith
entries_are p (s ∷ ss) =
    let first = sum_by-cons (λ (s : Statement). cond (gives_entry s.what) 1 0) s ss in
    let here = counted p s.what in
    omega (arith, first, here, entries_are (after p s) ss)

number_is : (p : Places) (ss : List Statement) → (end_of p ss).number ≡ p.number + length ss
number_is p [] = omega arith
number_is p (s ∷ ss) = omega (arith, number_is (after p s) ss)

-- how much each statement adds
abbrev added : (Places → ℕ) → Places → List Statement → List ℕ
added f p [] = []
added f p (s ∷ ss) = (f (after p s) - f p) ∷ added f (after p s) ss

length-added : (f : Places → ℕ) (p : Places) (ss : List Statement) → length (added f p ss) ≡ length ss
length-added f p [] = refl
length-added f p (s ∷ ss) = ap suc (length-added f (after p s) ss)

take-added : (f : Places → ℕ) (n : ℕ) (p : Places) (ss : List Statement) → take n (added f p ss) ≡ added f p (take n ss)
take-added f zero p ss = refl
take-added f (suc n) p [] = refl
take-added f (suc n) p (s ∷ ss) = ap (λ (l : List ℕ). (f (after p s) - f p) ∷ l) (take-added f n (after p s) ss)

sum-added : (f : Places → ℕ) (p : Places) (ss : List Statement) → ((q : Places) (s : Statement) → f q ≤ f (after q s)) → f p + sum (added f p ss) ≡ f (end_of p ss)
sum-added f p [] grows = omega arith
sum-added f p (s ∷ ss) grows =
    let first = sum_by-cons (λ (k : ℕ). k) (f (after p s) - f p) (added f (after p s) ss) in
    let up = grows p s in
    omega (arith, first, up, sum-added f (after p s) ss grows)

added-at : (f : Places → ℕ) (n : ℕ) (p : Places) (ss : List Statement) (s : Statement) (size : ℕ) → slice_get ss n ≡ Some s → slice_get (added f p ss) n ≡ Some size
    → size ≡ f (after (end_of p (take n ss)) s) - f (end_of p (take n ss))
added-at f n p [] s size at is = absurd (none-some s at)
added-at f zero p (x ∷ ss) s size at is = let same : x ≡ s = cc in let e : f (after p x) - f p ≡ size = same_Some _ size is in sym (rw same at e)
added-at f (suc n) p (x ∷ ss) s size at is = added-at f n (after p x) ss s size at is

-- a counter that each statement moves on by its size is the sum of the sizes
summed : (Size : Part → What → ℕ → ℕ → Type 0) (f : Places → ℕ) → f start ≡ 0 → ((q : Places) (s : Statement) → f q ≤ f (after q s))
    → ((q : Places) (s : Statement) → Size q.part s.what (f q) (f (after q s) - f q)) → (before : List Statement) → IsSum Size before (f (end_of start before))
summed Size f none grows steps before = record {
  sizes = added f start before;
  as_many = length-added f start before;
  each = λ n s size at is.
      let e = added-at f n start before s size at is in
      let sum' : sum (take n (added f start before)) ≡ f (end_of start (take n before)) =
      ap sum (take-added f n start before) ∙ (let t = sum-added f start (take n before) grows in omega (arith, t, none)) in
      rw (e, sum', ← part_is start (take n before)) (steps (end_of start (take n before)) s);
  is = let t = sum-added f start before grows in omega (arith, t, none);
}

pub placed : (before : List Statement) → IsPlace before (end_of start before)
placed before = record {
  stands_in = part_is start before;
  text = summed (TakesIn part.Text) (λ p. p.text) refl (λ q s. (past_after q s).text) (λ q s. taken part.Text q s.what) before;
  datum = summed (TakesIn part.Data) (λ p. p.datum) refl (λ q s. (past_after q s).datum) (λ q s. taken part.Data q s.what) before;
  bss = summed (λ q w. Reserves w) (λ p. p.bss) refl (λ q s. (past_after q s).bss) (λ q s. kept q s.what) before;
  entries = let e = entries_are start before in omega (arith, e);
  number = let e = number_is start before in omega (arith, e);
}
