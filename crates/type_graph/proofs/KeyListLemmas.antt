-- Lists in which each key stands once: joining more keys to such a list puts the new ones after it, and the list stays free of
-- repeats.
use Rattle.std.proofs.Common.{◌≡◌, ◌≤◌, length, arith, Bool, true, false, List, [], ◌∷◌, ◌++◌, refl, sym, ap, subst, ◌∙◌, cond, ◌⊎◌, inl, inr, ⊎_elim, append_assoc, append-nil}
use Rattle.std.specs.Prelude.{◌||◌, Contains, Result, Ok, Err, OnOk, map}
use Rattle.std.specs.Bool.{Decides}
use Rattle.std.specs.List.{IsDistinct}
use Rattle.std.proofs.lemmas.List.Folds.{list_any-append}
use Rattle.std.proofs.lemmas.Map.Keys.{IsDistinct-push}
use Rattle.std.proofs.lemmas.Map.Made.{is_member-Decides}
use Rattle.st_base.specs.declared.fault.Memory.{Memory}
use Rattle.stab_symbols.specs.declared.tree.Num.{Num}
use Rattle.stab_symbols.specs.declared.tree.Key.{Key}
use Rattle.stab_symbols.specs.Keys.{key_of}
use Rattle.stab_symbols.specs.TypeWalks.{Visited}
use Rattle.stab_symbols.specs.Surface.{same_key}
use Rattle.type_graph.specs.KeyLists.{has, added, joined, firsts, Adds}
use Rattle.type_graph.proofs.KeyLemmas.{which, same_key-decides, same_key-laws}

-- ---- one test or another

pub or_left : (a b : Bool) → a ≡ true → (a || b) ≡ true
or_left a b e = ap (λ (c : Bool). c || b) e

pub or_right : (a b : Bool) → b ≡ true → (a || b) ≡ true
or_right true b e = refl
or_right false b e = e

pub either : (a b : Bool) → (a || b) ≡ true → (a ≡ true) ⊎ (b ≡ true)
either true b e = inl e
either false b e = inr e

or_more : (a b c : Bool) → (b ≡ true → c ≡ true) → (a || b) ≡ true → (a || c) ≡ true
or_more true b c more e = refl
or_more false b c more e = more e

-- ---- whether a list has a key

pub has-decides : (keys : List Key) (key : Key) → Decides (has keys key) (Contains keys key)
has-decides keys key = is_member-Decides same_key-decides keys key

pub has-append : (keys more : List Key) (key : Key) → has (keys ++ more) key ≡ (has keys key || has more key)
has-append keys more key = list_any-append (same_key key) keys more

pub or_false : (b : Bool) → (b || false) ≡ b
or_false true = refl
or_false false = refl

-- whether it has a key that is put at its end
pub has-push : (keys : List Key) (new key : Key) → has (keys ++ new ∷ []) key ≡ (has keys key || same_key key new)
has-push keys new key = has-append keys (new ∷ []) key ∙ ap (λ (b : Bool). has keys key || b) (or_false (same_key key new))

absorbed : (h s : Bool) → (s ≡ true → h ≡ true) → h ≡ (h || s)
absorbed true s e = refl
absorbed false true e = e refl
absorbed false false e = refl

-- a list that has a key has each key that is the same
has_same : (keys : List Key) (new key : Key) → has keys new ≡ true → same_key key new ≡ true → has keys key ≡ true
has_same keys new key e same = ap (λ (k : Key). has keys k) ((same_key-decides key new).0 same) ∙ e

pub has-added : (keys : List Key) (new key : Key) → has (added keys new) key ≡ (has keys key || same_key key new)
has-added keys new key = ⊎_elim
    (λ e. ap (λ (b : Bool). has (cond b keys (keys ++ new ∷ [])) key) e ∙ absorbed (has keys key) (same_key key new) (has_same keys new key e))
    (λ e. ap (λ (b : Bool). has (cond b keys (keys ++ new ∷ [])) key) e ∙ has-push keys new key)
    (which (has keys new))

pub or_assoc : (a b c : Bool) → ((a || b) || c) ≡ (a || (b || c))
or_assoc true b c = refl
or_assoc false b c = refl

-- what is joined has the keys of both lists
pub has-joined : (keys more : List Key) (key : Key) → has (joined keys more) key ≡ (has keys key || has more key)
has-joined keys [] key = sym (or_false (has keys key))
has-joined keys (new ∷ more) key = has-joined (added keys new) more key ∙ ap (λ (b : Bool). b || has more key) (has-added keys new key)
    ∙ or_assoc (has keys key) (same_key key new) (has more key)

-- ---- no repeats

distinct-added : (keys : List Key) (new : Key) → IsDistinct same_key keys → IsDistinct same_key (added keys new)
distinct-added keys new apart = ⊎_elim
    (λ e. subst (λ (b : Bool). IsDistinct same_key (cond b keys (keys ++ new ∷ []))) (sym e) apart)
    (λ e. subst (λ (b : Bool). IsDistinct same_key (cond b keys (keys ++ new ∷ []))) (sym e) (IsDistinct-push same_key-laws keys new apart e))
    (which (has keys new))

pub distinct-joined : (keys more : List Key) → IsDistinct same_key keys → IsDistinct same_key (joined keys more)
distinct-joined keys [] apart = apart
distinct-joined keys (new ∷ more) apart = distinct-joined (added keys new) more (distinct-added keys new apart)

-- ---- what is put after the list

-- those of more keys that are new, each once
abbrev pub new_in : List Key → List Key → List Key
new_in keys [] = []
new_in keys (key ∷ more) = cond (has keys key) (new_in keys more) (key ∷ new_in (keys ++ key ∷ []) more)

-- what is joined is the list, and after it those that are new
pub joined-new : (keys more : List Key) → joined keys more ≡ keys ++ new_in keys more
joined-new keys [] = sym (append-nil keys)
joined-new keys (key ∷ more) = ⊎_elim
    (λ e. ap (λ (b : Bool). joined (cond b keys (keys ++ key ∷ [])) more) e ∙ joined-new keys more
    ∙ sym (ap (λ (b : Bool). keys ++ cond b (new_in keys more) (key ∷ new_in (keys ++ key ∷ []) more)) e))
    (λ e. ap (λ (b : Bool). joined (cond b keys (keys ++ key ∷ [])) more) e ∙ joined-new (keys ++ key ∷ []) more
    ∙ append_assoc keys (key ∷ []) (new_in (keys ++ key ∷ []) more)
    ∙ sym (ap (λ (b : Bool). keys ++ cond b (new_in keys more) (key ∷ new_in (keys ++ key ∷ []) more)) e))
    (which (has keys key))

-- the new keys are among those that were joined
pub has-new_in : (keys more : List Key) (key : Key) → has (new_in keys more) key ≡ true → has more key ≡ true
has-new_in keys [] key e = e
has-new_in keys (k ∷ more) key e = ⊎_elim
    (λ old. or_right (same_key key k) (has more key)
    (has-new_in keys more key (sym (ap (λ (b : Bool). has (cond b (new_in keys more) (k ∷ new_in (keys ++ k ∷ []) more)) key) old) ∙ e)))
    (λ new. or_more (same_key key k) (has (new_in (keys ++ k ∷ []) more) key) (has more key) (has-new_in (keys ++ k ∷ []) more key)
    (sym (ap (λ (b : Bool). has (cond b (new_in keys more) (k ∷ new_in (keys ++ k ∷ []) more)) key) new) ∙ e))
    (which (has keys k))

-- joining two lists is joining one after the other
pub joined-append : (keys more rest : List Key) → joined keys (more ++ rest) ≡ joined (joined keys more) rest
joined-append keys [] rest = refl
joined-append keys (new ∷ more) rest = joined-append (added keys new) more rest

-- ---- keys at their first places

-- they are the keys of the list
pub has-firsts : (keys : List Key) (key : Key) → has (firsts keys) key ≡ has keys key
has-firsts keys key = has-joined [] keys key

-- and stand there once
pub distinct-firsts : (keys : List Key) → IsDistinct same_key (firsts keys)
unfolding IsDistinct
distinct-firsts keys = distinct-joined [] keys tt

-- there is one at least where the list has one
pub firsts-some : (key : Key) (keys : List Key) → 1 ≤ length (firsts (key ∷ keys))
firsts-some key keys = omega (arith, ap length (joined-new (key ∷ []) keys))

-- ---- keys of numbers

-- what follows from what a call did follows where it did it
on_ok : {A E P Q : Type 0} (r : Result A E) → OnOk r P → (P → Q) → OnOk r Q
on_ok (Ok x) p f = f p
on_ok (Err e) p f = tt

-- visiting numbers joins their keys
pub all_added : (ns : List Num) (old new : List Key) (result : Result (Unit {0}) Memory) → Visited Adds old ns new result → OnOk result (new ≡ joined old (map key_of ns))
all_added [] old new result v = subst (λ (r : Result (Unit {0}) Memory). OnOk r (new ≡ old)) (sym v.1) v.0
all_added (n ∷ ns) old new result v = ⊎_elim
    (λ on. on_ok result (all_added ns on.0 new result on.2) (λ says. says ∙ ap (λ (keys : List Key). joined keys (map key_of ns)) on.1))
    (λ stop. subst (λ (r : Result (Unit {0}) Memory). OnOk r (new ≡ joined old (map key_of (n ∷ ns)))) (sym stop.1) tt)
    v
