-- A visitor that stops at the first number whose key is not listed, and does not stop, has met listed keys alone; and three keys
-- that are distinct.
use Rattle.std.proofs.Common.{◌≡◌, List, [], ◌∷◌, sym, subst, ⊎_elim, map, rules, All, Contains}
use Rattle.std.specs.Prelude.{Result, Ok, Err, OnOk}
use Rattle.std.specs.List.{IsDistinct}
use Rattle.std.proofs.lemmas.List.Elements.{All-nil, All-cons}
use Rattle.stab_symbols.specs.declared.tree.Num.{Num}
use Rattle.stab_symbols.specs.declared.tree.Num.TheVariants.{Pair}
use Rattle.stab_symbols.specs.declared.tree.Key.{Key}
use Rattle.stab_symbols.specs.Keys.{key_of}
use Rattle.stab_symbols.specs.Surface.{same_key}
use Rattle.stab_symbols.specs.TypeWalks.{Visited}
use Rattle.grammar_tests.specs.KeyListing.{GoesOnAtListed}

on_ok : {A E P Q : Type 0} (r : Result A E) → OnOk r P → (P → Q) → OnOk r Q
on_ok (Ok x) p f = f p
on_ok (Err e) p f = tt

-- the keys of all numbers that were visited are listed
pub all_listed : {V E : Type 0} (keys : V → List Key) (ns : List Num) (old new : V) (result : Result (Unit {0}) E)
    → Visited (GoesOnAtListed keys) old ns new result → OnOk result (All (Contains (keys old)) (map key_of ns))
all_listed {V} {E} keys [] old new result v = subst (λ (r : Result (Unit {0}) E). OnOk r (All (Contains (keys old)) [])) (sym v.1) (All-nil (Contains (keys old)))
all_listed {V} {E} keys (n ∷ ns) old new result v = ⊎_elim
    (λ on. on_ok result (all_listed keys ns on.0 new result on.2) (λ rest. All-cons (Contains (keys old)) (key_of n) (map key_of ns) on.1.1
    (subst (λ (s : V). All (Contains (keys s)) (map key_of ns)) on.1.0 rest)))
    (λ stop. subst (λ (r : Result (Unit {0}) E). OnOk r (All (Contains (keys old)) (map key_of (n ∷ ns)))) (sym stop.1) tt)
    v

-- the keys (0,2), (0,1) and (1,3) are distinct
pub distinct_keys : (keys : List Key) → keys ≡ key_of (Pair 0 2) ∷ (key_of (Pair 0 1) ∷ (key_of (Pair 1 3) ∷ [])) → IsDistinct same_key keys
unfolding IsDistinct
distinct_keys keys is_keys = rw is_keys (search rules)
