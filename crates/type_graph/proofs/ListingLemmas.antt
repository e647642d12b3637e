-- A listing has no key twice, and a key has one listing in a unit.
use Rattle.std.proofs.Common.{◌≡◌, ℕ, zero, suc, ◌+◌, ◌<◌, ◌≤◌, length, take, drop, get_or, true, false, List, [], ◌∷◌, ◌++◌, refl, sym, ap, subst, ◌∙◌, ⊎_elim, arith}
use Rattle.std.specs.Prelude.{Some, slice_get, flat_map, Contains}
use Rattle.std.specs.List.{IsDistinct}
use Rattle.std.proofs.lemmas.List.{take-append-drop, take-append-le, take_all, get_or_append_left}
use Rattle.std.proofs.lemmas.Option.{slice_get_within, slice_get-get_or, get_or_from_slice_get}
use Rattle.std.proofs.lemmas.Grind.{flat_map-append}
use Rattle.std.proofs.lemmas.Bool.{cases_lt}
use Rattle.std.proofs.lemmas.Map.Keys.{apart_from_distinct, any_passes_from_place}
use Rattle.stab_symbols.specs.declared.tree.Key.{Key}
use Rattle.stab_symbols.specs.Surface.{same_key}
use Rattle.stab_units.specs.declared.unit.Unit.{Unit}
use Rattle.type_graph.specs.Listings.{IsListing, led_to}
use Rattle.type_graph.specs.KeyLists.{has, firsts}
use Rattle.type_graph.proofs.KeyLemmas.{same_key-laws}
use Rattle.type_graph.proofs.KeyListLemmas.{or_left, or_right, has-decides, has-append, has-firsts, distinct-firsts, firsts-some, joined-append, joined-new, new_in}

-- ---- places

-- a place in the front of a list
slice_get-take : {X : Type 0} (xs : List X) (n k : ℕ) (x : X) → k < n → slice_get xs k ≡ Some x → slice_get (take n xs) k ≡ Some x
slice_get-take [] n k x below e = absurd (cc)
slice_get-take (y ∷ xs) zero k x below e = absurd (omega arith)
slice_get-take (y ∷ xs) (suc n) zero x below e = e
slice_get-take (y ∷ xs) (suc n) (suc k) x below e = slice_get-take xs n k x (omega arith) e

true_not_false : true ≡ false → ⊥
true_not_false e = cc

-- a list has the key at each of its places
pub has-at : (keys : List Key) (place : ℕ) (key : Key) → slice_get keys place ≡ Some key → has keys key ≡ true
has-at keys place key e = any_passes_from_place (same_key key) keys place key e (same_key-laws.refl key)

-- a key that one of them leads to is among all that they lead to
pub has-led : (f : Key → List Key) (keys : List Key) (place : ℕ) (from key : Key) → slice_get keys place ≡ Some from → has (f from) key ≡ true
    → has (flat_map f keys) key ≡ true
has-led f [] place from key at led = absurd (cc)
has-led f (k ∷ keys) zero from key at led =
    let same : k ≡ from = cc in
    has-append (f k) (flat_map f keys) key ∙ or_left (has (f k) key) (has (flat_map f keys) key) (ap (λ (z : Key). has (f z) key) same ∙ led)
has-led f (k ∷ keys) (suc place) from key at led =
    has-append (f k) (flat_map f keys) key ∙ or_right (has (f k) key) (has (flat_map f keys) key) (has-led f keys place from key at led)

-- ---- no key twice

module _ (unit : Unit) (start : Key) (keys : List Key) (is : IsListing unit start keys) where
  -- no key twice
  pub listing-distinct : IsDistinct same_key keys
  listing-distinct = subst (λ (z : List Key). IsDistinct same_key z) (sym is.equation) (distinct-firsts (start ∷ flat_map (led_to unit) keys))

-- ---- there is one listing

-- no key stands at two places
not_twice : (keys : List Key) (i j : ℕ) (key : Key) → IsDistinct same_key keys → i < j → j < length keys → get_or keys i key ≡ key → get_or keys j key ≡ key → ⊥
not_twice keys i j key apart order within early late =
    true_not_false (sym (same_key-laws.refl key) ∙ ap (λ (z : Key). same_key z key) (sym early) ∙ ap (λ (z : Key). same_key (get_or keys i key) z) (sym late)
    ∙ apart_from_distinct same_key keys i j key apart order within)

-- the start, and the keys that these lead to
abbrev sources : Unit → Key → List Key → List Key
sources unit start keys = start ∷ flat_map (led_to unit) keys

-- a key that they lead to is among the firsts
has_among : (unit : Unit) (start : Key) (keys : List Key) (key : Key) → has (flat_map (led_to unit) keys) key ≡ true → has (firsts (sources unit start keys)) key ≡ true
has_among unit start keys key all = has-firsts (sources unit start keys) key ∙ or_right (same_key key start) (has (flat_map (led_to unit) keys) key) all

module _ (unit : Unit) (start : Key) (keys : List Key) (is : IsListing unit start keys) (n : ℕ) where
  -- the keys that the first n lead to, at their first places
  abbrev first_led : List Key
  first_led = firsts (sources unit start (take n keys))

  abbrev behind : List Key
  behind = new_in first_led (flat_map (led_to unit) (drop n keys))

  sources-split : sources unit start keys ≡ sources unit start (take n keys) ++ flat_map (led_to unit) (drop n keys)
  sources-split = ap (sources unit start) (sym (take-append-drop n keys)) ∙ ap (λ (z : List Key). start ∷ z) (flat_map-append (led_to unit) (take n keys) (drop n keys))

  -- they are a front of the listing
  front : keys ≡ first_led ++ behind
  front = is.equation ∙ ap firsts sources-split ∙ joined-append [] (sources unit start (take n keys)) (flat_map (led_to unit) (drop n keys))
      ∙ joined-new first_led (flat_map (led_to unit) (drop n keys))

  -- what one of the first n leads to is among them
  met : (earlier : ℕ) (from key : Key) → earlier < n → slice_get keys earlier ≡ Some from → Contains (led_to unit from) key → Contains first_led key
  met earlier from key below at led =
      let all : has (flat_map (led_to unit) (take n keys)) key ≡ true =
      has-led (led_to unit) (take n keys) earlier from key (slice_get-take keys n earlier from below at) ((has-decides (led_to unit from) key).1 led) in
      (has-decides first_led key).0 (has_among unit start (take n keys) key all)

  -- a key among them stands at an earlier place than n, if they are no more than n
  met_before : length first_led ≤ n → (key : Key) → Contains first_led key → slice_get keys n ≡ Some key → ⊥
  met_before few key here at =
      let early : get_or keys here.0 key ≡ key = ap (λ (z : List Key). get_or z here.0 key) front ∙ get_or_append_left first_led behind key here.0 here.1 ∙ here.2 in
      not_twice keys here.0 n key (listing-distinct unit start keys is) (omega (arith, here.1)) (slice_get_within keys n key at) early (get_or_from_slice_get keys n key key at)

  -- where they are no more than n, no key stands at n
  no_more : length first_led ≤ n → (key : Key) → slice_get keys n ≡ Some key → ⊥
  no_more few key at =
      let l = is.led n key (omega (arith, firsts-some start (flat_map (led_to unit) (take n keys)))) at in
      met_before few key (met l.0 l.1 key l.2 l.3 l.4) at

  -- where they are no more than n, the listing is no longer
  complete : length first_led ≤ n → length keys ≤ n
  complete few = ⊎_elim
      (λ longer. absurd (no_more few (get_or keys n start) (slice_get-get_or keys n start longer)))
      (λ short. short)
      (cases_lt n (length keys))

module _ (unit : Unit) (start : Key) (keys others : List Key) (is : IsListing unit start keys) (too : IsListing unit start others) where
  -- their fronts are the same
  same_fronts : (n : ℕ) → take n keys ≡ take n others
  same_fronts zero = refl
  same_fronts (suc n) =
      let fronts : take n keys ≡ take n others = same_fronts n in
      let led : first_led unit start keys is n ≡ first_led unit start others too n = ap (λ (z : List Key). firsts (sources unit start z)) fronts in
      ⊎_elim
      (λ more. ap (take (suc n)) (front unit start keys is n) ∙ take-append-le (suc n) (first_led unit start keys is n) (behind unit start keys is n) more
      ∙ ap (take (suc n)) led
      ∙ sym (ap (take (suc n)) (front unit start others too n) ∙ take-append-le (suc n) (first_led unit start others too n) (behind unit start others too n)
      (subst (λ (z : List Key). n < length z) led more)))
      (λ few.
      let short : length keys ≤ n = complete unit start keys is n few in
      let short_too : length others ≤ n = complete unit start others too n (subst (λ (z : List Key). length z ≤ n) led few) in
      take_all (suc n) keys (omega arith) ∙ sym (take_all n keys short) ∙ fronts ∙ take_all n others short_too ∙ sym (take_all (suc n) others (omega arith)))
      (cases_lt n (length (first_led unit start keys is n)))

  -- and so are they
  pub one : keys ≡ others
  one =
      let n = length keys + length others in
      sym (take_all n keys (omega arith)) ∙ same_fronts n ∙ take_all n others (omega arith)
