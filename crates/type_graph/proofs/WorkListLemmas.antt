-- A listing by a work list: the keys that were found, of which so many are done with. Each step keeps what the list is, it ends
-- with a listing, and there are no more keys than there are on the surfaces of the unit's definitions; so there is a listing.
use Rattle.std.proofs.Common.{◌≡◌, ℕ, zero, suc, ◌+◌, ◌<◌, ◌≤◌, length, take, drop, get_or, Bool, true, false, List, [], ◌∷◌, ◌++◌, refl, sym, ap, subst, ◌∙◌, ◌⊎◌, inl, inr, ⊎_elim, arith, cond, length-append, append-nil}
use Rattle.std.specs.Prelude.{Option, Some, None, slice_get, flat_map, Contains}
use Rattle.std.specs.List.{find}
use Rattle.std.specs.Option.{option_or}
use Rattle.std.proofs.lemmas.List.{take_more, take-append-le, take_all}
use Rattle.std.proofs.lemmas.Bool.{cases_lt}
use Rattle.std.proofs.lemmas.Option.{slice_get_within, slice_get-get_or, get_or_from_slice_get}
use Rattle.std.proofs.lemmas.Grind.{flat_map-append}
use Rattle.std.proofs.lemmas.Map.Made.{length-le_from_is_member}
use Rattle.stab_symbols.specs.declared.tree.Key.{Key}
use Rattle.stab_symbols.specs.declared.tree.TypeTree.{TypeTree}
use Rattle.stab_symbols.specs.Definitions.{Definition}
use Rattle.stab_symbols.specs.Surface.{same_key, surface_of}
use Rattle.stab_units.specs.declared.unit.Unit.{Unit}
use Rattle.type_graph.specs.Types.{first_of, body_of, is_full, is_any, definitions_of, file_symbols}
use Rattle.type_graph.specs.Searches.{file_definitions}
use Rattle.type_graph.specs.Listings.{IsListing, led_to, surface_keys}
use Rattle.type_graph.specs.KeyLists.{has, joined, firsts}
use Rattle.type_graph.proofs.KeyLemmas.{which, same_key-laws}
use Rattle.type_graph.proofs.KeyListLemmas.{or_left, or_right, either, has-decides, has-append, has-firsts, distinct-firsts, joined-append, joined-new, new_in, has-new_in}
use Rattle.type_graph.proofs.ListingLemmas.{has-at}
use Rattle.type_graph.proofs.OrderLemmas.{own_and_all, first-in_order, all-split}

-- ---- what the list is

-- every key but the first stands on the surface of the definition of an earlier one
abbrev pub Led : Unit → List Key → Type 0
Led unit keys = (place : ℕ) (key : Key) → 0 < place → slice_get keys place ≡ Some key
    → (earlier : ℕ) × (from : Key) × (earlier < place) × (slice_get keys earlier ≡ Some from) × Contains (led_to unit from) key

-- the keys are the start and what the first `done` of them lead to
pub record Listed (unit : Unit) (start : Key) (keys : List Key) (done : ℕ) : Type 0 where
  pub within : done ≤ length keys
  pub led : Led unit keys
  pub equation : keys ≡ firsts (start ∷ flat_map (led_to unit) (take done keys))

-- ---- places in two lists

slice_get-kept : {X : Type 0} (xs ys : List X) (k : ℕ) (x : X) → slice_get xs k ≡ Some x → slice_get (xs ++ ys) k ≡ Some x
slice_get-kept [] ys k x e = absurd (cc)
slice_get-kept (y ∷ xs) ys zero x e = e
slice_get-kept (y ∷ xs) ys (suc k) x e = slice_get-kept xs ys k x e

slice_get-split : {X : Type 0} (xs ys : List X) (k : ℕ) (x : X) → slice_get (xs ++ ys) k ≡ Some x
    → (slice_get xs k ≡ Some x) ⊎ ((length xs ≤ k) × ((j : ℕ) × (slice_get ys j ≡ Some x)))
slice_get-split [] ys k x e = inr (omega arith, (k, e))
slice_get-split (y ∷ xs) ys zero x e = inl e
slice_get-split (y ∷ xs) ys (suc k) x e = ⊎_elim (λ h. inl h) (λ h. inr (omega (arith, h.0), h.1)) (slice_get-split xs ys k x e)

-- ---- the list as it begins

-- before any key is done with, it is the start alone
pub listed-start : (unit : Unit) (start : Key) → Listed unit start (start ∷ []) 0
listed-start unit start = record {
  within = omega arith;
  led = only;
  equation = refl;
} where
  only : Led unit (start ∷ [])
  only zero key above e = absurd (omega arith)
  only (suc place) key above e = absurd (cc)

-- ---- one key more is done with

false_not_true : false ≡ true → ⊥
false_not_true e = cc

module _ (unit : Unit) (start : Key) (keys : List Key) (done : ℕ) (from : Key) (was : Listed unit start keys done) (at : slice_get keys done ≡ Some from) where
  abbrev new : List Key
  new = new_in keys (led_to unit from)

  below : done < length keys
  below = slice_get_within keys done from at

  step-within : done + 1 ≤ length (keys ++ new)
  step-within = omega (arith, below, length-append keys new)

  -- a key after the list is one that the key leads to
  step-behind : (place : ℕ) (key : Key) → (length keys ≤ place) × ((j : ℕ) × (slice_get new j ≡ Some key))
      → (earlier : ℕ) × (source : Key) × (earlier < place) × (slice_get (keys ++ new) earlier ≡ Some source) × Contains (led_to unit source) key
  step-behind place key behind = (
    done,
    from,
    omega (arith, below, behind.0),
    slice_get-kept keys new done from at,
    (has-decides (led_to unit from) key).0 (has-new_in keys (led_to unit from) key (has-at new behind.1.0 key behind.1.1)),
  )

  step-before : (place : ℕ) (key : Key) → 0 < place → slice_get keys place ≡ Some key
      → (earlier : ℕ) × (source : Key) × (earlier < place) × (slice_get (keys ++ new) earlier ≡ Some source) × Contains (led_to unit source) key
  step-before place key above here =
      let l = was.led place key above here in
      (l.0, l.1, l.2, slice_get-kept keys new l.0 l.1 l.3, l.4)

  step-led : Led unit (keys ++ new)
  step-led place key above e = ⊎_elim (step-before place key above) (step-behind place key) (slice_get-split keys new place key e)

  one_more : take (done + 1) (keys ++ new) ≡ take done keys ++ from ∷ []
  one_more = take-append-le (done + 1) keys new (omega (arith, below)) ∙ take_more keys done from below
      ∙ ap (λ (z : Key). take done keys ++ z ∷ []) (get_or_from_slice_get keys done from from at)

  led_more : flat_map (led_to unit) (take done keys ++ from ∷ []) ≡ flat_map (led_to unit) (take done keys) ++ led_to unit from
  led_more = flat_map-append (led_to unit) (take done keys) (from ∷ []) ∙ ap (λ (z : List Key). flat_map (led_to unit) (take done keys) ++ z) (append-nil (led_to unit from))

  step-equation : keys ++ new ≡ firsts (start ∷ flat_map (led_to unit) (take (done + 1) (keys ++ new)))
  step-equation = sym (joined-new keys (led_to unit from))
      ∙ ap (λ (z : List Key). joined z (led_to unit from)) was.equation
      ∙ sym (joined-append [] (start ∷ flat_map (led_to unit) (take done keys)) (led_to unit from))
      ∙ ap (λ (z : List Key). firsts (start ∷ z)) (sym led_more)
      ∙ ap (λ (z : List Key). firsts (start ∷ flat_map (led_to unit) z)) (sym one_more)

  step-made : Listed unit start (keys ++ new) (done + 1)
  step-made = record { within = step-within; led = step-led; equation = step-equation }

  -- joining what a key leads to is being done with it
  pub listed-step : (next : List Key) → next ≡ joined keys (led_to unit from) → Listed unit start next (done + 1)
  listed-step next e = subst (λ (z : List Key). Listed unit start z (done + 1)) (sym (e ∙ joined-new keys (led_to unit from))) step-made

-- ---- the list as it ends

module _ (unit : Unit) (start : Key) (keys : List Key) (done : ℕ) (was : Listed unit start keys done) where
  -- once all keys are done with, it is a listing
  pub listed-all : length keys ≤ done → IsListing unit start keys
  listed-all end =
      let all : take done keys ≡ keys = take_all done keys end in
      record {
        begins = ap (λ (z : List Key). slice_get z 0) (was.equation ∙ joined-new (start ∷ []) (flat_map (led_to unit) (take done keys)));
        led = was.led;
        equation = was.equation ∙ ap (λ (z : List Key). firsts (start ∷ flat_map (led_to unit) z)) all;
      }

-- ---- how many keys there can be

-- the keys on the surface of a definition
abbrev pub surface_of_definition : Definition → List Key
surface_of_definition d = surface_of d.body

-- the start, and all keys on the surfaces of the unit's definitions
abbrev pub all_there_are : Unit → Key → List Key
all_there_are unit start = start ∷ flat_map surface_of_definition (file_definitions unit.files)

module _ (key : Key) where
  -- a key on the surface of a definition that a search finds is on that of one of those that are searched
  found-within : (test : Definition → Bool) (ds : List Definition) → has (surface_keys (body_of (find test ds))) key ≡ true
      → has (flat_map surface_of_definition ds) key ≡ true
  found-within test [] e = e
  found-within test (d ∷ ds) e = has-append (surface_of d.body) (flat_map surface_of_definition ds) key ∙ ⊎_elim
      (λ yes. or_left (has (surface_of d.body) key) (has (flat_map surface_of_definition ds) key)
      (sym (ap (λ (b : Bool). has (surface_keys (body_of (cond b (Some d) (find test ds)))) key) yes) ∙ e))
      (λ no. or_right (has (surface_of d.body) key) (has (flat_map surface_of_definition ds) key)
      (found-within test ds (sym (ap (λ (b : Bool). has (surface_keys (body_of (cond b (Some d) (find test ds)))) key) no) ∙ e)))
      (which (test d))

  option_or-within : (a b : Option Definition) (r : Bool) → (has (surface_keys (body_of a)) key ≡ true → r ≡ true) → (has (surface_keys (body_of b)) key ≡ true → r ≡ true)
      → has (surface_keys (body_of (option_or a b))) key ≡ true → r ≡ true
  option_or-within None b r first second e = second e
  option_or-within (Some d) b r first second e = first e

  first_of-within : (from : Key) (ds : List Definition) → has (surface_keys (first_of from ds)) key ≡ true → has (flat_map surface_of_definition ds) key ≡ true
  first_of-within from ds = option_or-within (find (is_full from) ds) (find (is_any from) ds) (has (flat_map surface_of_definition ds) key)
      (found-within (is_full from) ds) (found-within (is_any from) ds)

  -- the keys on the surfaces of all definitions of the unit
  abbrev in_all : Unit → Bool
  in_all unit = has (flat_map surface_of_definition (file_definitions unit.files)) key

  -- the definitions of one file are among those of all
  own-within : (unit : Unit) (file : ℕ) → has (flat_map surface_of_definition (definitions_of (file_symbols unit file))) key ≡ true → in_all unit ≡ true
  own-within unit file e =
      let before : List Definition = file_definitions (take file unit.files) in
      let own : List Definition = definitions_of (file_symbols unit file) in
      let behind : List Definition = file_definitions (drop (file + 1) unit.files) in
      let surfaces = λ (ds : List Definition). flat_map surface_of_definition ds in
      ap (λ (ds : List Definition). has (surfaces ds) key) (all-split unit.files file)
      ∙ ap (λ (keys : List Key). has keys key) (flat_map-append surface_of_definition before (own ++ behind))
      ∙ has-append (surfaces before) (surfaces (own ++ behind)) key
      ∙ or_right (has (surfaces before) key) (has (surfaces (own ++ behind)) key)
      (ap (λ (keys : List Key). has keys key) (flat_map-append surface_of_definition own behind)
      ∙ has-append (surfaces own) (surfaces behind) key
      ∙ or_left (has (surfaces own) key) (has (surfaces behind) key) e)

  own_and_all-within : (unit : Unit) (from : Key) → has (flat_map surface_of_definition (own_and_all unit from)) key ≡ true → in_all unit ≡ true
  own_and_all-within unit from e =
      let own : List Definition = definitions_of (file_symbols unit from.file) in
      let all : List Definition = file_definitions unit.files in
      ⊎_elim (own-within unit from.file) (λ here. here)
      (either (has (flat_map surface_of_definition own) key) (has (flat_map surface_of_definition all) key)
      (sym (has-append (flat_map surface_of_definition own) (flat_map surface_of_definition all) key)
      ∙ sym (ap (λ (keys : List Key). has keys key) (flat_map-append surface_of_definition own all)) ∙ e))

  -- what a key leads to is on the surfaces of the unit's definitions
  led_to-within : (unit : Unit) (from : Key) → has (led_to unit from) key ≡ true → in_all unit ≡ true
  led_to-within unit from e = own_and_all-within unit from
      (first_of-within from (own_and_all unit from) (ap (λ (o : Option TypeTree). has (surface_keys o) key) (first-in_order unit from) ∙ e))

  all_led-within : (unit : Unit) (froms : List Key) → has (flat_map (led_to unit) froms) key ≡ true → in_all unit ≡ true
  all_led-within unit [] e = absurd (false_not_true e)
  all_led-within unit (from ∷ froms) e = ⊎_elim (led_to-within unit from) (all_led-within unit froms)
      (either (has (led_to unit from) key) (has (flat_map (led_to unit) froms) key) (sym (has-append (led_to unit from) (flat_map (led_to unit) froms) key) ∙ e))

-- there are no more keys than these
pub listed-bound : (unit : Unit) (start : Key) (keys : List Key) (done : ℕ) → Listed unit start keys done → length keys ≤ length (all_there_are unit start)
listed-bound unit start keys done was =
    let sources : List Key = start ∷ flat_map (led_to unit) (take done keys) in
    subst (λ (z : List Key). length z ≤ length (all_there_are unit start)) (sym was.equation)
    (length-le_from_is_member same_key-laws (firsts sources) (all_there_are unit start) (distinct-firsts sources)
    (λ key e. ⊎_elim
    (or_left (same_key key start) (has (flat_map surface_of_definition (file_definitions unit.files)) key))
    (λ led. or_right (same_key key start) (has (flat_map surface_of_definition (file_definitions unit.files)) key) (all_led-within key unit (take done keys) led))
    (either (same_key key start) (has (flat_map (led_to unit) (take done keys)) key) (sym (has-firsts sources key) ∙ e))))

-- ---- there is a listing

module _ (unit : Unit) (start : Key) where
  -- going on from a key that is not done with, until all are
  pub listed-on : (steps : ℕ) (keys : List Key) (done : ℕ) → Listed unit start keys done → length (all_there_are unit start) ≤ done + steps
      → (all : List Key) × IsListing unit start all
  listed-on zero keys done was enough = (keys, listed-all unit start keys done was (omega (arith, enough, listed-bound unit start keys done was)))
  listed-on (suc steps) keys done was enough = ⊎_elim
      (λ left.
      let from : Key = get_or keys done start in
      listed-on steps (joined keys (led_to unit from)) (done + 1)
      (listed-step unit start keys done from was (slice_get-get_or keys done start left) (joined keys (led_to unit from)) refl)
      (omega (arith, enough)))
      (λ end. (keys, listed-all unit start keys done was end))
      (cases_lt done (length keys))

  -- from the start on
  pub some_listing : (keys : List Key) × IsListing unit start keys
  some_listing = listed-on (length (all_there_are unit start)) (start ∷ []) 0 (listed-start unit start) (omega arith)
